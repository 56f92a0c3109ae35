-- The timer of the pacer of an open end: a poll sets it to the moment that the pacer names, or
-- stops it; any other call leaves it or stops it.
use Rattle.std.proofs.Common.{◌≡◌, ℕ, Bool, true, false, List, [], Option, Some, None, refl, sym, ap, ◌∙◌, subst, ◌⊎◌, inl, inr}
use Rattle.quic_wire_core.specs.StreamId.{other_side}
use Rattle.quic_machine.specs.declared.answers.State.{State}
use Rattle.quic_machine.specs.declared.answers.State.TheVariants as states
use Rattle.quic_machine.specs.declared.run.Call.{Call}
use Rattle.quic_machine.specs.declared.run.Call.TheVariants as calls
use Rattle.quic_machine.specs.declared.run.Answer.{Answer}
use Rattle.quic_machine.specs.Policy.{Policy}
use Rattle.quic_machine.specs.Closing.{ticked}
use Rattle.quic_machine.specs.End.{End, with_closing, with_window, closed_by}
use Rattle.quic_machine.specs.Control.{Gated, paced_until, with_pacing_timer}
use Rattle.quic_machine.specs.Poll.{gated, probed, goes, sends, polled_if, polled_in, polled, Ready, leaves_unless, bounds, request_queued}
use Rattle.quic_wire_core.specs.declared.stream_id.Side.{Side}
use Rattle.quic_machine.specs.Machine.{World, after_call, end_at, control_at, given_by, policy_at}
use Rattle.quic_machine.specs.CallCases.{is_poll}
use Rattle.quic_machine.specs.PollCases.{ready_at, draft_at, probe_leaves, by_probed, by_gate, search_leaves, composes, may_leave_at}
use Rattle.quic_headline.specs.Runs.{Run}
use Rattle.quic_headline.specs.Polls.{PacerSetsItsTimer, pacing_at, pacer_names}
use Rattle.quic_headline.proofs.Packets.Probes.{by_going}
use Rattle.quic_headline.proofs.Steps.Made.{made_end}
use Rattle.quic_machine.specs.declared.answers.LostReason.{LostReason}
use Rattle.quic_headline.proofs.Places.Parties.{with_shown, shown_at}
use Rattle.quic_headline.proofs.Packets.Closes.{closes_left}
use Rattle.quic_headline.proofs.Packets.EndMoves.{Cause, cause_of, IsPoll, Keeps}
use Rattle.quic_headline.proofs.Packets.EndMoves as moves
use Rattle.quic_headline.proofs.Packets.ByMoves.{no_poll, behind_call}

-- the timer isn't set, or is set as this says
abbrev Paces : Option ℕ → End → Type 0
Paces o e = (e.timers.pacing ≡ None) ⊎ (e.timers.pacing ≡ o)

-- ---- a poll

-- the end that asks its pacer
abbrev asking_end : End → ℕ → End
asking_end e now = request_queued (probed (with_pacing_timer (with_closing e (ticked e.closing now)) None))

-- the moment that the pacer names
abbrev names : End → ℕ → Option ℕ
names e now = paced_until (asking_end e now)

-- what waits for a probe to carry names no other, nor does ACK_FREQUENCY
probed_names : (x : End) → paced_until (request_queued (probed x)) ≡ paced_until x
probed_names x = by_probed x (λ (z : End). paced_until z ≡ paced_until x) refl (λ immediate. refl) (λ immediate. refl) (λ immediate q probes is. refl)

-- nor does whether more may go to the address
pub names_shown : (side : Side) (w : World) (now : ℕ) → names (with_shown (end_at side w) (shown_at side w)) now ≡ pacer_names side w now
names_shown side w now =
    let e : End = with_window (end_at side w) (control_at side w []) in
    let x : End = with_pacing_timer (with_closing e (ticked e.closing now)) None in
    let f : End = with_shown (end_at side w) (shown_at side w) in
    let y : End = with_pacing_timer (with_closing f (ticked f.closing now)) None in
    let same : paced_until y ≡ paced_until x = refl in
    probed_names y ∙ same ∙ sym (probed_names x)

-- its timer is stopped first
stopped : (e : End) (now : ℕ) → (asking_end e now).timers.pacing ≡ None
stopped e now = ap (λ (x : End). x.timers.pacing) (probe_leaves (with_pacing_timer (with_closing e (ticked e.closing now)) None))

-- where window and pacer were asked
gated_paces : (e : End) (now : ℕ) → Paces (names e now) (ready_at e now).end
gated_paces e now = go (asking_end e now).path.blocked
  where
    go : (b : Bool) → Paces (names e now) (leaves_unless b (asking_end e now)).end
    go true = inl (stopped e now)
    go false = subst (Paces (names e now)) (sym (search_leaves (gated (asking_end e now)))) (by_gate (asking_end e now) (λ (g : Gated). (g.end.timers.pacing ≡ None) ⊎ (g.end.timers.pacing ≡ names e now)) (record {
      free = λ is. inl (stopped e now);
      full = λ asks is. inl (stopped e now);
      lets = λ asks room is. inl (stopped e now);
      holds = λ moment asks room is. inr (sym is);
    }))

-- so it is behind a poll of an open end
pub polled_paces : (p : Policy) (e : End) (now : ℕ) → e.closing.state ≡ states.Open → Paces (names e now) (polled p e now).end
polled_paces p e now opened = subst (λ (s : State). Paces (names e now) (polled_in s p e now).end) (sym opened) (going_case (goes (ready_at e now)) refl)
  where
    g : Ready
    g = ready_at e now

    given : goes g ≡ true → Paces (names e now) (sends None p g).end
    given some = by_going (Paces (names e now)) p (draft_at e now) (λ pacing. subst (λ (o : Option ℕ). (o ≡ None) ⊎ (o ≡ names e now)) (sym (composes g.leaving g.end (may_leave_at e now)).pacing) (gated_paces e now))

    bound_case : goes g ≡ true → (o : Option LostReason) → Paces (names e now) (sends o p g).end
    bound_case some None = given some
    bound_case some (Some reason) = closes_left p (closed_by reason g.end) (Paces (names e now)) (inl refl) (λ f goes. inl refl)

    going_case : (b : Bool) → goes g ≡ b → Paces (names e now) (polled_if b p g).end
    going_case true some = bound_case some (bounds p g.end)
    going_case false none = gated_paces e now

-- ---- any other call

module _ (o : Option ℕ) where
  -- the timer is left, or stopped
  paces : (by : Cause) → (IsPoll by → ⊥) → Keeps by (Paces o)
  paces by other (moves.gates until pacing discovery) e may i = absurd (other may)
  paces by other moves.paced e may i = inl refl
  paces by other (moves.closes reason close) e may i = inl refl
  paces by other (moves.drains reason) e may i = inl refl
  paces by other moves.over e may i = inl refl
  paces by other m e may i = i

  -- so it is by any call but a poll
  other_paces : (p : Policy) (e : End) (theirs : List (List ℕ)) (call : Call) (a : Answer) → is_poll call ≡ false → Paces o e → Paces o (after_call p e theirs call a)
  other_paces p e theirs call a other i = behind_call (Paces o) p e theirs call a (paces (cause_of call) (no_poll call other)) i

-- ---- the clause

-- the timer of the pacer is set only to the moment that the pacer named in the last poll
pub pacer_sets_its_timer : (r : Run) → PacerSetsItsTimer r
pacer_sets_its_timer r i side (calls.Poll now) a w next m opened = subst (Paces (pacer_names side w now)) (sym (made_end r i side (calls.Poll now) a w next m)) (subst (λ (o : Option ℕ). Paces o (polled (policy_at side r.keys) (with_shown (end_at side w) (shown_at side w)) now).end) (names_shown side w now) (polled_paces (policy_at side r.keys) (with_shown (end_at side w) (shown_at side w)) now opened))
pacer_sets_its_timer r i side call a w next m opened = subst (Paces (pacing_at side w)) (sym (made_end r i side call a w next m)) (other_paces (pacing_at side w) (policy_at side r.keys) (end_at side w) (given_by (other_side side) w) call a refl (inr refl))
