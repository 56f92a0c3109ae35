-- A poll that gives nothing and leaves its end open leaves it with nothing to give but what window
-- or pacer hold back, unless nothing more may go to its address.
use Rattle.std.proofs.Common.{◌≡◌, ℕ, zero, suc, ◌<◌, Bool, true, false, [], Option, Some, None, Ok, refl, sym, ap, ◌∙◌, subst, arith}
use Rattle.std.specs.Prelude.{if◌then◌else◌, not, ◌==◌, ◌||◌, ◌&&◌, nat_lt}
use Rattle.std.proofs.lemmas.Bool.{ltb-true, lt-ltb, and_right, or_left, or_right, or_parts, both_ways, ne_eqb}
use Rattle.quic_recovery_core.specs.PendingAcks.{can_send}
use Rattle.quic_machine.specs.declared.answers.State.{State}
use Rattle.quic_machine.specs.declared.answers.State.TheVariants as states
use Rattle.quic_machine.specs.Closing.{ticked}
use Rattle.quic_machine.specs.Policy.{Policy}
use Rattle.quic_machine.specs.End.{End, with_closing, closed_by}
use Rattle.quic_machine.specs.Control.{is_window_full, pacer_answer, if_later, pacer_asked, Gated, lets, gated_if, holds, with_pacing_timer}
use Rattle.quic_machine.specs.Parts.{signals_wait}
use Rattle.quic_streams_state.specs.Waiting.{is_empty, can_send_stream_data}
use Rattle.quic_machine.specs.Poll.{Polled, probed, asks_to_go, gated, goes, rests, sends, polled_if, polled_in, polled, told_if, told_polled_in, told_polled, Ready, whole, nothing, free_if, leaves, leaves_unless, message_waits, waits, bounds, request_queued}
use Rattle.quic_machine.specs.PollCases.{ready_at, ready_leaves, probe_leaves, gate_leaves, by_probed, by_gate, by_leaves}
use Rattle.quic_machine.specs.declared.answers.LostReason.{LostReason}
use Rattle.std.specs.Option.{is_none}
use Rattle.quic_headline.proofs.Packets.Closes.{by_closes}
use Rattle.quic_headline.proofs.Steps.Moved.{has_probe, probe_has, asked_has}

-- ---- a poll that gives nothing

-- an end gave nothing in a poll, and is open behind it: it was open, and nothing goes of it where
-- it is ready
pub record IsQuiet (p : Policy) (e : End) (now : ℕ) : Type 0 where
  pub opened : e.closing.state ≡ states.Open
  pub none : goes (ready_at e now) ≡ false
  pub leaves : (polled p e now).end ≡ rests (ready_at e now)

pub quiet : (p : Policy) (e : End) (now : ℕ) → (polled p e now).answer ≡ Ok None → (polled p e now).end.closing.state ≡ states.Open → IsQuiet p e now
quiet p e now = state_case e.closing.state refl
  where
    g : Ready
    g = ready_at e now

    -- numbers and the key last, or the end closes
    bound_case : (o : Option LostReason) → (sends o p g).answer ≡ Ok None → (sends o p g).end.closing.state ≡ states.Open → ⊥
    bound_case None = λ is opened. cc
    bound_case (Some reason) = by_closes p (closed_by reason g.end) (λ (q : Polled). q.answer ≡ Ok None → q.end.closing.state ≡ states.Open → ⊥) (λ is opened. cc) (λ f goes is opened. cc)

    going_case : (b : Bool) → goes g ≡ b → (polled_if b p g).answer ≡ Ok None → (polled_if b p g).end.closing.state ≡ states.Open → (goes g ≡ false) × ((polled_if b p g).end ≡ rests g)
    going_case true some is opened = absurd (bound_case (bounds p g.end) is opened)
    going_case false none is opened = (none, refl)

    state_case : (s : State) → e.closing.state ≡ s → (polled_in s p e now).answer ≡ Ok None → (polled_in s p e now).end.closing.state ≡ states.Open → IsQuiet p e now
    state_case states.Open s = λ is opened. (
        let found = going_case (goes g) refl is opened in
        record { opened = s; none = found.0; leaves = ap (λ (t : State). (polled_in t p e now).end) s ∙ found.1 })
    state_case states.Closing s = by_closes p (with_closing e (ticked e.closing now)) (λ (q : Polled). q.answer ≡ Ok None → q.end.closing.state ≡ states.Open → IsQuiet p e now) (λ is opened. let clash : states.Closing ≡ states.Open = sym s ∙ opened in cc) (λ f goes is opened. cc)
    state_case states.Drained s = λ is opened. (let clash : states.Drained ≡ states.Open = sym s ∙ opened in cc)
    state_case states.Failed s = λ is opened. cc

module _ (p : Policy) (e : End) (now : ℕ) (q : IsQuiet p e now) where
  -- it tells the controller nothing
  pub quiet_tells : told_polled p e now ≡ []
  quiet_tells =
      let g : Ready = ready_at e now in
      ap (λ (s : State). told_polled_in s p e now) q.opened ∙ ap (λ (b : Bool). told_if (b && is_none (bounds p g.end)) g) q.none

  -- it leaves the window as it was read
  pub quiet_window : (polled p e now).end.path.window ≡ e.path.window
  quiet_window = ap (λ (x : End). x.path.window) q.leaves ∙ ap (λ (x : End). x.path.window) (ready_leaves e now)

-- ---- what is held back

-- the window has no room, or the timer of the pacer is set to a later moment
pub data IsHeld (e : End) : Type 0 where
  full : is_window_full e ≡ true → IsHeld e
  paced : (moment : ℕ) → e.timers.pacing ≡ Some moment → e.closing.clock < moment → IsHeld e

-- the moment that a pacer names is later
named_later : (now moment : ℕ) (o : Option ℕ) → if_later now o ≡ Some moment → now < moment
named_later now moment None is = cc
named_later now moment (Some m) is = go (nat_lt now m) refl is
  where
    go : (b : Bool) → nat_lt now m ≡ b → (if b then Some m else None) ≡ Some moment → now < moment
    go true later is = let same : m ≡ moment = cc in let less = ltb-true now m later in omega arith
    go false later is = cc

-- an end that was made ready: its moment is taken over, the timer of its pacer is stopped,
-- something waits for each probe, and ACK_FREQUENCY does, where the peer is to be asked
abbrev pub begun : End → ℕ → End
begun e now = request_queued (probed (with_pacing_timer (with_closing e (ticked e.closing now)) None))

-- it has read what it had of its address
begun_reads : (e : End) (now : ℕ) → (begun e now).path.blocked ≡ e.path.blocked
begun_reads e now = ap (λ (x : End). x.path.blocked) (probe_leaves (with_pacing_timer (with_closing e (ticked e.closing now)) None))

-- where more may go to its address, window and pacer are asked
pub may_go : (e : End) (now : ℕ) → e.path.blocked ≡ false → ready_at e now ≡ leaves (gated (begun e now))
may_go e now is = ap (λ (b : Bool). leaves_unless b (begun e now)) (begun_reads e now ∙ is)

-- where nothing more may go there, nothing goes
pub may_not_go : (e : End) (now : ℕ) → e.path.blocked ≡ true → ready_at e now ≡ record { leaving = nothing false; end = begun e now }
may_not_go e now is = ap (λ (b : Bool). leaves_unless b (begun e now)) (begun_reads e now ∙ is)

-- as many probes of losses wait
pub begun_probes : (e : End) (now : ℕ) → (begun e now).tracking.probes ≡ e.tracking.probes
begun_probes e now = by_probed (with_pacing_timer (with_closing e (ticked e.closing now)) None) (λ (z : End). z.tracking.probes ≡ e.tracking.probes) refl (λ immediate. refl) (λ immediate. refl) (λ immediate q probes is. refl)

module _ (e : End) (now : ℕ) (probes : 0 < e.tracking.probes) where
  abbrev readied : End
  readied = begun e now

  -- where one waits, something waits for it to carry
  pub begun_has : has_probe readied ≡ true
  begun_has = asked_has (probed (with_pacing_timer (with_closing e (ticked e.closing now)) None)) _ (probe_has (with_pacing_timer (with_closing e (ticked e.closing now)) None) (lt-ltb 0 e.tracking.probes probes))

  begun_waits : waits readied ≡ true
  begun_waits = or_right (can_send readied.acknowledging) (asks_to_go readied) (asks_more (signals_wait readied.waiting.signals) (not (is_empty readied.waiting.frames readied.streams)) (message_waits readied || can_send_stream_data readied.streams) begun_has)
    where
      asks_more : (a b d : Bool) → (a || b) ≡ true → (a || (b || d)) ≡ true
      asks_more true b d is = refl
      asks_more false b d is = or_left b d is

  -- window and pacer aren't asked
  ungated : gated readied ≡ lets readied
  ungated = ap (λ (b : Bool). gated_if b readied) (and_right (asks_to_go readied) (readied.tracking.probes == 0) (ne_eqb readied.tracking.probes 0 (λ none. (let same = begun_probes e now in omega arith))))

  -- nor is the search for a size: all goes that waits, where more may go to its address
  pub ready_whole : e.path.blocked ≡ false → ready_at e now ≡ record { leaving = whole; end = readied }
  ready_whole free = may_go e now free ∙ ap (λ (g : Gated). leaves g) ungated ∙ ap (λ (b : Bool). free_if b readied) begun_waits

-- so where nothing goes, though more may, none waits
pub rests_unprobed : (e : End) (now : ℕ) → e.path.blocked ≡ false → goes (ready_at e now) ≡ false → e.tracking.probes ≡ 0
rests_unprobed e now free none = go e.tracking.probes refl
  where
    go : (n : ℕ) → e.tracking.probes ≡ n → e.tracking.probes ≡ 0
    go zero is = is
    go (suc n) is = let some : 0 < e.tracking.probes = omega arith in absurd (both_ways (goes (ready_at e now)) none (ap goes (ready_whole e now some free)))

-- the end rests then with its path as it was, and had nothing to send
pub stays_blocked : (e : End) (now : ℕ) → e.path.blocked ≡ true → (rests (ready_at e now)).path ≡ record e.path { app_limited = true }
stays_blocked e now is =
    ap (λ (r : Ready). (rests r).path) (may_not_go e now is)
    ∙ ap (λ (x : End). record x.path { app_limited = true }) (probe_leaves (with_pacing_timer (with_closing e (ticked e.closing now)) None))

-- the size of its datagrams is as it was
pub ready_size : (e : End) (now : ℕ) → e.path.blocked ≡ false → (ready_at e now).end.path.discovery.size ≡ e.path.discovery.size
ready_size e now unblocked = subst (λ (r : Ready). r.end.path.discovery.size ≡ e.path.discovery.size) (sym (may_go e now unblocked)) (by_leaves (gated (begun e now)) (λ (r : Ready). r.end.path.discovery.size ≡ e.path.discovery.size) (record {
  acks = λ held due. same;
  held = λ held none. same;
  all = λ free some. same;
  idle = λ free none. same;
  asked = λ free none. same;
  probes = λ size free none may named. same;
}))
  where
    same : (gated (begun e now)).end.path.discovery.size ≡ e.path.discovery.size
    same = ap (λ (x : End). x.path.discovery.size) (gate_leaves (begun e now)) ∙ ap (λ (x : End). x.path.discovery.size) (probe_leaves (with_pacing_timer (with_closing e (ticked e.closing now)) None))

-- where nothing goes of an end that is ready, though more may go to its address, what asks is held
-- back
pub rests_held : (e : End) (now : ℕ) → e.path.blocked ≡ false → goes (ready_at e now) ≡ false → asks_to_go (rests (ready_at e now)) ≡ true → IsHeld (rests (ready_at e now))
rests_held e now unblocked = subst Rests (sym (may_go e now unblocked)) (by_gate y (λ (g : Gated). Rests (leaves g)) (record {
  free = λ is. let_go y;
  full = λ gate is. by_leaves (holds y) Rests (record {
    acks = λ held due none asks. cc;
    held = λ held none goes asks. full is;
    all = λ free some. cc;
    idle = λ free none. cc;
    asked = λ free none. cc;
    probes = λ size free none. cc;
  });
  lets = λ gate room until. let_go (pacer_asked y);
  holds = λ moment gate room until. by_leaves (holds (with_pacing_timer (pacer_asked y) (Some moment))) Rests (record {
    acks = λ held due none asks. cc;
    held = λ held none goes asks. paced moment refl (named_later y.closing.clock moment (pacer_answer y) until);
    all = λ free some. cc;
    idle = λ free none. cc;
    asked = λ free none. cc;
    probes = λ size free none. cc;
  });
}))
  where
    y : End
    y = begun e now

    Rests : Ready → Type 0
    Rests r = goes r ≡ false → asks_to_go (rests r) ≡ true → IsHeld (rests r)

    -- what isn't held back goes
    silent : (x : End) → waits x ≡ false → asks_to_go x ≡ true → ⊥
    silent x none asks = both_ways (asks_to_go x) (or_parts (can_send x.acknowledging) (asks_to_go x) none).1 asks

    let_go : (x : End) → Rests (leaves (lets x))
    let_go x = by_leaves (lets x) Rests (record {
      acks = λ held due. cc;
      held = λ held none. cc;
      all = λ free some none asks. cc;
      idle = λ free none goes asks. absurd (silent x none asks);
      asked = λ free none goes asks. absurd (silent x none asks);
      probes = λ size free none may named goes asks. cc;
    })

-- and no acknowledgement is due
pub rests_none : (e : End) (now : ℕ) → e.path.blocked ≡ false → goes (ready_at e now) ≡ false → can_send (rests (ready_at e now)).acknowledging ≡ false
rests_none e now unblocked = subst (λ (r : Ready). goes r ≡ false → can_send (rests r).acknowledging ≡ false) (sym (may_go e now unblocked)) (by_leaves (gated y) (λ (r : Ready). goes r ≡ false → can_send (rests r).acknowledging ≡ false) (record {
  acks = λ held due goes. cc;
  held = λ held none goes. none;
  all = λ free some goes. cc;
  idle = λ free none goes. (or_parts (can_send (gated y).end.acknowledging) (asks_to_go (gated y).end) none).0;
  asked = λ free none goes. (or_parts (can_send (gated y).end.acknowledging) (asks_to_go (gated y).end) none).0;
  probes = λ size free none may named goes. cc;
}))
  where
    y : End
    y = begun e now
