-- Where an ACK frame is due at an open end, and it owes an acknowledgement, a poll that leaves it
-- open gives one.
use Rattle.std.proofs.Common.{◌≡◌, ℕ, suc, Bool, true, false, ◌||◌, [], ◌∷◌, ◌++◌, None, refl, sym, ap, ◌∙◌, subst, ◌⊎◌, inl, inr, Option, Some}
use Rattle.std.specs.Prelude.{nat_lt}
use Rattle.std.specs.List.{list_any}
use Rattle.std.proofs.lemmas.Bool.{or_left, and_from, and_parts, both_ways}
use Rattle.std.proofs.lemmas.List.Folds.{list_any-append}
use Rattle.quic_wire_core.specs.StreamId.{other_side}
use Rattle.quic_wire.specs.Value.{FrameValue}
use Rattle.quic_recovery_core.specs.PendingAcks.{lazy_threshold, can_send, is_filled}
use Rattle.quic_machine.specs.declared.answers.State.{State}
use Rattle.quic_machine.specs.declared.answers.State.TheVariants as states
use Rattle.quic_machine.specs.declared.run.Call.{Call}
use Rattle.quic_machine.specs.declared.run.Call.TheVariants as calls
use Rattle.quic_machine.specs.declared.run.Answer.{Answer}
use Rattle.quic_machine.specs.declared.run.Answer.TheVariants as answers
use Rattle.quic_machine.specs.Policy.{Policy}
use Rattle.quic_machine.specs.Closing.{ticked}
use Rattle.quic_machine.specs.End.{End, with_closing, closed_by}
use Rattle.quic_machine.specs.Control.{Gated, with_pacing_timer}
use Rattle.quic_machine.specs.Poll.{Polled, Draft, no_frames, with_asking, with_ack, composed_if, probed, waits, asks_to_go, gated, Leaving, whole, alone, Ready, goes_as, goes, lazied, draft_as, draft_of, sends, polled_if, polled_in, polled, bounds, request_queued}
use Rattle.quic_machine.specs.PollCases.{ready_at, frames_at, by_leaves, search_leaves, ready_leaves, draft_at}
use Rattle.quic_machine.specs.DraftLaws.{Writing, by_asking}
use Rattle.quic_machine.specs.Puts as puts
use Rattle.quic_machine.specs.Machine.{World, gave, end_at, policy_at}
use Rattle.quic_headline.specs.Runs.{Run, Intake, In, folded}
use Rattle.quic_headline.specs.Observer.{Sent, Watch, first_watch, watch, took, sents_until}
use Rattle.quic_headline.specs.Headline.{IsHonest, IsRun}
use Rattle.quic_headline.specs.Moments.{is_ack, acknowledges, went}
use Rattle.quic_headline.specs.Polls.{IsMade, IsLimited}
use Rattle.quic_headline.proofs.Packets.Quiet.{HaveHeardNothing}
use Rattle.quic_headline.specs.Rest.{unanswered_told, none_unanswered}
use Rattle.quic_headline.specs.AcksDue.{AcksAreDue}
use Rattle.quic_machine.specs.declared.answers.LostReason.{LostReason}
use Rattle.quic_headline.proofs.Packets.Closes.{by_closes}
use Rattle.quic_headline.proofs.Packets.Watching.{watched_intake}
use Rattle.quic_headline.proofs.Packets.Probes.{ready_acks}
use Rattle.quic_headline.proofs.Places.Parties.{sent_by, sent_if, sents_by, Party, came_to, lens, with_shown, shown_at, sent_as, given_in}
use Rattle.quic_headline.proofs.Places.Groups.{Way, Nothing, And, Group, both, over}
use Rattle.quic_headline.proofs.Places.Placed.{party_at, Placed, placed}
use Rattle.quic_headline.proofs.Places.Steps.{poll_answer}
use Rattle.quic_headline.proofs.Timers.Watched.{Observed, went_is, open_behind}
use Rattle.quic_headline.proofs.Timers.Still.{was_open}
use Rattle.quic_headline.proofs.Timers.AckMoments.{any_padded}
use Rattle.quic_headline.proofs.Steps.Made.{made_served, made_end, polling, PollHolds, poll_holds, sents_more}
use Rattle.quic_headline.proofs.Held.Silent.{may_go}
use Rattle.quic_headline.proofs.Held.Behind.{Last, last_step}
use Rattle.quic_headline.proofs.Held.Limited.{limits_poll}
use Rattle.quic_headline.proofs.Rest.Unanswered.{Owes}
use Rattle.quic_headline.proofs.Rest.Owed.{Known, known, owed_filled}
use Rattle.quic_headline.proofs.AcksDue.Arrivals.{IsPressed}
use Rattle.quic_headline.proofs.Timers.FirstDue.{Indebted, debt_group}
use Rattle.quic_headline.proofs.AcksDue.Group.{Waiting, Hastes, hastes_group}

-- ---- a draft with an ACK frame

-- one of its frames is an ACK
abbrev Acknowledges : Draft → Type 0
Acknowledges d = list_any is_ack d.frames ≡ true

-- it is still where a frame goes behind
still_acks : (d : Draft) (f : FrameValue) → Acknowledges d → list_any is_ack (d.frames ++ f ∷ []) ≡ true
still_acks d f is = list_any-append is_ack d.frames (f ∷ []) ∙ or_left (list_any is_ack d.frames) (list_any is_ack (f ∷ [])) is

asking_acks : (d : Draft) → Acknowledges d → Acknowledges (with_asking d)
asking_acks = by_asking Acknowledges keep
  where
    keep : Writing Acknowledges
    keep (puts.drops kind) d may is = is
    keep p d may is = still_acks d _ is

-- all goes, or an ACK alone
abbrev pub Acks : Leaving → Type 0
Acks leaving = (leaving ≡ whole) ⊎ (leaving ≡ alone)

-- where one is due, it goes: first, or alone
pub draft_acks : (leaving : Leaving) (e : End) → Acks leaving → can_send (lazied e).acknowledging ≡ true → Acknowledges (draft_as leaving e)
draft_acks leaving e (inl all) due = subst (λ (l : Leaving). Acknowledges (draft_as l e)) (sym all) (subst (λ (b : Bool). Acknowledges (composed_if b (lazied e))) (sym due) (asking_acks (with_ack (no_frames (lazied e))) refl))
draft_acks leaving e (inr only) due = subst (λ (l : Leaving). Acknowledges (draft_as l e)) (sym only) refl

-- ---- a poll

-- of an end of which more may go to its address
module _ (p : Policy) (e : End) (now : ℕ) (due : can_send e.acknowledging ≡ true) (free : e.path.blocked ≡ false) where
  abbrev g : Ready
  g = ready_at e now

  -- the end whose window and pacer were asked
  abbrev gate : Gated
  gate = gated (request_queued (probed (with_pacing_timer (with_closing e (ticked e.closing now)) None)))

  due_ready : can_send g.end.acknowledging ≡ true
  due_ready = ap can_send (ready_acks e now) ∙ due

  due_gated : can_send gate.end.acknowledging ≡ true
  due_gated = ap (λ (x : End). can_send x.acknowledging) (sym (search_leaves gate)) ∙ ap (λ (r : Ready). can_send r.end.acknowledging) (sym (may_go e now free)) ∙ due_ready

  -- all goes, or an ACK alone
  acks : Acks g.leaving
  acks = subst (λ (r : Ready). Acks r.leaving) (sym (may_go e now free)) (by_leaves gate (λ (r : Ready). Acks r.leaving) (record {
    acks = λ held is. inr refl;
    held = λ held none. absurd (both_ways (can_send gate.end.acknowledging) none due_gated);
    all = λ free waiting. inl refl;
    idle = λ free none. absurd (busy none);
    asked = λ free none. absurd (busy none);
    probes = λ size free none may is. absurd (busy none);
  }))
    where
      busy : waits gate.end ≡ false → ⊥
      busy none = both_ways (waits gate.end) none (or_left (can_send gate.end.acknowledging) (asks_to_go gate.end) due_gated)

  -- so something goes
  some : goes g ≡ true
  some = elim acks [ inl all ↦ ap goes_as all | inr only ↦ ap goes_as only ]

  -- its frames have an ACK
  frames_acknowledge : list_any is_ack (frames_at e now) ≡ true
  frames_acknowledge =
      let parts = and_parts g.end.acknowledging.due (is_filled g.end.acknowledging.runs) due_ready in
      any_padded (draft_of g).frames _
      ∙ draft_acks g.leaving g.end acks (and_from (g.end.acknowledging.due || nat_lt lazy_threshold g.end.acknowledging.silent) (is_filled g.end.acknowledging.runs) (or_left g.end.acknowledging.due (nat_lt lazy_threshold g.end.acknowledging.silent) parts.0) parts.1)

  polled_as : e.closing.state ≡ states.Open → polled p e now ≡ sends (bounds p g.end) p g
  polled_as opened = ap (λ (s : State). polled_in s p e now) opened ∙ ap (λ (b : Bool). polled_if b p g) some

  -- so a poll gives one that leaves an open end open
  pub gives_ack : e.closing.state ≡ states.Open → (polled p e now).end.closing.state ≡ states.Open → acknowledges (sent_if (gave (answers.Poll (polled p e now).answer)) (sent_by p e now)) ≡ true
  gives_ack opened still = go (bounds p g.end) refl (polled_as opened)
    where
      -- what goes of an open end whose numbers and key last
      ordinary : bounds p g.end ≡ None → sent_by p e now ≡ sent_as e now (draft_at e now)
      ordinary none =
          ap (λ (s : State). sent_as e now (given_in s (bounds p e) p e now)) opened
          ∙ ap (λ (o : Option LostReason). sent_as e now (given_in states.Open o p e now)) (sym (ap (λ (x : End). bounds p x) (ready_leaves e now)) ∙ none)

      go : (o : Option LostReason) → bounds p g.end ≡ o → polled p e now ≡ sends o p g → acknowledges (sent_if (gave (answers.Poll (polled p e now).answer)) (sent_by p e now)) ≡ true
      go None none is = ap (λ (q : Polled). acknowledges (sent_if (gave (answers.Poll q.answer)) (sent_by p e now))) is ∙ ap (λ (s : Sent). acknowledges (s ∷ [])) (ordinary none) ∙ or_left (list_any is_ack (frames_at e now)) false frames_acknowledge
      go (Some reason) bound is = by_closes p (closed_by reason g.end) (λ (q : Polled). q.end.closing.state ≡ states.Open → acknowledges (sent_if (gave (answers.Poll (polled p e now).answer)) (sent_by p e now)) ≡ true) (λ none. cc) (λ f goes none. cc) (sym (ap (λ (q : Polled). q.end.closing.state) is) ∙ still)

-- ---- the clause

-- all that is known of the packets, what isn't answered, and how long it waits
abbrev Timed : Way
Timed = And Known Indebted

timed : Group Nothing Timed
timed = both Nothing Known Indebted known (over Observed (And Nothing Known) Indebted (λ x y h. (h.1.0.0.0, h.1.0.1)) debt_group)

-- and what is due
abbrev All : Way
All = And Timed Hastes

all : Group Nothing All
all = both Nothing Timed Hastes timed (over Waiting (And Nothing Timed) Hastes (λ x y h. ((h.1.0.0.0.0, h.1.0.0.1), (h.1.0.1, h.1.1))) hastes_group)

pub acks_are_due : (r : Run) (end : World) → IsHonest r → IsRun r end → HaveHeardNothing r.start → AcksAreDue r
acks_are_due r end honest run quiet side i now a v q served at there opened due owed = go e.path.blocked refl
  where
    call : Call
    call = calls.Poll now

    behind : Placed All r end side (suc i)
    behind = placed All all r end honest run side (suc i) served

    next : World
    next = behind.world

    -- the step
    last : Last r.keys i r.start next r.events r.answers r.views (record { side = side; call = call }) a
    last = last_step r.keys i r.start next r.events r.answers r.views (record { side = side; call = call }) a at.event at.answer behind.leads

    w : World
    w = last.before

    made : IsMade r i side call a w next
    made = record { at = at; leads = last.leads; step = last.step; served = served }

    h : PollHolds All r i side now a w
    h = poll_holds All all r end honest run i side now a w next made

    x : Party
    x = polling r i w side h.sents

    y : Party
    y = party_at r i w (other_side side) h.theirs

    seen : PollHolds Observed r i side now a w
    seen = record {
      sents = h.sents;
      theirs = h.theirs;
      joined = h.joined;
      gives = (h.gives.0.0.0.0.0, h.gives.0.0.0.1);
      takes = (h.takes.0.0.0.0.0, h.takes.0.0.0.1);
      behind = (h.behind.0.0.0.0.0, h.behind.0.0.0.1);
      behind_back = (h.behind_back.0.0.0.0.0, h.behind_back.0.0.0.1);
      calls = h.calls;
      seen = h.seen;
      seen_behind = h.seen_behind;
    }

    p : Policy
    p = policy_at side r.keys

    e : End
    e = with_shown (end_at side w) (shown_at side w)

    left : end_at side next ≡ (polled p e now).end
    left = made_end r i side call a w next made

    opened_behind : (end_at side next).closing.state ≡ states.Open
    opened_behind = open_behind r next i v side behind.leads there opened

    opened_before : e.closing.state ≡ states.Open
    opened_before = was_open p e y.given call a (sym (ap (λ (z : End). z.closing.state) left) ∙ opened_behind)

    -- an ACK frame is due, and there is something to acknowledge
    pressed : IsPressed e.acknowledging
    pressed = h.gives.1.due opened_before due

    since : In q (folded (unanswered_told (lens x y)) x.told (none_unanswered (first_watch x.final x.began x.made.path.remote x.first_rtt x.initial_delay))).packets
    since = owed.since

    owes : Owes x.sents (came_to x y).took x.end q.number
    owes = h.gives.0.0.1.owes opened_before q since

    -- what it gave and took is what the observer of the run knows
    sents_are : sents_until r side i ≡ x.sents
    sents_are = ap (λ (v : Watch). v.own) h.seen ∙ h.gives.0.0.0.1.own

    took_is : took r side i ≡ (came_to x y).took
    took_is = ap (λ (v : Watch). v.intake.took) h.seen ∙ ap (λ (j : Intake). j.took) (watched_intake (lens x y) x.told (first_watch x.final x.began x.made.path.remote x.first_rtt x.initial_delay))

    can : can_send e.acknowledging ≡ true
    can = and_from e.acknowledging.due (is_filled e.acknowledging.runs) pressed.0 (owed_filled r side i q owed e x.sents (came_to x y).took sents_are took_is owes)

    go : (b : Bool) → e.path.blocked ≡ b → (acknowledges (went (watch r side i) (watch r side (suc i))) ≡ true) ⊎ IsLimited r side (suc i) v
    go true blocked = inr (limits_poll r end honest run quiet side i now a v w next made behind.leads there opened opened_before blocked)
    go false free = inl (
        ap acknowledges (went_is (watch r side i) (watch r side (suc i)) (sents_by p e call a) (sents_more r i side now a w seen))
        ∙ ap (λ (b : Answer). acknowledges (sent_if (gave b) (sent_by p e now))) (poll_answer p e now a made.step.answer (made_served r i side call a w next made))
        ∙ gives_ack p e now can free opened_before (sym (ap (λ (z : End). z.closing.state) left) ∙ opened_behind))
