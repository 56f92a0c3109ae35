-- The timer of acknowledgements of an open end, where it is set, is due for the first packet that
-- asks and that isn't acknowledged, which an observer of the run's lists knows: each call keeps
-- that.
use Rattle.std.proofs.Common.{◌≡◌, ℕ, suc, ◌⊎◌, Bool, true, false, ◌||◌, List, [], ◌∷◌, ◌++◌, Option, Some, None, refl, sym, ap, ◌∙◌, subst, inl, inr}
use Rattle.std.specs.Prelude.{if◌then◌else◌, slice_get}
use Rattle.std.specs.Option.{is_some, is_none}
use Rattle.std.specs.List.{list_any}
use Rattle.std.proofs.lemmas.Bool.{both_ways}
use Rattle.quic_wire_core.specs.declared.stream_id.Side.{Side}
use Rattle.quic_wire.specs.Value.{asks}
use Rattle.quic_recovery_core.specs.PendingAcks.{Pending}
use Rattle.quic_spaces.specs.Acknowledging.{ack_due}
use Rattle.quic_machine.specs.declared.answers.State.TheVariants as states
use Rattle.quic_machine.specs.declared.run.Call.{Call}
use Rattle.quic_machine.specs.declared.run.Answer.{Answer}
use Rattle.quic_machine.specs.End.{End}
use Rattle.quic_machine.specs.Machine.{World}
use Rattle.quic_headline.specs.Runs.{Run, Told, Packet, Intake, In, AreServed}
use Rattle.quic_headline.specs.Observer.{Watch, news, watch_told}
use Rattle.quic_headline.specs.Headline.{IsHonest}
use Rattle.quic_headline.specs.Requested.{requested}
use Rattle.quic_headline.specs.Moments.{acknowledges, went, deadlines_of, Debt, deadlines_behind, debt_told, first_deadline, AckMoments}
use Rattle.quic_headline.proofs.Packets.Intakes.{folded_more}
use Rattle.quic_headline.proofs.Places.Parties.{sents_by, told_of, Party, called, came_to, lens, watch_of}
use Rattle.quic_headline.proofs.Places.Groups.{Way, And, Calls, Group, both, beside}
use Rattle.quic_headline.proofs.Places.Placed.{Placed, party_at}
use Rattle.quic_headline.proofs.Timers.Still.{was_open}
use Rattle.quic_headline.proofs.Timers.Watched.{Observed, watched_behind, timers_behind, open_behind, went_behind, came_before, came_behind}
use Rattle.quic_headline.proofs.Timers.AckMoments.{one_asks, call_answered, call_set, debt_first, debt_of, owed_watch}
use Rattle.quic_headline.proofs.AcksDue.Rules.{Rule, Ruled, rules_group}
use Rattle.quic_headline.proofs.AcksDue.Waits.{Punctual, punctual_group}

-- ---- the observer's deadlines

-- the first stays so where more come
first_more : (later : ℕ) (deadlines : List ℕ) (deadline : ℕ) → first_deadline deadlines ≡ Some deadline → first_deadline (later ∷ deadlines) ≡ Some deadline
first_more later [] deadline is = cc
first_more later (d ∷ deadlines) deadline is = is

first_behind : (came deadlines : List ℕ) (deadline : ℕ) → first_deadline deadlines ≡ Some deadline → first_deadline (came ++ deadlines) ≡ Some deadline
first_behind [] deadlines deadline is = is
first_behind (later ∷ came) deadlines deadline is = first_more later (came ++ deadlines) deadline (first_behind came deadlines deadline is)

-- packets that come at a moment: none of them asks, or the first is to be acknowledged so long
-- behind it
one_then : (ps : List Packet) (delay moment : ℕ) → (deadlines_of ps delay moment ≡ []) ⊎ (first_deadline (deadlines_of ps delay moment) ≡ Some (ack_due delay moment))
one_then [] delay moment = inl refl
one_then (p ∷ ps) delay moment = go (list_any asks p.frames) (one_then ps delay moment)
  where
    go : (b : Bool) → (deadlines_of ps delay moment ≡ []) ⊎ (first_deadline (deadlines_of ps delay moment) ≡ Some (ack_due delay moment))
        → ((if b then ack_due delay moment ∷ deadlines_of ps delay moment else deadlines_of ps delay moment) ≡ [])
        ⊎ (first_deadline (if b then ack_due delay moment ∷ deadlines_of ps delay moment else deadlines_of ps delay moment) ≡ Some (ack_due delay moment))
    go false rest = rest
    go true (inl none) = inr (ap (λ (ms : List ℕ). first_deadline (ack_due delay moment ∷ ms)) none)
    go true (inr first) = inr (first_more (ack_due delay moment) (deadlines_of ps delay moment) (ack_due delay moment) first)

-- where one of them asks, it is
came_then : (ps : List Packet) (delay moment : ℕ) → one_asks ps ≡ true → first_deadline (deadlines_of ps delay moment) ≡ Some (ack_due delay moment)
came_then [] delay moment is = cc
came_then (p ∷ ps) delay moment is = go (list_any asks p.frames) is (one_then ps delay moment) (came_then ps delay moment)
  where
    go : (b : Bool) → (b || one_asks ps) ≡ true → (deadlines_of ps delay moment ≡ []) ⊎ (first_deadline (deadlines_of ps delay moment) ≡ Some (ack_due delay moment))
        → (one_asks ps ≡ true → first_deadline (deadlines_of ps delay moment) ≡ Some (ack_due delay moment))
        → first_deadline (if b then ack_due delay moment ∷ deadlines_of ps delay moment else deadlines_of ps delay moment) ≡ Some (ack_due delay moment)
    go true some (inl none) rest = ap (λ (ms : List ℕ). first_deadline (ack_due delay moment ∷ ms)) none
    go true some (inr first) rest = first_more (ack_due delay moment) (deadlines_of ps delay moment) (ack_due delay moment) first
    go false some before rest = rest some

append_none : (ms : List ℕ) → ms ++ [] ≡ ms
append_none [] = refl
append_none (m ∷ ms) = ap (λ (ns : List ℕ). m ∷ ns) (append_none ms)

-- what an end owes by its timer, it owes for the first of the packets that the observer knows
abbrev Owes : Debt → End → Type 0
Owes d e = (moment : ℕ) → e.timers.max_ack_delay ≡ Some moment → first_deadline d.deadlines ≡ Some moment

-- where no ACK went, what was due stays so
stays_due : (d : Debt) (after : Watch) (moment : ℕ) → acknowledges (went d.watch after) ≡ false → first_deadline d.deadlines ≡ Some moment → first_deadline (deadlines_behind d after) ≡ Some moment
stays_due d after moment none first =
    let came : List ℕ = deadlines_of (news d.watch.intake after.intake) (requested after.intake.took).delay after.clock in
    ap (λ (b : Bool). first_deadline (if b then [] else came ++ d.deadlines)) none ∙ first_behind came d.deadlines moment first

-- and where none waited, what came anew is due
comes_due : (d : Debt) (after : Watch) (moment : ℕ) → acknowledges (went d.watch after) ≡ false → d.deadlines ≡ [] → moment ≡ ack_due (requested after.intake.took).delay after.clock → one_asks (news d.watch.intake after.intake) ≡ true
    → first_deadline (deadlines_behind d after) ≡ Some moment
comes_due d after moment none no_other due some =
    let delay : ℕ = (requested after.intake.took).delay in
    let came : List ℕ = deadlines_of (news d.watch.intake after.intake) delay after.clock in
    ap (λ (b : Bool). first_deadline (if b then [] else came ++ d.deadlines)) none
    ∙ ap (λ (ms : List ℕ). first_deadline (came ++ ms)) no_other
    ∙ ap first_deadline (append_none came)
    ∙ came_then (news d.watch.intake after.intake) delay after.clock some
    ∙ ap (λ (k : ℕ). Some k) (sym due)

-- ---- the group

-- by which rules an end acknowledges, and that packets that ask are counted
abbrev Timed : Way
Timed = And Observed (And Ruled Punctual)

-- where an end waits for none, and no acknowledgement is due, no packet that asks is left
-- unacknowledged
none_left : (x y : Party) → Punctual x y → x.end.closing.state ≡ states.Open → is_none x.end.acknowledging.since ≡ true → x.end.acknowledging.due ≡ false → (debt_of x y).deadlines ≡ []
none_left x y p opened none quiet = go (debt_of x y).deadlines refl
  where
    none_some : (o : Option ℕ) → is_none o ≡ true → is_some o ≡ true → ⊥
    none_some None unset set = cc
    none_some (Some m) unset set = cc

    waits : (x.end.acknowledging.due ≡ true) ⊎ (is_some x.end.timers.max_ack_delay ≡ true) → ⊥
    waits (inl due) = both_ways x.end.acknowledging.due quiet due
    waits (inr set) = none_some x.end.acknowledging.since none ((p.awaited opened).known set)

    go : (ms : List ℕ) → (debt_of x y).deadlines ≡ ms → ms ≡ []
    go [] is = refl
    go (m ∷ ms) is = absurd (waits ((p.awaited opened).waits (p.counted opened m (subst (λ (ns : List ℕ). In m ns) (sym is) (inl refl)))))

-- While x is open, it owes what its observer knows.
pub record InDebt (x y : Party) : Type 0 where
  pub owes : x.end.closing.state ≡ states.Open → Owes (debt_of x y) x.end

-- so it does behind any call
debt_step : (x y : Party) (call : Call) (a : Answer) → Calls Timed x y call a → InDebt x y → InDebt (called x y.given call a) y
debt_step x y call a all i = record { owes = owes }
  where
    -- what is known of the packets before the call, and behind it
    c : Calls Observed x y call a
    c = record {
      joined = all.joined;
      answer = all.answer;
      served = all.served;
      uses = all.uses;
      codes = all.codes;
      joined_behind = all.joined_behind;
      gives = all.gives.0;
      takes = all.takes.0;
      gives_behind = all.gives_behind.0;
      takes_behind = all.takes_behind.0;
    }

    d : Debt
    d = debt_of x y

    t : Told
    t = told_of call a x.end.closing.state

    same : d.watch ≡ watch_of x y
    same = owed_watch (lens x y) x.told (debt_first x.final x.began x.made.path.remote x.first_rtt x.initial_delay)

    after : Watch
    after = watch_told (lens x y) t d.watch

    -- what came before, and behind it
    before_is : d.watch.intake ≡ came_to x y
    before_is = came_before x y call a c d.watch same

    after_is : after.intake ≡ came_to (called x y.given call a) y
    after_is = came_behind x y call a c d.watch same

    went_here : went d.watch after ≡ sents_by x.policy x.end call a
    went_here = went_behind x y call a c d.watch same

    by_acks : (b : Bool) → acknowledges (sents_by x.policy x.end call a) ≡ b → (called x y.given call a).end.closing.state ≡ states.Open → Owes (debt_told (lens x y) t d) (called x y.given call a).end
    by_acks true some still moment set =
        let stopped = call_answered (λ (q : Pending) (o : Option ℕ). o ≡ None) (λ q. refl) x.policy x.end y.given call a c.gives.0.owes c.answer c.served some in
        let clash : ◌≡◌ {A = Option ℕ} None (Some moment) = sym stopped ∙ set in
        cc
    by_acks false none still moment set = go (call_set x y call a c moment set)
      where
        silent : acknowledges (went d.watch after) ≡ false
        silent = ap acknowledges went_here ∙ none

        clock : after.clock ≡ (called x y.given call a).end.closing.clock
        clock = ((watched_behind x y call a c d.watch same).flight still).tells.clock

        opened : x.end.closing.state ≡ states.Open
        opened = was_open x.policy x.end y.given call a still

        -- the end was asked what the observer reads
        delay : (called x y.given call a).end.frequency.own_delay ≡ (requested after.intake.took).delay
        delay = ap (λ (r : Rule). r.asked.delay) (all.gives_behind.1.0.rules still) ∙ ap (λ (j : Intake). (requested j.took).delay) (sym after_is)

        go : (x.end.timers.max_ack_delay ≡ Some moment)
            ⊎ ((moment ≡ ack_due (called x y.given call a).end.frequency.own_delay (called x y.given call a).end.closing.clock) × (one_asks (news (came_to x y) (came_to (called x y.given call a) y)) ≡ true) × (is_none x.end.acknowledging.since ≡ true)
            × (x.end.acknowledging.due ≡ false)) → first_deadline (deadlines_behind d after) ≡ Some moment
        go (inl was) = stays_due d after moment silent (i.owes opened moment was)
        go (inr due) =
            comes_due d after moment silent (none_left x y all.gives.1.1 opened due.2 due.3) (due.0 ∙ ap (λ (k : ℕ). ack_due k (called x y.given call a).end.closing.clock) delay ∙ ap (λ (k : ℕ). ack_due (requested after.intake.took).delay k) (sym clock))
            (ap (λ (j : Intake). one_asks (news j after.intake)) before_is ∙ ap (λ (j : Intake). one_asks (news (came_to x y) j)) after_is ∙ due.1)

    owes : (called x y.given call a).end.closing.state ≡ states.Open → Owes (debt_of (called x y.given call a) y) (called x y.given call a).end
    owes still =
        subst (λ (b : Debt). Owes b (called x y.given call a).end) (sym (folded_more (debt_told (lens x y)) x.told t (debt_first x.final x.began x.made.path.remote x.first_rtt x.initial_delay)))
        (by_acks (acknowledges (sents_by x.policy x.end call a)) refl still)

-- and by which rules, and that packets that ask are counted
abbrev pub Indebted : Way
Indebted = And (And Ruled Punctual) InDebt

-- over the packets and what observers know of them
pub debt_group : Group Observed Indebted
debt_group = both Observed (And Ruled Punctual) InDebt (beside Observed Ruled Punctual rules_group punctual_group) (record {
  first = λ x y m there here. record { owes = λ opened moment set. cc };
  writer = λ x y call a c i back. debt_step x y call a c i;
  reader = λ x y call a c i back. record { owes = back.owes };
  shows = λ x y here there b back i j. record { owes = i.owes };
})

-- ---- a run

-- the clause, where the group holds at each place
pub ack_moments : (r : Run) (end : World) → IsHonest r → ((side : Side) (i : ℕ) → AreServed r i → Placed (And Observed Indebted) r end side i) → AckMoments r
ack_moments r end honest all side i moment v served there opened timer =
    let at = all side (suc i) served in
    let x : Party = party_at r (suc i) at.world side at.sents in
    let now_open : x.end.closing.state ≡ states.Open = open_behind r at.world i v side at.leads there opened in
    let set : Some x.end.timers.max_ack_delay ≡ Some (Some moment) = sym (ap (λ (ts : List (Option ℕ)). slice_get ts 8) (timers_behind r at.world i v side at.leads there)) ∙ timer in
    let is : x.end.timers.max_ack_delay ≡ Some moment = cc in
    at.gives.1.1.owes now_open moment is
