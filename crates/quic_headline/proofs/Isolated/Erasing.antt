-- A run less any choice of its idle events is a run again: the same answers, the same views, the
-- same ends but for what they counted.
use Rattle.std.proofs.Common.{◌≡◌, ℕ, suc, Bool, true, false, List, [], ◌∷◌, Option, Some, inl, inr, refl, sym, ap, ◌∙◌, subst, arith}
use Rattle.std.specs.Prelude.{if◌then◌else◌, slice_get}
use Rattle.quic_wire_core.specs.declared.stream_id.Side.{Side}
use Rattle.quic_wire_core.specs.declared.stream_id.Side.TheVariants.{Client, Server}
use Rattle.quic_machine.specs.declared.answers.State.TheVariants as states
use Rattle.quic_machine.specs.declared.answers.DropReason.{DropReason}
use Rattle.quic_machine.specs.declared.answers.DropReason.TheVariants as drops
use Rattle.quic_machine.specs.declared.answers.Received.TheVariants as receives
use Rattle.quic_machine.specs.declared.run.RunEvent.{RunEvent}
use Rattle.quic_machine.specs.declared.run.Call.{Call}
use Rattle.quic_machine.specs.declared.run.Call.TheVariants as calls
use Rattle.quic_machine.specs.declared.run.Answer.{Answer}
use Rattle.quic_machine.specs.declared.run.Answer.TheVariants as answers
use Rattle.quic_machine.specs.declared.run.View.{View}
use Rattle.quic_machine.specs.Heard.{Heard}
use Rattle.quic_machine.specs.Machine.{World, Policies, Follows, says_last, end_at, view_of}
use Rattle.quic_headline.specs.Runs.{Run, In, state_in}
use Rattle.quic_headline.specs.Polls.{end_in}
use Rattle.quic_headline.specs.Headline.{IsRun}
use Rattle.quic_headline.specs.Isolated.{drops_whole, is_idle, without, OnlyIdle, SameButCounts, Isolated, is_shut_out, is_answered_idle, of_both, answered_idle, IsolatedByAnswers}
use Rattle.quic_headline.proofs.Isolated.Idle.{with_counts, idle_leaves, HaveFewer, step_counts, idle_counts}
use Rattle.quic_headline.proofs.Isolated.Validated.{IsReached, seen_reached}
use Rattle.quic_headline.proofs.Timers.BothEnds.{AtBoth}

-- ---- any choice

-- what stays of a list was in it
without_in : {X : Type 0} (gone : ℕ → Bool) (x : X) (xs : List X) → In x (without gone xs) → In x xs
without_in gone x [] i = i
without_in {X} gone x (y ∷ ys) i = go (gone 0) (without_in (λ j. gone (suc j)) x ys) i
  where
    rest : List X
    rest = without (λ j. gone (suc j)) ys

    go : (b : Bool) → (In x rest → In x ys) → In x (if b then rest else y ∷ rest) → In x (y ∷ ys)
    go true later i = inr (later i)
    go false later (inl is) = inl is
    go false later (inr i) = inr (later i)

-- no answer, whatever events there are
unanswered : (k : Policies) (w end : World) (events : List RunEvent) → end ≡ w → Follows k w events [] [] end
unanswered k w end [] same = same
unanswered k w end (event ∷ events) same = same

-- of the events that are answered only idle ones are chosen
abbrev pub Chosen : (ℕ → Bool) → List RunEvent → List Answer → Type 0
Chosen gone events told = (side : Side) (i : ℕ) (call : Call) (a : Answer) → gone i ≡ true → slice_get events i ≡ Some (record { side = side; call = call }) → slice_get told i ≡ Some a → is_idle call a ≡ true

-- no answer says that the last packet came that may not open
abbrev pub StayBelow : List Answer → Type 0
StayBelow told = (i : ℕ) (a : Answer) → slice_get told i ≡ Some a → says_last a ≡ false

-- without them the others are answered so, and lead to the same ends, whatever was counted
abbrev pub GoesOn : Policies → (ℕ → Bool) → World → World → List RunEvent → List Answer → List View → Type 0
GoesOn k gone w end events told views = (left : World) × SameButCounts end left × Follows k w (without gone events) (without gone told) (without gone views) left

-- the peers' addresses are validated in each of these views, at an end that hasn't failed
abbrev pub AreShown : List View → Type 0
AreShown views = (side : Side) (i : ℕ) (v : View) → slice_get views i ≡ Some v → (state_in v side ≡ states.Failed → ⊥) → (end_in v side).validated ≡ true

-- so they are at the ends that one shows
shown_reached : (v : View) (w : World) (views : List View) → v ≡ view_of w → AreShown (v ∷ views) → AtBoth IsReached w
shown_reached v w views same shown = (seen_reached Client w (subst (λ (u : View). (state_in u Client ≡ states.Failed → ⊥) → (end_in u Client).validated ≡ true) same (shown Client 0 v refl)), seen_reached Server w (subst (λ (u : View). (state_in u Server ≡ states.Failed → ⊥) → (end_in u Server).validated ≡ true) same (shown Server 0 v refl)))

-- no answer, and nothing changes
none_left : (k : Policies) (w end : World) (events : List RunEvent) (client server : Heard) → end ≡ w → (left : World) × SameButCounts end left × Follows k (with_counts w client server) events [] [] left
none_left k w end events client server same =
    (with_counts w client server, ap (λ (v : World). with_counts v client server) (sym same), unanswered k (with_counts w client server) (with_counts w client server) events refl)

-- so it is, where fewer packets had failed to open and the addresses are validated
erases_from : (k : Policies) (gone : ℕ → Bool) (w end : World) (events : List RunEvent) (told : List Answer) (views : List View) (client server : Heard) → Chosen gone events told → StayBelow told → AreShown views → AtBoth IsReached w → HaveFewer client server w
    → Follows k w events told views end → GoesOn k gone (with_counts w client server) end events told views
erases_from k gone w end [] [] [] client server idle below shown reached few f = none_left k w end [] client server f
erases_from k gone w end (event ∷ events) [] [] client server idle below shown reached few f = none_left k w end (without gone (event ∷ events)) client server f
erases_from k gone w end [] [] (v ∷ views) client server idle below shown reached few f = absurd f
erases_from k gone w end (event ∷ events) [] (v ∷ views) client server idle below shown reached few f = absurd f
erases_from k gone w end [] (a ∷ told) views client server idle below shown reached few f = absurd f
erases_from k gone w end (event ∷ events) (a ∷ told) [] client server idle below shown reached few f = absurd f
erases_from k gone w end (event ∷ events) (a ∷ told) (v ∷ views) client server idle below shown reached few f =
    go (gone 0) refl (λ c s fewer. erases_from k (λ i. gone (suc i)) f.0 end events told views c s (λ side i call b chosen at_event at_answer. idle side (suc i) call b chosen at_event at_answer) (λ i b at_answer. below (suc i) b at_answer)
    (λ side i u at_view lasts. shown side (suc i) u at_view lasts) (shown_reached v f.0 views f.2 shown) fewer f.3)
  where
    events_left : List RunEvent
    events_left = without (λ i. gone (suc i)) events

    told_left : List Answer
    told_left = without (λ i. gone (suc i)) told

    views_left : List View
    views_left = without (λ i. gone (suc i)) views

    go : (b : Bool) → gone 0 ≡ b → ((c s : Heard) → HaveFewer c s f.0 → GoesOn k (λ i. gone (suc i)) (with_counts f.0 c s) end events told views)
        → (left : World) × SameButCounts end left × Follows k (with_counts w client server) (if b then events_left else event ∷ events_left) (if b then told_left else a ∷ told_left) (if b then views_left else v ∷ views_left) left
    go true chosen later =
        let is = idle event.side 0 event.call a chosen refl refl in
        let same : SameButCounts w f.0 = idle_leaves k w f.0 event a is (below 0 a refl) f.1 in
        subst (λ (x : World). GoesOn k (λ i. gone (suc i)) x end events told views) (ap (λ (x : World). with_counts x client server) same) (later client server (idle_counts k w f.0 event a client server is (below 0 a refl) few f.1))
    go false kept later =
        let step = step_counts k w f.0 event a client server reached (below 0 a refl) few f.1 in
        let rest = later step.0 step.1 step.2 in
        (rest.0, rest.1, (with_counts f.0 step.0 step.1, step.3, f.2, rest.2))

pub erases : (k : Policies) (gone : ℕ → Bool) (w end : World) (events : List RunEvent) (told : List Answer) (views : List View) → ((side : Side) → (end_at side w).path.validated ≡ true) → AreShown views → Chosen gone events told → StayBelow told → Follows k w events told views end
    → GoesOn k gone w end events told views
erases k gone w end events told views validated shown idle below f = erases_from k gone w end events told views w.client_heard w.server_heard idle below shown (inr (validated Client), inr (validated Server)) (omega arith, omega arith) f

-- so the run is one again
pub isolated : (r : Run) (end : World) → IsRun r end → Isolated r end
isolated r end run validated gone idle below =
    let on = erases r.keys gone r.start end r.events r.answers r.views validated.start validated.behind (λ side i call a chosen at_event at_answer. idle side i call a chosen (record { event = at_event; answer = at_answer })) below run.follows in (
      on.0,
      on.1,
      record {
        codes = λ event i. run.codes event (without_in gone event r.events i);
        follows = on.2;
        from_client = run.from_client ∙ sym (ap (λ (v : World). v.from_client) on.1);
        from_server = run.from_server ∙ sym (ap (λ (v : World). v.from_server) on.1);
      },
    )

-- ---- the choice by answers

-- what is chosen by an event and its answer is so of them
pub of_chosen : (holds : RunEvent → Answer → Bool) (at_event : Option RunEvent) (at_answer : Option Answer) (event : RunEvent) (a : Answer) → of_both holds at_event at_answer ≡ true → at_event ≡ Some event → at_answer ≡ Some a → holds event a ≡ true
of_chosen holds at_event at_answer event a chosen is_event is_answer =
    sym (ap (λ (o : Option RunEvent). of_both holds o at_answer) is_event ∙ ap (λ (o : Option Answer). of_both holds (Some event) o) is_answer) ∙ chosen

shut_out_whole : (reason : DropReason) → is_shut_out reason ≡ true → drops_whole reason ≡ true
shut_out_whole drops.Closing out = out
shut_out_whole reason out = refl

answered_is_idle : (call : Call) (a : Answer) → is_answered_idle call a ≡ true → is_idle call a ≡ true
answered_is_idle (calls.Inject injection) a out = refl
answered_is_idle (calls.Deliver delivery) (answers.Deliver (receives.Dropped reason)) out = shut_out_whole reason out
answered_is_idle call a out = out

-- so only idle events are chosen
pub chosen_idle : (r : Run) → OnlyIdle r (answered_idle r)
chosen_idle r side i call a chosen at =
    answered_is_idle call a (of_chosen (λ event b. is_answered_idle event.call b) (slice_get r.events i) (slice_get r.answers i) (record { side = side; call = call }) a chosen at.event at.answer)

pub isolated_by_answers : (r : Run) (end : World) → IsRun r end → IsolatedByAnswers r end
isolated_by_answers r end run validated below = isolated r end run validated (answered_idle r) (chosen_idle r) below
