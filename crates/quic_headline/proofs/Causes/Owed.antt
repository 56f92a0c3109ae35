-- When an end owes its close: a closing end gives a datagram only then, and does so then; and a
-- drained end gives nothing.
use Rattle.std.proofs.Common.{◌≡◌, ◌⊎◌, ℕ, zero, suc, ◌-◌, ◌≤◌, ◌^◌, Bool, true, false, List, [], ◌∷◌, length, Option, Some, None, Result, Ok, Err, refl, sym, ap, ◌∙◌, subst, inl, inr, arith}
use Rattle.std.specs.Prelude.{slice_get, if◌then◌else◌, option_map, unwrap_or, not, nat_lt, ◌&&◌}
use Rattle.std.specs.Option.{is_some}
use Rattle.std.proofs.lemmas.Bool.{lt-ltb}
use Rattle.quic_wire_core.specs.declared.stream_id.Side.{Side}
use Rattle.quic_wire_core.specs.StreamId.{other_side}
use Rattle.quic_wire.specs.Value.{FrameValue}
use Rattle.quic_spaces.specs.Numbers.{Numbers, cut_against, greatest_of}
use Rattle.quic_machine.specs.declared.answers.Failed.{Failed}
use Rattle.quic_machine.specs.declared.answers.Transmit.{Transmit}
use Rattle.quic_machine.specs.declared.answers.State.{State}
use Rattle.quic_machine.specs.declared.answers.State.TheVariants as states
use Rattle.quic_machine.specs.declared.run.RunEvent.{RunEvent}
use Rattle.quic_machine.specs.declared.run.Call.{Call}
use Rattle.quic_machine.specs.declared.run.Call.TheVariants as calls
use Rattle.quic_machine.specs.declared.run.Answer.{Answer}
use Rattle.quic_machine.specs.declared.run.Answer.TheVariants as answers
use Rattle.quic_machine.specs.declared.run.EndView.{EndView}
use Rattle.quic_machine.specs.declared.run.View.{View}
use Rattle.quic_machine.specs.Policy.{Policy}
use Rattle.quic_machine.specs.Closing.{Closing, ticked, close_owed}
use Rattle.quic_machine.specs.End.{End, number_of, with_closing, closed_by}
use Rattle.quic_machine.specs.Validation.{is_blocked}
use Rattle.quic_machine.specs.Receive.{Outcome}
use Rattle.quic_machine.specs.Poll.{Polled, close_room, fitted, can_close, may_close, close_to_go, closes_if, polled_in, polled}
use Rattle.quic_machine.specs.Lacking.{GivesOrHasFailed, PollTakes, LacksWhere}
use Rattle.quic_machine.specs.Machine.{World, Policies, IsAnswer, IsStep, Follows, policy_at, end_at, end_met, given_by, heard_at, view_of, after_call, fails, gave}
use Rattle.quic_machine.specs.CallCases.{is_delivery, Plain, by_plain_call}
use Rattle.quic_machine.specs.CallCases as cases
use Rattle.quic_machine.specs.LeaveCases.{by_expired}
use Rattle.quic_machine.specs.FrameCases.{Settling, named, begun, passed, acked_keeps, frame_keeps, frame_leaves, frames_keep, apart_leaves}
use Rattle.quic_machine.specs.Steps as steps
use Rattle.quic_machine.specs.PollCases.{at_poll, by_poll, composes}
use Rattle.quic_headline.specs.Runs.{Run, Told, Intake, acknowledged, folded, given_until, state_in, state_behind, state_at}
use Rattle.quic_headline.specs.Observer.{next_number, sents_until, took}
use Rattle.quic_headline.specs.Headline.{IsHonest, IsRun, IsAt}
use Rattle.quic_headline.specs.Closes.{asks_again, owed_behind, owed, ClosesAreOwed, MayClose, OwedClosesGo, DrainedAreSilent}
use Rattle.quic_headline.proofs.Packets.Apart.{by_waits, by_next_id}
use Rattle.quic_headline.proofs.Packets.Closes.{by_closes}
use Rattle.quic_headline.proofs.Packets.Delivered.{frames_at, Arrivals, arrived, with_taken}
use Rattle.quic_headline.proofs.Packets.Moved.{by_migrated}
use Rattle.quic_headline.proofs.Packets.Given.{allocated_near}
use Rattle.quic_headline.proofs.Packets.Group.{PacketsHold, meets}
use Rattle.quic_headline.proofs.Packets.Growth.{step_length}
use Rattle.quic_headline.proofs.Packets.Intakes.{folded_more}
use Rattle.quic_headline.proofs.Packets.Invariant.{IsSent, Knows, KnowsIn}
use Rattle.quic_headline.proofs.Packets.Probes.{may_leave}
use Rattle.quic_headline.proofs.Packets.Sight.{Sight}
use Rattle.quic_headline.proofs.Packets.Stays.{Keeps, keeps_frames, settles_losses}
use Rattle.quic_headline.proofs.Places.Coming.{by_coming}
use Rattle.quic_headline.proofs.Places.Everything as everything
use Rattle.quic_headline.proofs.Places.Flights.{own_at}
use Rattle.quic_headline.proofs.Places.Groups.{Way, Nothing, And, Calls, Group, both, beside, over}
use Rattle.quic_headline.proofs.Places.Moments.{state_shown, last_seen}
use Rattle.quic_headline.proofs.Places.Openings.{took_is, given_here}
use Rattle.quic_headline.proofs.Places.Parties.{told_of, Party, called, came_to, with_shown, shown_at}
use Rattle.quic_headline.proofs.Places.Placed.{party_at, Placed, placed, placed_less, answered}
use Rattle.quic_headline.proofs.Places.Theorems.{ready}
use Rattle.quic_headline.proofs.Halves.Ready.{Ready}
use Rattle.quic_headline.proofs.Steps.Made.{served_before}
use Rattle.quic_headline.proofs.Causes.Sealed.{Seals, seals_group}
use Rattle.quic_headline.proofs.Causes.Turns.{Turns, kept, asked, went, shut, ended, lapsed, open_closing, turns}

-- ---- a drained end

-- The step of a run at a place, and the states of both ends before it, as the views show them.
record Next (k : Policies) (i : ℕ) (w : World) (views : List View) (event : RunEvent) (a : Answer) : Type 0 where
  world : World
  behind : World
  step : IsStep k world event a behind
  state : (side : Side) → (end_at side world).closing.state ≡ state_behind side (end_at side w).closing.state i views

-- what stands in one place is the same
some_same : {X : Type 0} (x y : X) → Some x ≡ Some y → x ≡ y
some_same x y is = cc

none_there : {X : Type 0} (x : X) → ◌≡◌ {A = Option X} None (Some x) → ⊥
none_there x is = cc

-- the state behind a view
state_of : (side : Side) (i : ℕ) (views : List View) (v : View) (w : World) → v ≡ view_of w → state_behind side (end_at side w).closing.state i views ≡ state_behind side (state_in v side) i views
state_of side i views v w is = ap (λ (s : State). state_behind side s i views) (sym (ap (λ (u : View). state_in u side) is ∙ state_shown side w))

-- whether or not what came before was served
next_step : (k : Policies) (i : ℕ) (w end : World) (events : List RunEvent) (told : List Answer) (views : List View) (event : RunEvent) (a : Answer) → Follows k w events told views end → slice_get events i ≡ Some event → slice_get told i ≡ Some a → Next k i w views event a
next_step k i w end [] told views event a f at is = absurd (none_there event at)
next_step k i w end (e ∷ events) [] views event a f at is = absurd (none_there a is)
next_step k i w end (e ∷ events) (b ∷ told) [] event a f at is = absurd f
next_step k zero w end (e ∷ events) (b ∷ told) (v ∷ views) event a f at is = record {
  world = w;
  behind = f.0;
  step = subst (λ (x : RunEvent). IsStep k w x a f.0) (some_same e event at) (subst (λ (x : Answer). IsStep k w e x f.0) (some_same b a is) f.1);
  state = λ side. refl;
}
next_step k (suc i) w end (e ∷ events) (b ∷ told) (v ∷ views) event a f at is =
    let later = next_step k i f.0 end events told views event a f.3 at is in
    record { world = later.world; behind = later.behind; step = later.step; state = λ side. later.state side ∙ state_of side i views v f.0 f.2 }

-- a drained end gives nothing, and for that it takes no memory
drained_gives : (p : Policy) (e : End) (theirs : List (List ℕ)) (now : ℕ) (a : Answer) → e.closing.state ≡ states.Drained → IsAnswer p e theirs (calls.Poll now) a → LacksWhere p e theirs (calls.Poll now) a → a ≡ answers.Poll (Ok None)
drained_gives p e theirs now a here (inl is) lacks = is ∙ ap (λ (s : State). answers.Poll (polled_in s p e now).answer) here
drained_gives p e theirs now a here (inr is) lacks = absurd (takes (subst (λ (b : Answer). LacksWhere p e theirs (calls.Poll now) b) is lacks))
  where
    takes : PollTakes p e now → ⊥
    takes (inl gives) = subst (λ (s : State). GivesOrHasFailed (polled_in s p e now).answer) here gives
    takes (inr moves) = let clash : states.Open ≡ states.Drained = sym moves.0 ∙ here in cc

-- the clause
pub drained_are_silent : (r : Run) (end : World) → IsHonest r → IsRun r end → DrainedAreSilent r
drained_are_silent r end honest run side i now a at drained =
    let event : RunEvent = record { side = side; call = calls.Poll now } in
    let next = next_step r.keys i r.start end r.events r.answers r.views event a run.follows at.event at.answer in
    drained_gives (policy_at side r.keys) (end_met next.world event) (given_by (other_side side) next.world) now a (next.state side ∙ drained) next.step.answer next.step.lacking

-- ---- what an end owes

-- whether an end owes its close, by what was told at it
abbrev owed_by : List Told → Bool
owed_by told = folded (λ (t : Told) (o : Bool). owed_behind t.state t.answer o) told true

-- an end that is closing has a close, and owes it or doesn't
record IsOwing (c : Closing) (o : Bool) : Type 0 where
  owes : c.state ≡ states.Closing → c.owed ≡ o
  has : c.state ≡ states.Closing → is_some c.close ≡ true

-- an end that is drained isn't closing
drained_closing : (s : State) → s ≡ states.Drained → s ≡ states.Closing → ⊥
drained_closing states.Open drained closing = cc
drained_closing states.Closing drained closing = cc
drained_closing states.Drained drained closing = cc
drained_closing states.Failed drained closing = cc

-- at a closing end, by whether a datagram goes, and whether one came
quiet : (s : State) (a : Answer) (o : Bool) → s ≡ states.Closing → gave a ≡ false → asks_again a ≡ false → owed_behind s a o ≡ o
quiet s a o here none asks = ap (λ (x : State). owed_behind x a o) here ∙ rw (none, asks) refl

again : (s : State) (a : Answer) (o : Bool) → s ≡ states.Closing → gave a ≡ false → asks_again a ≡ true → owed_behind s a o ≡ true
again s a o here none asks = ap (λ (x : State). owed_behind x a o) here ∙ rw (none, asks) refl

goes : (s : State) (a : Answer) (o : Bool) → s ≡ states.Closing → gave a ≡ true → owed_behind s a o ≡ false
goes s a o here one = ap (λ (x : State). owed_behind x a o) here ∙ rw one refl

turned_owing : (b c : Closing) (call : Call) (a : Answer) (o : Bool) → IsOwing b o → Turns b call a c → IsOwing c (owed_behind b.state a o)
turned_owing b c call a o i (kept same owed still) = record {
  owes = λ closing. (let here : b.state ≡ states.Closing = sym same.state ∙ closing in owed ∙ i.owes here ∙ sym (quiet b.state a o here (still here).0 (still here).1));
  has = λ closing. ap is_some same.close ∙ i.has (sym same.state ∙ closing);
}
turned_owing b c call a o i (asked here same owed none asks) = record { owes = λ closing. owed ∙ sym (again b.state a o here none asks); has = λ closing. ap is_some same.close ∙ i.has here }
turned_owing b c call a o i (went here same owed one) = record { owes = λ closing. owed ∙ sym (goes b.state a o here one); has = λ closing. ap is_some same.close ∙ i.has here }
turned_owing b c call a o i (shut here state reason for f close says owed) = record { owes = λ closing. owed ∙ sym (ap (λ (s : State). owed_behind s a o) here); has = λ closing. ap is_some close }
turned_owing b c call a o i (ended here state reason close) = record { owes = λ closing. absurd (drained_closing c.state state closing); has = λ closing. absurd (drained_closing c.state state closing) }
turned_owing b c call a o i (lapsed here state close) = record { owes = λ closing. absurd (drained_closing c.state state closing); has = λ closing. absurd (drained_closing c.state state closing) }

-- x owes its close by what was told at it
abbrev Owing : Way
Owing x y = IsOwing x.end.closing (owed_by x.told)

owing_group : (B : Way) → Group B Owing
owing_group B = record {
  first = λ x y m there here. record { owes = λ closing. cc; has = λ closing. cc };
  writer = λ x y call a c before back.
      subst (λ (o : Bool). IsOwing (after_call x.policy x.end y.given call a).closing o) (sym (folded_more (λ (t : Told) (o : Bool). owed_behind t.state t.answer o) x.told (told_of call a x.end.closing.state) true))
      (turned_owing x.end.closing (after_call x.policy x.end y.given call a).closing call a (owed_by x.told) before (turns x.policy x.end y.given call a c.answer c.served));
  reader = λ x y call a c there before. record { owes = before.owes; has = before.has };
  shows = λ x y here there b back s t. record { owes = s.owes; has = s.has };
}

-- ---- a closing end gives only what it owes

-- one that doesn't owe its close gives none
none_owed : (p : Policy) (x : End) → x.closing.owed ≡ false → close_to_go p x ≡ None
none_owed p x none = go (may_close p x)
  where
    go : (may : Bool) → (if may then option_map (fitted (close_room x)) (close_owed x.closing) else None) ≡ None
    go true = ap (λ (b : Bool). option_map (fitted (close_room x)) (if b then x.closing.close else None)) none
    go false = refl

-- so what a closing end gives it owed
given_owed : (p : Policy) (e : End) (now : ℕ) → e.closing.state ≡ states.Closing → GivesOrHasFailed (polled p e now).answer → e.closing.owed ≡ true
given_owed p e now here gives = go e.closing.owed refl
  where
    x : End
    x = with_closing e (ticked e.closing now)

    go : (b : Bool) → e.closing.owed ≡ b → e.closing.owed ≡ true
    go true is = is
    go false is = absurd (subst (λ (o : Option FrameValue). GivesOrHasFailed (closes_if o p x).answer) (none_owed p x is) (subst (λ (s : State). GivesOrHasFailed (polled_in s p e now).answer) here gives))

same_poll : (s t : Result (Option Transmit) Failed) → answers.Poll s ≡ answers.Poll t → s ≡ t
same_poll s t is = cc

-- a poll that isn't answered by want of memory is answered as the machine says
said_by : (p : Policy) (e : End) (theirs : List (List ℕ)) (now : ℕ) (given : Option Transmit) → IsAnswer p e theirs (calls.Poll now) (answers.Poll (Ok given)) → (polled p e now).answer ≡ Ok given
said_by p e theirs now given (inl is) = sym (same_poll (Ok given) (polled p e now).answer is)
said_by p e theirs now given (inr is) = let clash : ◌≡◌ {A = Result (Option Transmit) Failed} (Ok given) (Err (record {})) = same_poll (Ok given) (Err (record {})) is in cc

-- the clause
pub closes_are_owed : (r : Run) (end : World) → IsHonest r → IsRun r end → ClosesAreOwed r
closes_are_owed r end honest run side i now gave closing = sym (at.gives.owes here) ∙ owing
  where
    at : Placed Owing r end side i
    at = placed Owing (owing_group Nothing) r end honest run side i (served_before r.answers i gave.served)

    here : (end_at side at.world).closing.state ≡ states.Closing
    here = at.state ∙ closing

    -- the end as the poll finds it
    e : End
    e = with_shown (end_at side at.world) (shown_at side at.world)

    said : (polled (policy_at side r.keys) e now).answer ≡ Ok (Some gave.transmit)
    said = said_by (policy_at side r.keys) e (given_by (other_side side) at.world) now (Some gave.transmit) (answered r at.world end i side (calls.Poll now) (answers.Poll (Ok (Some gave.transmit))) at.goes_on gave.poll)

    owing : (end_at side at.world).closing.owed ≡ true
    owing = given_owed (policy_at side r.keys) e now here (subst GivesOrHasFailed (sym said) tt)

-- ---- what a closing end knows of what was acknowledged

-- no less than the packets acknowledged that it took: of one that it refused, what stands before
-- the frame at fault counts too
abbrev IsCovered : End → Intake → Type 0
IsCovered e i = e.closing.state ≡ states.Closing → acknowledged i.took ≤ cut_against e.numbers

-- an end that is closing behind a call was open before it, or closing
was_live : (b c : Closing) (call : Call) (a : Answer) → c.state ≡ states.Closing → Turns b call a c → (b.state ≡ states.Open) ⊎ (b.state ≡ states.Closing)
was_live b c call a closing (kept same owed still) = inr (sym same.state ∙ closing)
was_live b c call a closing (asked here same owed none asks) = inr here
was_live b c call a closing (went here same owed one) = inr here
was_live b c call a closing (shut here state reason for f close says owed) = inl here
was_live b c call a closing (ended here state reason close) = absurd (drained_closing c.state state closing)
was_live b c call a closing (lapsed here state close) = absurd (drained_closing c.state state closing)

-- only a delivery tells an end of acknowledgements
cut_call : (p : Policy) (e : End) (theirs : List (List ℕ)) (call : Call) (a : Answer) → is_delivery call ≡ false → cut_against (after_call p e theirs call a).numbers ≡ cut_against e.numbers
cut_call p e theirs call a apart = by_plain_call p e theirs P call a keep
  where
    P : End → Type 0
    P x = cut_against x.numbers ≡ cut_against e.numbers

    polls : (now : ℕ) → P (polled p e now).end
    polls now = by_poll p e now (λ (q : Polled). P q.end) (record {
      silent = refl;
      failed = refl;
      nothing = λ c. refl;
      repeats = λ is. by_closes p (with_closing e (ticked e.closing now)) (λ (q : Polled). P q.end) refl (λ f goes. refl);
      closes = λ reason c bound. by_closes p (closed_by reason (at_poll e now c)) (λ (q : Polled). P q.end) refl (λ f goes. refl);
      gives = λ leaving c left is may ready some.
          let x : End = at_poll e now c in
          ap (λ (n : Numbers). cut_against n) (composes leaving x (may_leave e now leaving x ready)).numbers;
    })

    keep : Plain p e call P
    keep (cases.times now expiry) may = by_expired p.words e now P (λ acks tracking timers waits asked runs packets. refl) (λ acks timers waits asked runs. ap (λ (n : Numbers). cut_against n) (settles_losses (with_closing e (ticked e.closing now))).numbers) (λ x j. j) expiry
    keep (cases.polls now) may = polls now
    keep (cases.hears arrival d) is = (let clash : ◌≡◌ {A = Bool} true false = sym is ∙ apart in cc)
    keep (cases.waits now b) may = by_waits P b (with_closing e (ticked e.closing now)) refl refl
    keep (cases.changes_id b) may = by_next_id P e b refl (λ c. refl) (λ c most. refl)
    keep c may = refl

covered_call : (p : Policy) (e : End) (theirs : List (List ℕ)) (call : Call) (a : Answer) (i : Intake) → is_delivery call ≡ false → IsAnswer p e theirs call a → fails a ≡ false → KnowsIn e.closing.state e.numbers i → IsCovered e i → IsCovered (after_call p e theirs call a) i
covered_call p e theirs call a i apart is served k covered closing =
    let same = cut_call p e theirs call a apart in
    elim (was_live e.closing (after_call p e theirs call a).closing call a closing (turns p e theirs call a is served)) [
      | inl here ↦ (let knows = (subst (λ (s : State). KnowsIn s e.numbers i) here k).named in omega arith)
      | inr here ↦ (let before = covered here in omega arith)
    ]

-- frames of a packet tell it no less than it knew
module _ (low : ℕ) where
  abbrev Rises : End → Type 0
  Rises x = low ≤ cut_against x.numbers

  settles : Settling Rises
  settles (steps.known n) e i = i
  settles s e i = i

  greatest_rises : (o : Option ℕ) (n : ℕ) → unwrap_or o 0 ≤ greatest_of o n
  greatest_rises None n = omega arith
  greatest_rises (Some m) n = omega arith

  frames_rise : (fs : List FrameValue) (e : End) → Rises e → Rises (passed fs e).end
  frames_rise = frames_keep Rises (frame_keeps Rises (record {
    ack = λ rises a e i. acked_keeps Rises settles rises a (named a e) (let more = greatest_rises e.numbers.largest_acked a.largest in omega arith);
    on_streams = λ f e on i. frame_leaves Rises f e on (λ t. i);
    message = λ m e i. i;
    apart = λ f e is i. apart_leaves Rises f e is (λ x. i) (λ x most. i);
  }))

-- in each case of a delivery
covered_arrivals : (e : End) (now n : ℕ) (frames taken : List FrameValue) (i : Intake) → KnowsIn e.closing.state e.numbers i → IsCovered e i → Arrivals e now n frames taken i (λ (o : Outcome) (j : Intake). IsCovered o.end j)
covered_arrivals e now n frames taken i k covered = record {
  ignored = λ reason. covered;
  noted = λ here reason closing. covered here;
  takes = λ words here new none urged mark closing. absurd (open_closing e.closing.state here (sym (ap (λ (c : Closing). c.state) left.closing) ∙ closing));
  moves = λ p o same remote x opened left_so. by_migrated (λ (z : End). IsCovered z (with_taken i n frames)) p o remote x (λ c. left_so) (λ c most. left_so);
  drains = λ words here new close is closing. absurd (drained_closing states.Drained refl closing);
  refuses = λ words here new f is closing. (let knows = (known here).named in let more = frames_rise (cut_against e.numbers) taken (begun e now n) (omega arith) in omega arith);
  exhausts = λ here closing. (let knows = (known here).named in omega arith);
}
  where
    known : e.closing.state ≡ states.Open → Knows e.numbers i
    known here = subst (λ (s : State). KnowsIn s e.numbers i) here k

    left : Keeps (begun e now n) (arrived e now n taken).end
    left = keeps_frames taken (begun e now n)

-- y takes from x, and knows of so much
abbrev Covers : Way
Covers x y = IsCovered y.end (came_to y x)

module _ (B : Way) (packets : (x y : Party) → B x y → PacketsHold x y) where
  covers_on : (x y : Party) (call : Call) (a : Answer) → Calls B x y call a → Covers x y → Covers y x → Covers y (called x y.given call a)
  covers_on x y call a c there s =
      let p : PacketsHold y x = packets y x c.takes in
      by_coming x y a c.joined c.served (meets y x p) IsCovered call c.answer (record {
        apart = λ apart. covered_call x.policy x.end y.given call a (came_to x y) apart c.answer c.served p.knows s;
        none = λ delivery is. s;
        comes = λ delivery is sent among here. covered_arrivals x.end delivery.now sent.number sent.frames (frames_at here sent.frames) (came_to x y) p.knows s;
      })

  covers_group : Group B Covers
  covers_group = record {
    first = λ x y m there here closing. cc;
    writer = λ x y call a c s back. s;
    reader = covers_on;
    shows = λ x y here there b back s t. s;
  }

-- ---- a closing end gives what it owes

both_true : (a b : Bool) → a ≡ true → b ≡ true → (a && b) ≡ true
both_true true true one other = refl
both_true true false one other = cc
both_true false b one other = cc

-- nothing is held back where the address of the peer is validated
validated_free : (b c : Bool) → b ≡ true → not (not b && c) ≡ true
validated_free true c is = refl
validated_free false c is = cc

-- where a close may go that is owed, one does
owed_gives : (p : Policy) (e : End) (now : ℕ) (f : FrameValue) → e.closing.state ≡ states.Closing → e.closing.owed ≡ true → e.closing.close ≡ Some f → may_close p (with_closing e (ticked e.closing now)) ≡ true → (polled p e now).answer ≡ Ok None → ⊥
owed_gives p e now f here owed has may said = subst GivesOrHasFailed (sym is ∙ said) tt
  where
    x : End
    x = with_closing e (ticked e.closing now)

    to_go : close_to_go p x ≡ Some (fitted (close_room x) f)
    to_go =
        ap (λ (b : Bool). if b then option_map (fitted (close_room x)) (close_owed x.closing) else None) may
        ∙ ap (λ (b : Bool). option_map (fitted (close_room x)) (if b then x.closing.close else None)) owed
        ∙ ap (λ (o : Option FrameValue). option_map (fitted (close_room x)) o) has

    is : (polled p e now).answer ≡ (closes_if (Some (fitted (close_room x) f)) p x).answer
    is = ap (λ (s : State). (polled_in s p e now).answer) here ∙ ap (λ (o : Option FrameValue). (closes_if o p x).answer) to_go

-- all that holds between the ends, and what they owe, sealed and know of acknowledgements
abbrev Known : Way
Known = And (everything.All Ready ready) (And Owing (And Seals Covers))

known : Group Nothing Known
known = both Nothing All (And Owing (And Seals Covers)) (everything.all Ready ready)
    (beside (And Nothing All) Owing (And Seals Covers) (owing_group (And Nothing All))
    (beside (And Nothing All) Seals Covers (over PacketsHold (And Nothing All) Seals (λ x y h. h.1.0.0) seals_group) (covers_group (And Nothing All) (λ x y h. h.1.0.0))))
  where
    All : Way
    All = everything.All Ready ready

module _ (r : Run) (end : World) (honest : IsHonest r) (run : IsRun r end) (side : Side) (i now : ℕ) (at : Placed Known r end side i) (closing : state_at r side i ≡ states.Closing) (owes : owed r side i ≡ true) (may : MayClose r side i) where
  abbrev x : Party
  x = party_at r i at.world side at.sents

  abbrev y : Party
  y = party_at r i at.world (other_side side) at.theirs

  abbrev p : Policy
  p = policy_at side r.keys

  -- the end as a poll finds it
  abbrev e : End
  e = with_shown (end_at side at.world) (shown_at side at.world)

  here : (end_at side at.world).closing.state ≡ states.Closing
  here = at.state ∙ closing

  packets : PacketsHold x y
  packets = at.gives.0.0.0

  own : sents_until r side i ≡ at.sents
  own = own_at r end honest side i (placed_less Known Sight r end side i (λ x y h. h.0.1) at)

  -- its next number, and what that is cut against
  next : x.end.numbers.next ≡ next_number (sents_until r side i)
  next = packets.gives.next ∙ ap next_number (sym own)

  told : acknowledged (took r side i) ≤ cut_against x.end.numbers
  told =
      let same : acknowledged (took r side i) ≡ acknowledged (came_to x y).took = ap (λ (j : Intake). acknowledged j.took) (took_is r honest at.world i side at.sents at.theirs) in
      let less = at.takes.1.1.1 here in
      omega arith

  -- what its key sealed
  sealed : x.end.numbers.sealed ≡ length (given_until r side i)
  sealed =
      let all = at.gives.1.1.0.sealed in
      let each = step_length (IsSent x.policy) at.sents x.given packets.gives.each in
      let given = ap length (given_here r end honest side i (placed_less Known PacketsHold r end side i (λ x y h. h.0.0.0) at)) in
      omega arith

  validated : (end_at side at.world).path.validated ≡ true
  validated = sym (ap (λ (v : EndView). v.validated) (last_seen side r.keys i r.start at.world r.events r.answers r.views at.leads)) ∙ may.validated

  unblocked : not (is_blocked (end_at side at.world) (heard_at side at.world)) ≡ true
  unblocked = validated_free (end_at side at.world).path.validated _ validated

  goes_now : may_close p (with_closing e (ticked e.closing now)) ≡ true
  goes_now =
      let near = (allocated_near x.end.filter x.end.numbers.next).1 in
      let number = next in
      let cut = told in
      let key = sealed in
      let seals = may.seals in
      let small = may.small in
      let close = may.near in
      both_true (not e.path.blocked) (can_close p e) unblocked
      (both_true (nat_lt (number_of e) (2 ^ 62) && nat_lt (number_of e - cut_against e.numbers) (2 ^ 31)) (nat_lt e.numbers.sealed p.seals)
      (both_true (nat_lt (number_of e) (2 ^ 62)) (nat_lt (number_of e - cut_against e.numbers) (2 ^ 31)) (lt-ltb (number_of e) (2 ^ 62) (omega arith)) (lt-ltb (number_of e - cut_against e.numbers) (2 ^ 31) (omega arith)))
      (lt-ltb e.numbers.sealed p.seals (omega arith)))

  has_close : (o : Option FrameValue) → is_some o ≡ true → (f : FrameValue) × (o ≡ Some f)
  has_close (Some f) is = (f, refl)
  has_close None is = cc

  silent_not : IsAt r i side (calls.Poll now) (answers.Poll (Ok None)) → ⊥
  silent_not is =
      let close = has_close (end_at side at.world).closing.close (at.gives.1.0.has here) in
      owed_gives p e now close.0 here (at.gives.1.0.owes here ∙ owes) close.1 goes_now (said_by p e (given_by (other_side side) at.world) now None (answered r at.world end i side (calls.Poll now) (answers.Poll (Ok None)) at.goes_on is))

-- the clause
pub owed_closes_go : (r : Run) (end : World) → IsHonest r → IsRun r end → OwedClosesGo r
owed_closes_go r end honest run side i now served closing owes may is =
    silent_not r end honest run side i now (placed Known known r end honest run side i (served_before r.answers i served)) closing owes may is
