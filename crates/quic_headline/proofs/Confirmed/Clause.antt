-- What is answered where an application says that the handshake is done, and how it is told that it
-- is confirmed: at each place of an honest run.
use Rattle.std.proofs.Common.{◌≡◌, ℕ, Bool, true, false, not, ◌&&◌, Some, None, Result, refl, sym, ap, ◌∙◌, subst}
use Rattle.std.specs.Prelude.{if◌then◌else◌}
use Rattle.std.proofs.lemmas.Bool.{and_parts}
use Rattle.quic_wire_core.specs.declared.stream_id.Side.{Side}
use Rattle.quic_wire_core.specs.declared.stream_id.Side.TheVariants.{Client, Server}
use Rattle.quic_wire_core.specs.StreamId.{other_side}
use Rattle.quic_machine.specs.declared.answers.Event.TheVariants as events
use Rattle.quic_machine.specs.declared.answers.HandshakeDoneError.{HandshakeDoneError}
use Rattle.quic_machine.specs.declared.answers.State.{State}
use Rattle.quic_machine.specs.declared.answers.State.TheVariants as states
use Rattle.quic_machine.specs.declared.run.Call.TheVariants as calls
use Rattle.quic_machine.specs.declared.run.Answer.{Answer}
use Rattle.quic_machine.specs.declared.run.Answer.TheVariants as answers
use Rattle.quic_machine.specs.Parts.{Confirmation}
use Rattle.quic_machine.specs.Calls.{is_open, tells_message, tells_done, tells_of, streams_told, end_tells}
use Rattle.quic_machine.specs.Handshake.{done_judged, done_answer}
use Rattle.quic_machine.specs.End.{End}
use Rattle.quic_machine.specs.Machine.{World}
use Rattle.quic_headline.specs.Runs.{Run, Intake, AreServed, until, state_at, was_said_done, DoneHasArrived}
use Rattle.quic_headline.specs.Observer.{took, came_in}
use Rattle.quic_headline.specs.Headline.{IsHonest, IsRun, IsAt}
use Rattle.quic_headline.specs.Confirmed.{answer_to_done, tells_confirmed, was_confirmed, DoneIsExact, ConfirmationIsTold}
use Rattle.quic_headline.proofs.Places.Parties.{Party}
use Rattle.quic_headline.proofs.Places.Groups.{Way, Nothing, And, Group, both}
use Rattle.quic_headline.proofs.Places.Openings.{took_is}
use Rattle.quic_headline.proofs.Places.Placed.{party_at, Placed, placed, answered}
use Rattle.quic_headline.proofs.Places.Everything as everything
use Rattle.quic_headline.proofs.Places.Theorems.{ready}
use Rattle.quic_headline.proofs.Halves.Ready.{Ready}
use Rattle.quic_headline.proofs.Channel.Openers.{Openers}
use Rattle.quic_headline.proofs.Confirmed.Group.{Stands, others_tell, all_of, Confirms, confirms_group}

-- all that is known of packets and streams, and how the handshake is confirmed
abbrev Base : Way
Base = And (everything.All Ready ready) Openers

abbrev All : Way
All = And Base Confirms

all : Group Nothing All
all = both Nothing Base Confirms (everything.all_reached Ready ready) (confirms_group (And Nothing Base) (record { packets = λ x y h. h.1.0.0.0; sight = λ x y h. h.1.0.1; openers = λ x y h. h.1.1 }))

-- ---- what is answered

-- in each state
judged_in : (side : Side) (said : Bool) (state : State) → done_judged side said (is_open state) ≡ answer_to_done side said state
judged_in Client said state = refl
judged_in Server true state = refl
judged_in Server false states.Open = refl
judged_in Server false states.Closing = refl
judged_in Server false states.Drained = refl
judged_in Server false states.Failed = refl

-- by what was said
judged_by : (side : Side) (said told opened : Bool) (c : Confirmation) → Stands side said told c → done_judged side c.confirmed opened ≡ done_judged side said opened
judged_by Client said told opened c s = refl
judged_by Server said told opened c s = ap (λ (b : Bool). done_judged Server b opened) s.1

-- ---- what is told

-- that it is confirmed is told where it is to be
tells_it : (e : End) → answers.Event (Some events.HandshakeConfirmed) ≡ answers.Event (end_tells e) → e.confirmation.to_tell ≡ true
tells_it e is = go (tells_message e) (tells_done e) refl is
  where
    go : (b c : Bool) → e.confirmation.to_tell ≡ c → answers.Event (Some events.HandshakeConfirmed) ≡ answers.Event (if b then Some events.Message else (if c then Some events.HandshakeConfirmed else tells_of (streams_told e).answer e.closing)) → e.confirmation.to_tell ≡ true
    go true c so tells = cc
    go false true so tells = so
    go false false so tells = (let clash : true ≡ false = ap (λ (a : Answer). tells_confirmed calls.Event a) tells ∙ others_tell (streams_told e).answer e.closing in cc)

-- where nothing is told next, it isn't to be
tells_none : (e : End) → answers.Event None ≡ answers.Event (end_tells e) → e.confirmation.to_tell ≡ false
tells_none e is = go (tells_message e) (tells_done e) refl is
  where
    go : (b c : Bool) → e.confirmation.to_tell ≡ c → answers.Event None ≡ answers.Event (if b then Some events.Message else (if c then Some events.HandshakeConfirmed else tells_of (streams_told e).answer e.closing)) → e.confirmation.to_tell ≡ false
    go true c so tells = cc
    go false true so tells = cc
    go false false so tells = so

-- only a client is told, of what came, and once
record Told (side : Side) (told : Bool) (c : Confirmation) : Type 0 where
  client : side ≡ Client
  confirmed : c.confirmed ≡ true
  first : told ≡ false

told_once : (side : Side) (said told : Bool) (c : Confirmation) → Stands side said told c → c.to_tell ≡ true → Told side told c
told_once Client said told c s waits = (let parts = and_parts c.confirmed (not told) (sym s.0 ∙ waits) in record { client = refl; confirmed = parts.0; first = go told parts.1 })
  where
    go : (b : Bool) → not b ≡ true → b ≡ false
    go true is = cc
    go false is = refl
told_once Server said told c s waits = (let clash : false ≡ true = sym s.0 ∙ waits in cc)

-- and was where that isn't to be told, and came
was_told : (said told : Bool) (c : Confirmation) → Stands Client said told c → c.to_tell ≡ false → c.confirmed ≡ true → told ≡ true
was_told said told c s none set = go told (sym none ∙ s.0 ∙ ap (λ (b : Bool). b && not told) set)
  where
    go : (b : Bool) → false ≡ not b → b ≡ true
    go true is = refl
    go false is = cc

-- ---- the clauses

module _ (r : Run) (end : World) (honest : IsHonest r) (run : IsRun r end) (side : Side) (i : ℕ) (served : AreServed r i) where
  abbrev p : Placed All r end side i
  p = placed All all r end honest run side i served

  abbrev x : Party
  x = party_at r i p.world side p.sents

  abbrev y : Party
  y = party_at r i p.world (other_side side) p.theirs

  confirms : Confirms x y
  confirms = p.gives.1

  -- what is answered where it is said that the handshake is done
  done_exact : (answer : Result (Unit {0}) HandshakeDoneError) → IsAt r i side calls.HandshakeDone (answers.HandshakeDone answer) → answer ≡ answer_to_done side (was_said_done (until r side i)) (state_at r side i)
  done_exact answer at =
      given (done_answer x.end) (answered r p.world end i side calls.HandshakeDone (answers.HandshakeDone answer) p.goes_on at)
      ∙ ap (λ (s : Side). done_judged s x.end.confirmation.confirmed (is_open x.end.closing.state)) p.gives.0.0.1.side
      ∙ judged_by side (was_said_done x.told) (was_confirmed x.told) (is_open x.end.closing.state) x.end.confirmation confirms.facts.stands
      ∙ ap (λ (s : State). done_judged side (was_said_done x.told) (is_open s)) p.state
      ∙ judged_in side (was_said_done x.told) (state_at r side i)
    where
      given : (other : Result (Unit {0}) HandshakeDoneError) → answers.HandshakeDone answer ≡ answers.HandshakeDone other → answer ≡ other
      given other is = cc

  -- it is told to a client, where HANDSHAKE_DONE came, and once
  told_after : IsAt r i side calls.Event (answers.Event (Some events.HandshakeConfirmed)) → (side ≡ Client) × DoneHasArrived (came_in r side i) × (was_confirmed (until r side i) ≡ false)
  told_after at =
      let told = told_once side (was_said_done x.told) (was_confirmed x.told) x.end.confirmation confirms.facts.stands (tells_it x.end (answered r p.world end i side calls.Event (answers.Event (Some events.HandshakeConfirmed)) p.goes_on at)) in
      (told.client, subst (λ (j : Intake). DoneHasArrived (all_of j)) (sym (took_is r honest p.world i side p.sents p.theirs)) (confirms.facts.came told.client told.confirmed), told.first)

  -- and was where nothing is told next
  told_before : IsAt r i side calls.Event (answers.Event None) → side ≡ Client → DoneHasArrived (took r side i) → was_confirmed (until r side i) ≡ true
  told_before at client arrived =
      was_told (was_said_done x.told) (was_confirmed x.told) x.end.confirmation (subst (λ (s : Side). Stands s (was_said_done x.told) (was_confirmed x.told) x.end.confirmation) client confirms.facts.stands)
      (tells_none x.end (answered r p.world end i side calls.Event (answers.Event None) p.goes_on at))
      (confirms.facts.taken (subst (λ (j : Intake). DoneHasArrived j.took) (took_is r honest p.world i side p.sents p.theirs) arrived))

pub done_is_exact : (r : Run) (end : World) → IsHonest r → IsRun r end → DoneIsExact r
done_is_exact r end honest run side i answer served at = done_exact r end honest run side i served answer at

pub confirmation_is_told : (r : Run) (end : World) → IsHonest r → IsRun r end → ConfirmationIsTold r
confirmation_is_told r end honest run side i served = (told_after r end honest run side i served, told_before r end honest run side i served)
