-- What is answered where the application says that the handshake is done, and how it is told that
-- it is confirmed (RFC 9001, section 4.1.2; RFC 9000, section 19.20).
use Rattle.std.specs.Prelude.{ℕ, ◌≡◌, Bool, true, false, List, Some, None, Result, Ok, Err}
use Rattle.std.specs.List.{list_any}
use Rattle.quic_wire_core.specs.declared.stream_id.Side.{Side}
use Rattle.quic_wire_core.specs.declared.stream_id.Side.TheVariants.{Client, Server}
use Rattle.quic_machine.specs.declared.answers.Event.TheVariants as events
use Rattle.quic_machine.specs.declared.answers.HandshakeDoneError.{HandshakeDoneError}
use Rattle.quic_machine.specs.declared.answers.HandshakeDoneError.TheVariants as done_errors
use Rattle.quic_machine.specs.declared.answers.State.{State}
use Rattle.quic_machine.specs.declared.answers.State.TheVariants as states
use Rattle.quic_machine.specs.declared.run.Call.{Call}
use Rattle.quic_machine.specs.declared.run.Call.TheVariants as calls
use Rattle.quic_machine.specs.declared.run.Answer.{Answer}
use Rattle.quic_machine.specs.declared.run.Answer.TheVariants as answers
use Rattle.quic_headline.specs.Runs.{Run, Told, until, state_at, AreServed, was_said_done, DoneHasArrived}
use Rattle.quic_headline.specs.Observer.{took, came_in}
use Rattle.quic_headline.specs.Headline.{IsAt}

-- what is answered where it was said before or not, in this state: only a server says so (RFC 9000,
-- section 19.20), once, and while it is open
abbrev pub answer_to_done : Side → Bool → State → Result (Unit {0}) HandshakeDoneError
answer_to_done Client said state = Err done_errors.Client
answer_to_done Server true state = Err done_errors.Again
answer_to_done Server false states.Open = Ok tt
answer_to_done Server false state = Err done_errors.NotOpen

-- so it is answered by the calls before, and by the view before
abbrev pub DoneIsExact : Run → Type 0
DoneIsExact r = (side : Side) (i : ℕ) (answer : Result (Unit {0}) HandshakeDoneError) → AreServed r i → IsAt r i side calls.HandshakeDone (answers.HandshakeDone answer)
    → answer ≡ answer_to_done side (was_said_done (until r side i)) (state_at r side i)

-- whether a call told that the handshake is confirmed
abbrev pub tells_confirmed : Call → Answer → Bool
tells_confirmed calls.Event (answers.Event (Some events.HandshakeConfirmed)) = true
tells_confirmed call a = false

-- whether one of those that were told did
abbrev pub was_confirmed : List Told → Bool
was_confirmed told = list_any (λ t. tells_confirmed t.call t.answer) told

-- that the handshake is confirmed is told to a client, to which HANDSHAKE_DONE came in a packet that
-- it took, or closed at, and once; and where nothing is told next, it was told where one was taken
abbrev pub ConfirmationIsTold : Run → Type 0
ConfirmationIsTold r = (side : Side) (i : ℕ) → AreServed r i
    → (IsAt r i side calls.Event (answers.Event (Some events.HandshakeConfirmed)) → (side ≡ Client) × DoneHasArrived (came_in r side i) × (was_confirmed (until r side i) ≡ false))
    × (IsAt r i side calls.Event (answers.Event None) → side ≡ Client → DoneHasArrived (took r side i) → was_confirmed (until r side i) ≡ true)
