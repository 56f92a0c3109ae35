-- What an application is told of resets (RFC 9000, sections 3.2 and 19.4).
use Rattle.std.specs.Prelude.{ℕ, ◌≡◌, false, List, ◌∷◌, ◌++◌, Some, None, Ok, Err}
use Rattle.quic_wire_core.specs.declared.stream_id.Side.{Side}
use Rattle.quic_wire_core.specs.StreamId.{other_side}
use Rattle.quic_streams_parts.specs.declared.answers.ReadError.TheVariants as read_errors
use Rattle.quic_machine.specs.declared.run.ReadCall.{ReadCall}
use Rattle.quic_machine.specs.declared.run.Call.TheVariants as calls
use Rattle.quic_machine.specs.declared.run.Answer.TheVariants as answers
use Rattle.quic_headline.specs.Runs.{Run, Next, In, until, reset, AreServed}
use Rattle.quic_headline.specs.Observer.{took}
use Rattle.quic_headline.specs.Headline.{IsAt}
use Rattle.quic_headline.specs.Credit.{was_reset}

-- the application of the other end reset a stream with this code before
abbrev pub WasResetWith : Run → Side → ℕ → ℕ → ℕ → Type 0
WasResetWith r side i id code = reset id (until r (other_side side) i) ≡ Some code

-- A reset is told at a place: by a `next` of a read of the stream, or to a call that asks for one.
pub record ResetsAreToldAt (r : Run) (side : Side) (i : ℕ) : Type 0 where
  pub read : (read : ReadCall) (code : ℕ) (front behind : List Next) → IsAt r i side (calls.Read read) (answers.Read (Ok (front ++ Err (read_errors.Reset code) ∷ behind))) → WasResetWith r side i read.id code
  pub asked : (id code : ℕ) → IsAt r i side (calls.ReceivedReset id) (answers.ReceivedReset (Ok (Some code))) → WasResetWith r side i id code

-- a reset is told only of a stream that the other end's application reset, and with the code that
-- it gave
abbrev pub ResetsAreTold : Run → Type 0
ResetsAreTold r = (side : Side) (i : ℕ) → AreServed r i → ResetsAreToldAt r side i

-- And where RESET_STREAM of a stream was taken, no `next` of a read of it waits for more, nor is a
-- call that asks for its reset told that there is none.
pub record ResetsAreHeeded (r : Run) : Type 0 where
  pub read : (side : Side) (i : ℕ) (read : ReadCall) (said : List Next) → AreServed r i → IsAt r i side (calls.Read read) (answers.Read (Ok said)) → In (Err read_errors.Blocked) said → was_reset read.id (took r side i) ≡ false
  pub asked : (side : Side) (i id : ℕ) → AreServed r i → IsAt r i side (calls.ReceivedReset id) (answers.ReceivedReset (Ok None)) → was_reset id (took r side i) ≡ false
