-- An end heeds that its peer stops a stream (RFC 9000, sections 2.4 and 3.5), and takes no byte and
-- no message, nor opens a stream, once it isn't open (section 10).
use Rattle.std.specs.Prelude.{ℕ, ◌≡◌, ◌≢◌, Bool, true, false, ◌==◌, [], Some, Ok, Err}
use Rattle.quic_wire_core.specs.declared.stream_id.Side.{Side}
use Rattle.quic_streams_parts.specs.declared.answers.WriteError.TheVariants as write_errors
use Rattle.quic_streams_parts.specs.declared.answers.FinishError.TheVariants as finish_errors
use Rattle.quic_machine.specs.declared.answers.State.TheVariants as states
use Rattle.quic_machine.specs.declared.run.Call.{Call}
use Rattle.quic_machine.specs.declared.run.Call.TheVariants as calls
use Rattle.quic_machine.specs.declared.run.Answer.{Answer}
use Rattle.quic_machine.specs.declared.run.Answer.TheVariants as answers
use Rattle.quic_headline.specs.Runs.{Run, AreServed, state_at, written_by}
use Rattle.quic_headline.specs.Observer.{took}
use Rattle.quic_headline.specs.Headline.{IsAt}
use Rattle.quic_headline.specs.Amounts.{was_stopped}

-- no call writes a byte on a stream of which its end took STOP_SENDING
abbrev pub StoppedTakeNothing : Run → Type 0
StoppedTakeNothing r = (side : Side) (i id : ℕ) (call : Call) (a : Answer) → AreServed r i → IsAt r i side call a → was_stopped id (took r side i) ≡ true → written_by id call a ≡ []

-- whether a call that writes on a stream or finishes it was answered that the peer stopped it
abbrev pub is_told_stopped : ℕ → Call → Answer → Bool
is_told_stopped id (calls.Write s bytes) (answers.Write (Err (write_errors.Stopped code))) = s == id
is_told_stopped id (calls.WriteChunks s buffers) (answers.WriteChunks (Err (write_errors.Stopped code))) = s == id
is_told_stopped id (calls.Finish s) (answers.Finish (Err (finish_errors.Stopped code))) = s == id
is_told_stopped id call a = false

-- an open end answers so only of a stream of which it took STOP_SENDING
abbrev pub StoppedOnlyWhereAsked : Run → Type 0
StoppedOnlyWhereAsked r = (side : Side) (i id : ℕ) (call : Call) (a : Answer) → AreServed r i → state_at r side i ≡ states.Open → IsAt r i side call a → is_told_stopped id call a ≡ true → was_stopped id (took r side i) ≡ true

-- whether a call was answered that something will be sent for it: bytes were written, a message was
-- queued, or a stream was opened
abbrev pub takes_up : Call → Answer → Bool
takes_up (calls.Write id bytes) (answers.Write (Ok count)) = true
takes_up (calls.WriteChunks id buffers) (answers.WriteChunks (Ok written)) = true
takes_up (calls.Send message makes_room) (answers.Send (Ok done)) = true
takes_up (calls.Open dir) (answers.Open (Some id)) = true
takes_up call a = false

-- an end that isn't open answers no call so
abbrev pub ClosedTakeNothing : Run → Type 0
ClosedTakeNothing r = (side : Side) (i : ℕ) (call : Call) (a : Answer) → AreServed r i → state_at r side i ≢ states.Open → IsAt r i side call a → takes_up call a ≡ false
