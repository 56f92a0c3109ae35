-- The codes with which streams are stopped and reset, in what goes, and that nothing goes behind a
-- reset (RFC 9000, sections 3.3, 3.5, 19.4 and 19.5).
use Rattle.std.specs.Prelude.{ℕ, ◌≡◌, true, List, length, Some, None}
use Rattle.quic_wire_core.specs.declared.stream_id.Side.{Side}
use Rattle.quic_wire.specs.Value.{StreamValue, StopSendingValue, ResetStreamValue, stream, stop_sending, reset_stream}
use Rattle.quic_machine.specs.declared.run.Call.TheVariants as calls
use Rattle.quic_headline.specs.Runs.{Run, Told, In, AreServed, until, written, reset}
use Rattle.quic_headline.specs.Observer.{Sent, sents_until}
use Rattle.quic_headline.specs.Polls.{GaveOne}
use Rattle.quic_headline.specs.Unread.{stopped_by}

-- One of these calls stopped a stream with this code.
pub record WasStopped (told : List Told) (id code : ℕ) : Type 0 where
  pub call : Told
  pub among : In call told
  pub called : call.call ≡ calls.Stop id code
  pub stops : stopped_by id call.call call.answer ≡ true

-- each STOP_SENDING in a datagram that an end gave has the code with which its application stopped
-- that stream: no stream is stopped twice (`ReadsAreOver`)
abbrev pub StopsSay : Run → Type 0
StopsSay r = (side : Side) (i : ℕ) (sent : Sent) (f : StopSendingValue) → AreServed r i → In sent (sents_until r side i) → In (stop_sending f) sent.frames → WasStopped (until r side i) f.id f.code

-- each RESET_STREAM in one has the code with which its application reset that stream, and says how
-- many bytes were written on it
abbrev pub ResetsSay : Run → Type 0
ResetsSay r = (side : Side) (i : ℕ) (sent : Sent) (f : ResetStreamValue) → AreServed r i → In sent (sents_until r side i) → In (reset_stream f) sent.frames
    → (reset f.id (until r side i) ≡ Some f.code) × (f.final_size ≡ length (written f.id (until r side i)))

-- each STREAM frame in a datagram that a poll gives is of a stream that the application of its end
-- didn't reset before (section 3.3)
abbrev pub NothingBehindResets : Run → Type 0
NothingBehindResets r = (side : Side) (i now : ℕ) (gave : GaveOne r side i now) (f : StreamValue) → In (stream f) gave.sent.frames → reset f.id (until r side i) ≡ None
