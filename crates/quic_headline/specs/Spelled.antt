-- What STREAM frames say (RFC 9000, sections 2.2 and 19.8): the bytes that were written at their
-- offset, as often as they go.
use Rattle.std.specs.Prelude.{ℕ, ◌+◌, ◌≤◌, ◌≡◌, true, length, take, drop}
use Rattle.quic_wire_core.specs.declared.stream_id.Side.{Side}
use Rattle.quic_wire.specs.Value.{StreamValue, stream}
use Rattle.quic_headline.specs.Runs.{Run, In, AreServed, until, written, ended}
use Rattle.quic_headline.specs.Observer.{Sent, sents_until}

-- Each STREAM frame in a datagram that an end gave lies within what was written on its stream, also
-- where it has no byte, and has the bytes that were written there, so that none changes as it goes
-- again; and it has FIN only behind the last one of a stream that was finished.
pub record StreamsSay (r : Run) : Type 0 where
  pub bytes : (side : Side) (i : ℕ) (sent : Sent) (f : StreamValue) → AreServed r i → In sent (sents_until r side i) → In (stream f) sent.frames → take (length f.bytes) (drop f.offset (written f.id (until r side i))) ≡ f.bytes
  pub within : (side : Side) (i : ℕ) (sent : Sent) (f : StreamValue) → AreServed r i → In sent (sents_until r side i) → In (stream f) sent.frames → f.offset + length f.bytes ≤ length (written f.id (until r side i))
  pub fin : (side : Side) (i : ℕ) (sent : Sent) (f : StreamValue) → AreServed r i → In sent (sents_until r side i) → In (stream f) sent.frames → f.fin ≡ true
      → (ended f.id (until r side i) ≡ true) × (f.offset + length f.bytes ≡ length (written f.id (until r side i)))
