-- What DATA_BLOCKED and STREAM_DATA_BLOCKED say (RFC 9000, sections 4.1, 19.12 and 19.13): the
-- limit at which an end is blocked, which is the greatest that its peer told.
use Rattle.std.specs.Prelude.{ℕ, ◌≤◌, ◌≡◌, length}
use Rattle.quic_wire_core.specs.declared.stream_id.Side.{Side}
use Rattle.quic_wire.specs.Value.{StreamLimitValue, data_blocked, stream_data_blocked}
use Rattle.quic_machine.specs.Start.{AreStarted}
use Rattle.quic_headline.specs.Runs.{Run, In, until, written}
use Rattle.quic_headline.specs.Observer.{took}
use Rattle.quic_headline.specs.Amounts.{peer_parameters, data_limit, stream_limit, all_written}
use Rattle.quic_headline.specs.Polls.{GaveOne}

-- A DATA_BLOCKED frame in a datagram that a poll gives says the limit on all data in the peer's
-- parameters, or the greatest that came since, and no fewer bytes were written; and a
-- STREAM_DATA_BLOCKED frame says so of the data of its stream, and of the bytes written on it.
pub record BlockedSay (r : Run) : Type 0 where
  pub of_all : (s : AreStarted r.start) (side : Side) (i now : ℕ) (gave : GaveOne r side i now) (limit : ℕ) → In (data_blocked limit) gave.sent.frames
      → (limit ≡ data_limit (peer_parameters side r.start s) (took r side i)) × (limit ≤ all_written (until r side i))
  pub of_stream : (s : AreStarted r.start) (side : Side) (i now : ℕ) (gave : GaveOne r side i now) (f : StreamLimitValue) → In (stream_data_blocked f) gave.sent.frames
      → (f.limit ≡ stream_limit (peer_parameters side r.start s) side (took r side i) f.id) × (f.limit ≤ length (written f.id (until r side i)))
