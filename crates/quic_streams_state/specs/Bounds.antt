-- What is true of the parts of the state, beside what calls say.
use Rattle.std.specs.Prelude.{ℕ, ◌+◌, ◌≤◌}
use Rattle.quic_streams_parts.specs.Dirs.{Counts}
use Rattle.quic_streams_parts.specs.RecvHalf.{RecvHalf, greatest_offset}
use Rattle.quic_streams_halves.specs.Halves.{Halves, seen_in}
use Rattle.quic_streams_state.specs.Parts.{Opening, most_streams}

-- no count is above 2^60
pub record AreCounts (c : Counts) : Type 0 where
  pub bi : c.bi ≤ most_streams
  pub uni : c.uni ≤ most_streams

-- nor are those of streams; and those on which this end sends are some of those that are opened
pub record IsOpening (o : Opening) : Type 0 where
  pub own : AreCounts o.own
  pub own_limit : AreCounts o.own_limit
  pub remote : AreCounts o.remote
  pub done : AreCounts o.done
  pub configured : AreCounts o.configured
  pub announced : AreCounts o.announced
  pub sending : o.sending ≤ o.own.bi + o.own.uni + o.remote.bi

-- limits on bytes are at most the greatest offset
pub record AreOffsets (window announced stream_window : ℕ) : Type 0 where
  pub small_window : window ≤ greatest_offset
  pub small_announced : announced ≤ greatest_offset
  pub small_stream_window : stream_window ≤ greatest_offset

-- so are they, and what arrived on all streams: on the halves in use, and on those that are done
pub record IsReceiving (halves : Halves RecvHalf) (gone window announced stream_window : ℕ) : Type 0 where
  pub limits : AreOffsets window announced stream_window
  pub seen : gone + seen_in halves.live ≤ greatest_offset
