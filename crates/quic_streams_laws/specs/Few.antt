-- How many streams there are stays within what may be opened.
use Rattle.std.specs.Prelude.{◌≤◌}
use Rattle.quic_wire_core.specs.declared.stream_id.Dir.{Dir}
use Rattle.quic_streams_parts.specs.Dirs.{of}
use Rattle.quic_streams_state.specs.declared.state.StreamsState.{StreamsState}
use Rattle.quic_streams_state.specs.Limits.{most_streams}

-- of each kind: this end opens no more than it may, which are 2^60 at most, as are those that the
-- peer opened; of these no more were accepted than were opened
pub record AreFew (s : StreamsState) : Type 0 where
  pub own : (dir : Dir) → of dir s.opening.own ≤ of dir s.opening.own_limit
  pub own_limit : (dir : Dir) → of dir s.opening.own_limit ≤ most_streams
  pub remote : (dir : Dir) → of dir s.opening.remote ≤ most_streams
  pub accepted : (dir : Dir) → of dir s.opening.accepted ≤ of dir s.opening.remote
