-- What is kept of all streams of one end: how many there are, what is sent on them, and what has
-- come (RFC 9000, section 4).
use Rattle.std.specs.Prelude.{ℕ, ◌+◌, ◌-◌, ◌^◌, min, Bool, nat_lt, if◌then◌else◌, List, length, Option}
use Rattle.std.specs.List.{sum_by}
use Rattle.std.specs.Map.{values_of}
use Rattle.quic_wire_core.specs.declared.stream_id.Side.{Side}
use Rattle.quic_wire_core.specs.declared.stream_id.Dir.{Dir}
use Rattle.quic_wire_core.specs.StreamId.{dir_of, index_of}
use Rattle.quic_streams_parts.specs.Dirs.{Counts, of, with_of, no_count, is_own}
use Rattle.quic_streams_parts.specs.SendHalf.{SendHalf}
use Rattle.quic_streams_parts.specs.RecvHalf.{RecvHalf, credit}
use Rattle.quic_streams_parts.specs.Queue.{Queue}
use Rattle.quic_streams_halves.specs.Halves.{Halves}

-- how many streams of each kind this end opened, and how many it may open; how many the peer
-- opened, how many of these were accepted, and how many of them are done both ways; how many
-- streams the peer may have open at once, and how many it was told that it may open in all; and how
-- many streams are opened on which this end may send, and whose sending part isn't done (section
-- 4.6)
pub record Opening : Type 0 where
  pub own : Counts
  pub own_limit : Counts
  pub remote : Counts
  pub accepted : Counts
  pub done : Counts
  pub configured : Counts
  pub announced : Counts
  pub sending : ℕ

-- the sending parts; how many bytes were accepted on all streams, and how far these may come; how
-- many bytes may be buffered; how far each kind of stream may come at first; the streams with
-- something to send; those whose write the connection blocked, the latest first; and the limit that
-- DATA_BLOCKED said last, if one went (section 4.1)
pub record Sending : Type 0 where
  pub halves : Halves SendHalf
  pub accepted : ℕ
  pub limit : ℕ
  pub window : ℕ
  pub first_own : Counts
  pub first_remote : ℕ
  pub queue : Queue
  pub blocked : List ℕ
  pub said : Option ℕ

-- the receiving halves, and the final sizes of those that are done, summed; how many bytes more
-- than were consumed may come, and how far the peer was told that they may come; and how many bytes
-- more than were read may come on one stream (section 4.1)
pub record Receiving : Type 0 where
  pub halves : Halves RecvHalf
  pub gone : ℕ
  pub window : ℕ
  pub announced : ℕ
  pub stream_window : ℕ

-- ---- sums over all streams

-- the greatest offsets that arrived
abbrev pub seen : Receiving → ℕ
seen r = r.gone + sum_by (λ h. h.seen) (values_of r.halves.live)

-- the bytes that were consumed: of a half that is done, all of them
abbrev pub consumed : Receiving → ℕ
consumed r = r.gone + sum_by credit (values_of r.halves.live)

-- the bytes that are buffered
abbrev pub buffered : Sending → ℕ
buffered s = sum_by (λ h. length h.buffer.kept) (values_of s.halves.live)

-- what limits and send window leave for all streams
abbrev pub room : Sending → ℕ
room s = min (s.limit - s.accepted) (s.window - buffered s)

-- how far a sending half may come at first
abbrev pub first_limit_in : Sending → Side → ℕ → ℕ
first_limit_in s side id = if is_own side id then of (dir_of id) s.first_own else s.first_remote

-- how far a receiving half may come at first
abbrev pub first_window : Receiving → ℕ
first_window r = r.stream_window

-- ---- counts

-- the most streams of a kind
abbrev pub most_streams : ℕ
most_streams = 2 ^ 60

-- no stream is opened, and this end may open none; the peer may have so many of each kind open at
-- once
abbrev pub no_opening : ℕ → ℕ → Opening
no_opening max_remote_bi max_remote_uni =
    let max_remote : Counts = record { bi = min max_remote_bi most_streams; uni = min max_remote_uni most_streams } in
    record { own = no_count; own_limit = no_count; remote = no_count; accepted = no_count; done = no_count; configured = max_remote; announced = max_remote; sending = 0 }

-- whether a stream was opened
abbrev pub is_opened_in : Opening → Side → ℕ → Bool
is_opened_in o side id = nat_lt (index_of id) (of (dir_of id) (if is_own side id then o.own else o.remote))

-- one more stream of a kind is done both ways
abbrev pub one_done : Dir → Opening → Opening
one_done dir o = record o { done = with_of dir (min (of dir o.done + 1) most_streams) o.done }
