-- Streams that this end opens and accepts, and those that the peer's frames open (RFC 9000,
-- sections 2.1 and 4.6).
use Rattle.std.specs.Prelude.{ℕ, ◌+◌, ◌-◌, Bool, true, false, nat_lt, nat_le, ◌&&◌, not, if◌then◌else◌, Option, Some, None}
use Rattle.quic_wire_core.specs.declared.stream_id.Side.{Side}
use Rattle.quic_wire_core.specs.declared.stream_id.Dir.{Dir}
use Rattle.quic_wire_core.specs.declared.stream_id.Dir.TheVariants.{Bi, Uni}
use Rattle.quic_wire_core.specs.StreamId.{stream_id, other_side, dir_of, index_of}
use Rattle.quic_streams_parts.specs.declared.answers.Breach.{Breach}
use Rattle.quic_streams_parts.specs.declared.answers.Breach.TheVariants.{StreamLimit, StreamState, FrameEncoding}
use Rattle.quic_streams_parts.specs.declared.answers.StreamEvent.TheVariants as stream_events
use Rattle.quic_streams_parts.specs.Dirs.{of, with_of, more, is_two_way, is_own}
use Rattle.quic_streams_parts.specs.Events.{with_opened, with_event}
use Rattle.quic_streams_state.specs.State.{StreamsState, Opening, is_opened, is_opened_in}
use Rattle.quic_streams_state.specs.Limits.{raised_count, most_streams}

-- ---- at this end

-- the stream of a kind that is opened next, if one may be, and the counts then
abbrev pub opened_next : Side → Dir → Opening → Option ℕ × Opening
opened_next side dir o = if nat_lt (of dir o.own) (of dir o.own_limit) then (Some (stream_id side dir (of dir o.own)), record o { own = more dir o.own; sending = o.sending + 1 }) else (None, o)

-- the first stream of a kind that the peer opened and that wasn't accepted, and the counts once it
-- is
abbrev pub accepted_next : Side → Dir → Opening → Option ℕ × Opening
accepted_next side dir o = if nat_lt (of dir o.accepted) (of dir o.remote) then (Some (stream_id (other_side side) dir (of dir o.accepted)), record o { accepted = more dir o.accepted }) else (None, o)

-- what a call that opens a stream answers and leaves, where the end is open or isn't
abbrev pub open_answer : Bool → Dir → StreamsState → Option ℕ
open_answer true dir s = (opened_next s.side dir s.opening).0
open_answer false dir s = None

-- what a call that opens a stream leaves, where the end is open or isn't
abbrev pub after_open : Bool → Dir → StreamsState → StreamsState
after_open true dir s = record s { opening = (opened_next s.side dir s.opening).1 }
after_open false dir s = s

-- what a call that accepts one answers and leaves
abbrev pub accept_answer : Dir → StreamsState → Option ℕ
accept_answer dir s = (accepted_next s.side dir s.opening).0

-- what a call that accepts a stream leaves
abbrev pub after_accept : Dir → StreamsState → StreamsState
after_accept dir s = record s { opening = (accepted_next s.side dir s.opening).1 }

-- ---- by the peer's frames

-- whether a frame opens its stream, and with it those of its kind below it
abbrev pub opens : StreamsState → ℕ → Bool
opens s id = not (is_own s.side id) && not (is_opened s id)

-- so many streams of a kind are opened by the peer: on two-way ones this end may send too
abbrev pub with_remote : Dir → ℕ → Opening → Opening
with_remote Bi n o = record o { remote = record o.remote { bi = n }; sending = o.sending + (n - o.remote.bi) }
with_remote Uni n o = record o { remote = record o.remote { uni = n } }

-- the peer opens a stream, and those of its kind below it, where it is so
abbrev pub opened_if : Bool → ℕ → StreamsState → StreamsState
opened_if true id s = record s {
  opening = with_remote (dir_of id) (index_of id + 1) s.opening;
  events = with_opened (dir_of id) s.events;
}
opened_if false id s = s

-- after a stream was opened, where a frame for it opens it
abbrev pub opened_by : StreamsState → ℕ → StreamsState
opened_by s id = opened_if (opens s id) id s

-- an own stream has to be opened before, and one of the peer's has to lie within the count that it
-- may open
abbrev pub beyond_in : Opening → Side → ℕ → Option Breach
beyond_in o side id = if is_own side id then (if is_opened_in o side id then None else Some StreamState) else (if nat_le (raised_count (dir_of id) o) (index_of id) then Some StreamLimit else None)

-- the rule that a stream's id breaks: it isn't opened yet, or lies past what the peer may open
abbrev pub beyond : StreamsState → ℕ → Option Breach
beyond s id = beyond_in s.opening s.side id

-- the peer is told how many streams of a kind it may open
abbrev pub announced_count : Dir → Opening → Opening
announced_count dir o = record o { announced = with_of dir (raised_count dir o) o.announced }

-- the rule that a frame for the receiving part of a stream breaks by its id: STREAM and
-- RESET_STREAM (sections 19.4 and 19.8)
abbrev pub receiving_refusal : StreamsState → ℕ → Option Breach
receiving_refusal s id = if is_own s.side id && not (is_two_way (dir_of id)) then Some StreamState else beyond s id

-- the same, for the sending part: STOP_SENDING and MAX_STREAM_DATA (sections 19.5 and 19.10)
abbrev pub sending_refusal : StreamsState → ℕ → Option Breach
sending_refusal s id = if not (is_own s.side id) && not (is_two_way (dir_of id)) then Some StreamState else beyond s id

-- ---- MAX_STREAMS (section 19.11)

-- a count above 2^60 is refused
abbrev pub max_streams_breach : ℕ → Option Breach
max_streams_breach count = if nat_lt most_streams count then Some FrameEncoding else None

-- more streams of a kind may be opened, and the application is told so
abbrev pub with_own_limit : Dir → ℕ → StreamsState → StreamsState
with_own_limit dir count s = record s {
  opening = record s.opening { own_limit = with_of dir count s.opening.own_limit };
  events = with_event (stream_events.Available dir) s.events;
}

-- a limit never falls
abbrev pub after_max_streams : Dir → ℕ → StreamsState → StreamsState
after_max_streams dir count s = if nat_le count most_streams && nat_lt (of dir s.opening.own_limit) count then with_own_limit dir count s else s
