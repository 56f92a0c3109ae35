-- All streams of one end: their counts, what is sent on them, what has come, and what the
-- application is told (RFC 9000, sections 2 to 4).
use Rattle.std.specs.Prelude.{ℕ, ◌+◌, ◌-◌, Bool, true, false, ◌&&◌, ◌||◌, not, [], Option, Some, None}
use Rattle.quic_wire_core.specs.declared.stream_id.Side.{Side}
use Rattle.quic_wire_core.specs.declared.stream_id.Dir.{Dir}
use Rattle.quic_wire_core.specs.StreamId.{dir_of}
use Rattle.quic_parameters.specs.Parameters.{ParameterValues}
use Rattle.quic_streams_parts.specs.Table.{at}
use Rattle.quic_streams_parts.specs.Dirs.{of, no_count, is_two_way, is_own}
use Rattle.quic_streams_halves.specs.Halves.{Status, no_halves, status, half_of, is_done, with_half, without_half}
use Rattle.quic_streams_parts.specs.SendHalf.{SendHalf, new_send_half}
use Rattle.quic_streams_parts.specs.RecvHalf.{RecvHalf, new_recv_half}
use Rattle.quic_streams_parts.specs.Queue.{no_queue}
use Rattle.quic_streams_parts.specs.Events.{no_events}
use Rattle.quic_retransmits.specs.Retransmits.{Retransmits}
use Rattle.quic_streams_state.specs.Sends.{removed_in}
pub use Rattle.quic_streams_state.specs.Parts.{Opening, Sending, Receiving, no_opening, seen, consumed, first_limit_in, first_window, is_opened_in, one_done, room}
pub use Rattle.quic_streams_state.specs.declared.state.StreamsState.{StreamsState}

-- the streams of an end, and what waits to be sent beside their bytes
pub record Streams : Type 0 where
  pub state : StreamsState
  pub pending : Retransmits

-- both
abbrev pub streams_of : StreamsState → Retransmits → Streams
streams_of s p = record { state = s; pending = p }

-- ---- the start

-- no stream is opened, and the peer's limits aren't known
abbrev pub new_streams : Side → ℕ → ℕ → ℕ → ℕ → ℕ → StreamsState
new_streams side max_remote_uni max_remote_bi send_window receive_window stream_receive_window = record {
  side = side;
  opening = no_opening max_remote_bi max_remote_uni;
  sending = record { halves = no_halves; accepted = 0; limit = 0; window = send_window; first_own = no_count; first_remote = 0; queue = no_queue; blocked = []; said = None };
  receiving = record { halves = no_halves; gone = 0; window = receive_window; announced = receive_window; stream_window = stream_receive_window };
  events = no_events;
}

-- the peer's limits at first (section 18.2)
abbrev pub after_set_params : StreamsState → ParameterValues → StreamsState
after_set_params s p = record s {
  opening = record s.opening { own_limit = record { bi = p.initial_max_streams_bidi; uni = p.initial_max_streams_uni } };
  sending = record s.sending {
    limit = p.initial_max_data;
    first_own = record { bi = p.initial_max_stream_data_bidi_remote; uni = p.initial_max_stream_data_uni };
    first_remote = p.initial_max_stream_data_bidi_local;
  };
}

-- ---- what is known of a stream (section 2.1)

-- whether the stream was opened
abbrev pub is_opened : StreamsState → ℕ → Bool
is_opened s id = is_opened_in s.opening s.side id

-- whether this end may send on the stream, and whether the peer may
abbrev pub sends_on : Side → ℕ → Bool
sends_on side id = is_own side id || is_two_way (dir_of id)

-- whether the peer may send on the stream
abbrev pub receives_on : Side → ℕ → Bool
receives_on side id = not (is_own side id) || is_two_way (dir_of id)

-- how far a sending part may come at first
abbrev pub first_limit : StreamsState → ℕ → ℕ
first_limit s id = first_limit_in s.sending s.side id

-- how far the sending part of a stream has come
abbrev pub sending_status : StreamsState → ℕ → Status SendHalf
sending_status s id = status (sends_on s.side id && is_opened s id) s.side s.sending.halves id

-- how far the receiving part of a stream has come
abbrev pub receiving_status : StreamsState → ℕ → Status RecvHalf
receiving_status s id = status (receives_on s.side id && is_opened s id) s.side s.receiving.halves id

-- the sending part of a stream, unless it is unknown or done
abbrev pub sending_half : StreamsState → ℕ → Option SendHalf
sending_half s id = half_of (new_send_half (first_limit s id)) (sending_status s id)

-- the receiving part of a stream, unless it is unknown or done
abbrev pub receiving_half : StreamsState → ℕ → Option RecvHalf
receiving_half s id = half_of (new_recv_half (first_window s.receiving)) (receiving_status s id)

-- how many streams may have something to be acknowledged: those on which this end may send, less
-- those whose sending part is done
abbrev pub send_streams : StreamsState → ℕ
send_streams s = s.opening.sending

-- how many streams of a kind that the peer opened aren't done both ways
abbrev pub remote_open_streams : StreamsState → Dir → ℕ
remote_open_streams s dir = of dir s.opening.remote - of dir s.opening.done

-- ---- another value of one part of a stream

-- the sending part of a stream has another value
abbrev pub with_send : StreamsState → ℕ → SendHalf → StreamsState
with_send s id h = record s { sending = record s.sending { halves = with_half s.side s.sending.halves id h } }

-- the same of the receiving part
abbrev pub with_recv : StreamsState → ℕ → RecvHalf → StreamsState
with_recv s id h = record s { receiving = record s.receiving { halves = with_half s.side s.receiving.halves id h } }

-- ---- a part is done

-- a stream that the peer opened is done both ways, where it is so
abbrev pub done_if : Bool → ℕ → StreamsState → StreamsState
done_if true id s = record s { opening = one_done (dir_of id) s.opening }
done_if false id s = s

-- the sending part of a stream is no longer in use, and stands nowhere in the queue
abbrev pub without_send : StreamsState → ℕ → StreamsState
without_send s id = record s { sending = removed_in (at s.sending.halves.live id) s.sending id; opening = record s.opening { sending = s.opening.sending - 1 } }

-- nothing is left to do on the sending part of a stream
abbrev pub send_done : StreamsState → ℕ → StreamsState
send_done s id = done_if (not (is_own s.side id) && is_done (receiving_status s id)) id (without_send s id)

-- the greatest offset that arrived of a half: its final size, where it is done
abbrev pub seen_at : Option RecvHalf → ℕ
seen_at None = 0
seen_at (Some h) = h.seen

-- nothing is left to do on the receiving part of a stream
abbrev pub recv_done : StreamsState → ℕ → StreamsState
recv_done s id = done_if (not (is_own s.side id) && (not (is_two_way (dir_of id)) || is_done (sending_status s id))) id (record s { receiving = record s.receiving { halves = without_half s.receiving.halves id; gone = s.receiving.gone + seen_at (at s.receiving.halves.live id) } })
