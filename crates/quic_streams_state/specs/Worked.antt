-- Worked rows of streams between a client and a server, each state computed from the one before.
use Rattle.std.specs.Prelude.{ℕ, pos, ◌-◌, ◌^◌, Bool, true, false, List, [], ◌∷◌, replicate, take, length, None}
use Rattle.quic_wire_core.specs.declared.stream_id.Side.TheVariants.{Client, Server}
use Rattle.quic_wire_core.specs.declared.stream_id.Dir.TheVariants.{Bi, Uni}
use Rattle.quic_parameters.specs.Parameters.{ParameterValues}
use Rattle.quic_wire.specs.Value.{StreamValue}
use Rattle.quic_send_buffer.specs.declared.stream_meta.StreamMeta.{StreamMeta}
use Rattle.quic_retransmits.specs.Retransmits.{Retransmits, nothing_waits}
use Rattle.quic_streams_state.specs.State.{StreamsState, Streams, new_streams, after_set_params}
use Rattle.quic_streams_state.specs.Opening.{after_open, after_accept}
use Rattle.quic_streams_state.specs.Taking.{after_stream, after_reset_frame}
use Rattle.quic_streams_state.specs.Reading.{after_stop, told_bytes, next_answer, after_next, after_read_begun, after_finalize}
use Rattle.quic_streams_state.specs.Writing.{after_reset, write_answer, after_write, after_finish, after_set_priority}
use Rattle.quic_streams_state.specs.Acked.{after_stream_acked, after_stream_lost}
use Rattle.quic_streams_state.specs.Control.{Draft, control_frames}
use Rattle.quic_streams_state.specs.Frames.{Sent, with_stream_frames, stream_frames_in}

-- what the peer tells: so many bytes on all streams, and so many streams of either kind
abbrev pub told_parameters : ℕ → ℕ → ParameterValues
told_parameters bytes streams = record {
  max_idle_timeout = 30000;
  max_udp_payload_size = 65527;
  initial_max_data = bytes;
  initial_max_stream_data_bidi_local = 1250000;
  initial_max_stream_data_bidi_remote = 1250000;
  initial_max_stream_data_uni = 1250000;
  initial_max_streams_bidi = streams;
  initial_max_streams_uni = streams;
  ack_delay_exponent = 3;
  max_ack_delay = 25;
  active_connection_id_limit = 5;
  max_datagram_frame_size = 65535;
  min_ack_delay = None;
}

-- a client whose peer told this
abbrev pub client : ℕ → ℕ → StreamsState
client bytes streams = after_set_params (new_streams Client 100 100 10000000 (2 ^ 62 - 1) 1250000) (told_parameters bytes streams)

-- a server that told this
abbrev pub server : ℕ → ℕ → StreamsState
server bytes streams = after_set_params (new_streams Server streams streams 10000000 bytes 1250000) (told_parameters (2 ^ 62 - 1) 100)

-- ---- calls, each with what it leaves

-- a write at an open end
abbrev pub wrote : StreamsState → ℕ → List ℕ → StreamsState
wrote s id bytes = (after_write true (write_answer true s id (length bytes)) s nothing_waits id bytes).state

-- the STREAM frames that go where 48 bytes are left, and the streams then
abbrev pub sends : StreamsState → Sent
sends s = with_stream_frames true 48 (record { frames = []; bytes = []; state = s })

-- the other frames that go where something waits, and so many bytes are left
abbrev pub controls_in : ℕ → StreamsState → Retransmits → Draft
controls_in most s p = control_frames most 0 s p nothing_waits

-- the same in a whole datagram
abbrev pub controls : StreamsState → Retransmits → Draft
controls s p = controls_in 1163 s p

-- a STREAM frame comes
abbrev pub took : StreamsState → StreamValue → StreamsState
took s f = (after_stream s nothing_waits f).state

-- an ordered read of one `next` begins and goes on
abbrev pub read_at : StreamsState → ℕ → ℕ → StreamsState
read_at s id most = let t = after_read_begun s id true in after_next told_bytes (next_answer told_bytes t id most) t id most

-- what it leaves, with what waits
abbrev pub finalized : StreamsState → ℕ → Streams
finalized s id = after_finalize s nothing_waits id

-- the bytes of `hello`
abbrev pub hello : List ℕ
hello = 0x68 ∷ 0x65 ∷ 0x6c ∷ 0x6c ∷ 0x6f ∷ []

-- `hello` with the end, on stream 0
abbrev pub hello_frame : StreamValue
hello_frame = record { id = 0; offset = 0; fin = true; bytes = hello }

-- ---- a window of eight bytes

-- twenty bytes
abbrev pub twenty : List ℕ
twenty = replicate 20 0x61

-- the client wrote what it may of twenty bytes
abbrev pub eight_written : StreamsState
eight_written = wrote (after_open true Bi (client 8 100)) 0 twenty

-- the STREAM frame of the eight bytes that went
abbrev pub eight_frame : StreamValue
eight_frame = record { id = 0; offset = 0; fin = false; bytes = replicate 8 0x61 }

-- the server read them
abbrev pub eight_read : Streams
eight_read = finalized (read_at (took (server 8 100) eight_frame) 0 32) 0

-- ---- a window of one byte

-- the client wrote what it may of twenty bytes: one
abbrev pub one_written : StreamsState
one_written = wrote (after_open true Bi (client 1 100)) 0 twenty

-- the STREAM frame of the one byte that went
abbrev pub one_frame : StreamValue
one_frame = record { id = 0; offset = 0; fin = false; bytes = 0x61 ∷ [] }

-- the server read it
abbrev pub one_read : Streams
one_read = finalized (read_at (took (server 1 100) one_frame) 0 8) 0

-- ---- one stream of a kind

-- the client opened stream 2, wrote `a` on it and ended it
abbrev pub one_ended : StreamsState
one_ended = after_finish (wrote (after_open true Uni (client 1000 1)) 2 (0x61 ∷ [])) 2

-- `a` with the end, on stream 2
abbrev pub a_frame : StreamValue
a_frame = record { id = 2; offset = 0; fin = true; bytes = 0x61 ∷ [] }

-- the server read the byte, and then the end
abbrev pub one_accepted : StreamsState
one_accepted = after_accept Uni (took (server 1000 1) a_frame)

-- the server read the stream up to its end
abbrev pub end_read : Streams
end_read = finalized (read_at (read_at one_accepted 2 32) 2 32) 2

-- ---- a reset, and a stop

-- the client wrote `hello`, and reset the stream with code 5
abbrev pub hello_written : StreamsState
hello_written = wrote (after_open true Bi (client 1000 100)) 0 hello

-- the client reset that stream with code 5
abbrev pub hello_reset : Streams
hello_reset = after_reset hello_written nothing_waits 0 5

-- RESET_STREAM of stream 0 came after so many bytes of `hello`
abbrev pub reset_taken : ℕ → Streams
reset_taken n = after_reset_frame (took (server 1000 100) (record { id = 0; offset = 0; fin = false; bytes = take n hello })) nothing_waits (record { id = 0; code = 5; final_size = 5 })

-- `hello` and the end came, the stream was accepted, and then stopped with code 9
abbrev pub hello_taken : StreamsState
hello_taken = after_accept Bi (took (server 1000 100) hello_frame)

-- the server stopped that stream with code 9
abbrev pub hello_stopped : Streams
hello_stopped = after_stop hello_taken nothing_waits 0 9

-- ---- an end that goes twice

-- `a` on stream 0, its end, and both
abbrev pub byte_meta : StreamMeta
byte_meta = record { id = 0; offsets = record { start = 0; end = 1 }; fin = false }

-- the end behind it
abbrev pub end_meta : StreamMeta
end_meta = record { id = 0; offsets = record { start = 1; end = 1 }; fin = true }

-- both in one frame
abbrev pub whole_meta : StreamMeta
whole_meta = record { id = 0; offsets = record { start = 0; end = 1 }; fin = true }

-- the client wrote `a`, which went, and then ended the stream
abbrev pub a_ended : StreamsState
a_ended = after_finish (sends (wrote (after_open true Bi (client 1000 100)) 0 (0x61 ∷ []))).state 0

-- the end went alone; the frame of the byte was lost
abbrev pub byte_lost : StreamsState
byte_lost = after_stream_lost (sends a_ended).state byte_meta

-- both went in one frame; that of the end was lost, so the end waits to go again
abbrev pub end_lost : StreamsState
end_lost = after_stream_lost (sends byte_lost).state end_meta

-- the frame with both is acknowledged
abbrev pub whole_acked : Streams
whole_acked = after_stream_acked end_lost nothing_waits whole_meta

-- ---- more than fits

-- STOP_SENDING of streams 0 and 4, each with code 9, waits
abbrev pub two_stops : Retransmits
two_stops = record nothing_waits { stop_sending = record { id = 0; code = 9 } ∷ record { id = 4; code = 9 } ∷ [] }

-- RESET_STREAM of that stream that was reset waits, behind or before that of a stream that wasn't
abbrev pub resets_wait : List (ℕ × ℕ) → Retransmits
resets_wait resets = record nothing_waits { reset_stream = resets }

-- ---- streams that take turns

-- the client wrote twenty bytes on each of streams 0 and 4
abbrev pub two_written : StreamsState
two_written = wrote (wrote (after_open true Bi (after_open true Bi (client 1000 100))) 0 twenty) 4 twenty

-- the same, where stream 4 has a higher priority
abbrev pub higher_written : StreamsState
higher_written = wrote (after_set_priority (wrote (after_open true Bi (after_open true Bi (client 1000 100))) 0 twenty) 4 (pos 1)) 4 twenty

-- the STREAM frames that go where so many bytes are left, once as many went in the datagram before,
-- where streams take turns or don't
abbrev pub sends_twice : Bool → ℕ → StreamsState → Sent
sends_twice fair most s = stream_frames_in fair most (stream_frames_in fair most s).state

-- the STREAM frame of so many of these bytes, from an offset on
abbrev pub some_of_twenty : ℕ → ℕ → ℕ → StreamValue
some_of_twenty id offset n = record { id = id; offset = offset; fin = false; bytes = replicate n 0x61 }
