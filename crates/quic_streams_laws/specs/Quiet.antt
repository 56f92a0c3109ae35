-- Words about what an end sends leave what it receives.
use Rattle.std.specs.Prelude.{◌≡◌, ℕ, ◌≤◌, ℤ, Bool, List, length, Some}
use Rattle.quic_wire_core.specs.declared.stream_id.Dir.{Dir}
use Rattle.quic_wire.specs.Value.{StopSendingValue}
use Rattle.quic_send_buffer.specs.Buffered.{written}
use Rattle.quic_send_buffer.specs.declared.stream_meta.StreamMeta.{StreamMeta}
use Rattle.quic_streams_parts.specs.SendHalf.{SendHalf}
use Rattle.quic_retransmits.specs.Retransmits.{Retransmits}
use Rattle.quic_streams_state.specs.declared.state.StreamsState.{StreamsState}
use Rattle.quic_streams_state.specs.State.{sending_half}
use Rattle.quic_streams_state.specs.Opening.{after_open, after_max_streams}
use Rattle.quic_streams_state.specs.Taking.{after_max_data, after_max_stream_data, after_stop_sending}
use Rattle.quic_streams_state.specs.Writing.{write_answer, after_write, write_chunks_answer, after_write_chunks, after_finish, after_reset, after_set_priority}
use Rattle.quic_streams_state.specs.Acked.{after_stream_acked, after_stream_lost, after_reset_acked}
use Rattle.quic_streams_state.specs.Telling.{polled}
use Rattle.quic_streams_state.specs.Frames.{Sent, with_stream_frames}
use Rattle.quic_streams_state.specs.Control.{Draft, with_control_frames}

-- of the sending half of a stream no byte counts as sent that wasn't written
abbrev pub IsSentWithin : StreamsState → ℕ → Type 0
IsSentWithin s id = (h : SendHalf) → sending_half s id ≡ Some h → h.buffer.unsent ≤ written h.buffer

-- a fact that each word about what an end sends leaves as it was
pub record IsQuiet (P : StreamsState → Type 0) : Type 0 where
  -- calls
  pub opens : (is_open : Bool) (dir : Dir) (s : StreamsState) → P s → P (after_open is_open dir s)
  pub writes : (is_open : Bool) (s : StreamsState) (p : Retransmits) (id : ℕ) (bytes : List ℕ) → IsSentWithin s id → P s → P (after_write is_open (write_answer is_open s id (length bytes)) s p id bytes).state
  pub writes_chunks : (is_open : Bool) (s : StreamsState) (p : Retransmits) (id : ℕ) (chunks : List (List ℕ)) → IsSentWithin s id → P s → P (after_write_chunks is_open (write_chunks_answer is_open s id chunks) s p id chunks).state
  pub finishes : (s : StreamsState) (id : ℕ) → P s → P (after_finish s id)
  pub resets : (s : StreamsState) (p : Retransmits) (id code : ℕ) → P s → P (after_reset s p id code).state
  pub sets_priority : (s : StreamsState) (id : ℕ) (priority : ℤ) → P s → P (after_set_priority s id priority)
  pub polls : (s : StreamsState) → P s → P (polled s).state
  -- frames that come
  pub stop_sending : (s : StreamsState) (f : StopSendingValue) → P s → P (after_stop_sending s f)
  pub max_data : (s : StreamsState) (limit : ℕ) → P s → P (after_max_data s limit)
  pub max_stream_data : (s : StreamsState) (id limit : ℕ) → P s → P (after_max_stream_data s id limit)
  pub max_streams : (dir : Dir) (count : ℕ) (s : StreamsState) → P s → P (after_max_streams dir count s)
  -- what is acknowledged or lost
  pub acked : (s : StreamsState) (p : Retransmits) (m : StreamMeta) → P s → P (after_stream_acked s p m).state
  pub lost : (s : StreamsState) (m : StreamMeta) → P s → P (after_stream_lost s m)
  pub reset_acked : (s : StreamsState) (p : Retransmits) (id : ℕ) → P s → P (after_reset_acked s p id).state
  -- frames that go
  pub stream_frames : (fair : Bool) (most : ℕ) (d : Sent) → P d.state → P (with_stream_frames fair most d).state
  pub control_frames : (most : ℕ) (d : Draft) → P d.state → P (with_control_frames most d).state
