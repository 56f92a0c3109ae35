-- Whether something waits to be sent: a frame is written where this says so, and nowhere else (RFC
-- 9000, sections 4.1 and 19.13).
use Rattle.std.specs.Prelude.{Bool}
use Rattle.quic_streams_parts.specs.Queue.{is_waiting}
use Rattle.quic_retransmits.specs.declared.retransmits.ControlKind.{ControlKind}
use Rattle.quic_retransmits.specs.Retransmits.{Retransmits, any_counts, is_empty_where}
use Rattle.quic_streams_state.specs.State.{StreamsState}
use Rattle.quic_streams_state.specs.Control.{may_go, may_go_on}

-- whether bytes or the end of a stream wait
abbrev pub can_send_stream_data : StreamsState → Bool
can_send_stream_data s = is_waiting s.sending.queue

-- whether something waits of a kind that would be written
abbrev pub any_goes : ControlKind → Retransmits → StreamsState → Bool
any_goes kind p s = any_counts (may_go s) (may_go_on s) kind p

-- whether nothing waits that would be written
abbrev pub is_empty : Retransmits → StreamsState → Bool
is_empty p s = is_empty_where (may_go s) (may_go_on s) p
