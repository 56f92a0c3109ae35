use Rattle.quic_streams_laws.specs.KeepingLaws.{by_open, by_accept, by_read_begun, by_next, by_finalize, by_stop, by_received_reset, by_polled}
use Rattle.quic_streams_laws.specs.Written.{HoldsWritten}
use Rattle.quic_streams_laws.specs.WrittenLaws.{holds_kept, holds_set_priority, holds_stream_frames}
use Rattle.quic_streams_laws.specs.QuietLaws.{by_control_frames}
use Rattle.quic_streams_laws.proofs.laws.sends.calls_leave_what_was_written.Goals as goal

pub returns-clause-open : goal.returns-clause-open
returns-clause-open c = λ wrote s is_open dir i. by_open (HoldsWritten wrote) (holds_kept wrote) is_open dir s i

pub returns-clause-accept : goal.returns-clause-accept
returns-clause-accept c = λ wrote s dir i. by_accept (HoldsWritten wrote) (holds_kept wrote) dir s (λ may. may) i

pub returns-clause-set_priority : goal.returns-clause-set_priority
returns-clause-set_priority c = λ wrote s id priority i. holds_set_priority wrote s i id priority

pub returns-clause-read : goal.returns-clause-read
returns-clause-read c = λ wrote s id ordered i. by_read_begun (HoldsWritten wrote) (holds_kept wrote) s id ordered (λ h e. tt) i

pub returns-clause-next : goal.returns-clause-next
returns-clause-next c = λ wrote s told id most i. by_next (HoldsWritten wrote) (holds_kept wrote) told s id most (λ h c e f. tt) i

pub returns-clause-finalize : goal.returns-clause-finalize
returns-clause-finalize c = λ wrote s p id i. by_finalize (HoldsWritten wrote) (holds_kept wrote) s p id i

pub returns-clause-stop : goal.returns-clause-stop
returns-clause-stop c = λ wrote s p id code i. by_stop (HoldsWritten wrote) (holds_kept wrote) s p id code (λ h e. tt) i

pub returns-clause-received_reset : goal.returns-clause-received_reset
returns-clause-received_reset c = λ wrote s p id i. by_received_reset (HoldsWritten wrote) (holds_kept wrote) s p id i

pub returns-clause-poll : goal.returns-clause-poll
returns-clause-poll c = λ wrote s i. by_polled (HoldsWritten wrote) (holds_kept wrote) s i

pub returns-clause-stream_frames : goal.returns-clause-stream_frames
returns-clause-stream_frames c = holds_stream_frames

pub returns-clause-control_frames : goal.returns-clause-control_frames
returns-clause-control_frames c = λ wrote most d i. by_control_frames (HoldsWritten wrote) (holds_kept wrote) most d i
