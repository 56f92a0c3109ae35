use Rattle.quic_streams_laws.specs.KeepingLaws.{by_stream, by_reset_frame, by_max_data, by_max_streams, by_reset_acked}
use Rattle.quic_streams_laws.specs.Written.{HoldsWritten}
use Rattle.quic_streams_laws.specs.WrittenLaws.{holds_kept, holds_stop_sending, holds_max_stream_data, holds_stream_acked, holds_stream_lost}
use Rattle.quic_streams_laws.proofs.laws.sends.frames_leave_what_was_written.Goals as goal

pub returns-clause-stream : goal.returns-clause-stream
returns-clause-stream c = λ wrote s p f i. by_stream (HoldsWritten wrote) (holds_kept wrote) s p f (λ h e u. tt) i

pub returns-clause-reset_stream : goal.returns-clause-reset_stream
returns-clause-reset_stream c = λ wrote s p f i. by_reset_frame (HoldsWritten wrote) (holds_kept wrote) s p f (λ h e u. tt) i

pub returns-clause-stop_sending : goal.returns-clause-stop_sending
returns-clause-stop_sending c = λ wrote s f i. holds_stop_sending wrote s i f

pub returns-clause-max_data : goal.returns-clause-max_data
returns-clause-max_data c = λ wrote s limit i. by_max_data (HoldsWritten wrote) (holds_kept wrote) s limit i

pub returns-clause-max_stream_data : goal.returns-clause-max_stream_data
returns-clause-max_stream_data c = λ wrote s id limit small i. holds_max_stream_data wrote s i id limit small

pub returns-clause-max_streams : goal.returns-clause-max_streams
returns-clause-max_streams c = λ wrote s dir count i. by_max_streams (HoldsWritten wrote) (holds_kept wrote) dir count s i

pub returns-clause-acked : goal.returns-clause-acked
returns-clause-acked c = λ wrote s p m last i. holds_stream_acked wrote s i p m last

pub returns-clause-lost : goal.returns-clause-lost
returns-clause-lost c = λ wrote s m last i. holds_stream_lost wrote s i m last

pub returns-clause-reset_acked : goal.returns-clause-reset_acked
returns-clause-reset_acked c = λ wrote s p id i. by_reset_acked (HoldsWritten wrote) (holds_kept wrote) s p id i
