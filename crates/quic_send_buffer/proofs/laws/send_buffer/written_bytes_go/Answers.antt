use Rattle.quic_send_buffer.proofs.Buffered.History.{goes_written, goes_kept, kept_is}
use Rattle.quic_send_buffer.proofs.laws.send_buffer.written_bytes_go.Goals as goal

pub returns-clause-written : goal.returns-clause-written
returns-clause-written c = goes_written

pub returns-clause-bytes : goal.returns-clause-bytes
returns-clause-bytes c = goes_kept

pub returns-clause-kept : goal.returns-clause-kept
returns-clause-kept c = kept_is
