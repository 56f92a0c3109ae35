use Rattle.quic_send_buffer.proofs.Buffered.Frames.{range_byte, range_count}
use Rattle.quic_send_buffer.proofs.laws.send_buffer.ranges_have_kept_bytes.Goals as goal

pub returns-clause-bytes : goal.returns-clause-bytes
returns-clause-bytes c = range_byte

pub returns-clause-count : goal.returns-clause-count
returns-clause-count c = range_count
