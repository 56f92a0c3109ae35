use Rattle.quic_send_buffer.proofs.Buffered.Writes.{last_writes, last_bytes, whole_pieces, dropped_acked, first_needed}
use Rattle.quic_send_buffer.proofs.laws.send_buffer.whole_writes_are_kept.Goals as goal

pub returns-clause-pieces : goal.returns-clause-pieces
returns-clause-pieces c = λ calls s. last_writes calls

pub returns-clause-bytes : goal.returns-clause-bytes
returns-clause-bytes c = last_bytes

pub returns-clause-count : goal.returns-clause-count
returns-clause-count c = whole_pieces

pub returns-clause-acknowledged : goal.returns-clause-acknowledged
returns-clause-acknowledged c = dropped_acked

pub returns-clause-needed : goal.returns-clause-needed
returns-clause-needed c = first_needed
