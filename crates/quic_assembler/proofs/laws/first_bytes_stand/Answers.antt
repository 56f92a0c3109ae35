use Rattle.quic_assembler.proofs.Arrived.Lawful.{insert_bytes, insert_lawful}
use Rattle.quic_assembler.proofs.laws.first_bytes_stand.Goals as goal

pub returns-clause-bytes : goal.returns-clause-bytes
returns-clause-bytes c = insert_bytes

pub returns-clause-lawful : goal.returns-clause-lawful
returns-clause-lawful c = insert_lawful
