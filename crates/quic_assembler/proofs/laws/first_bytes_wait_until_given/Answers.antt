use Rattle.quic_assembler.proofs.Arrived.History.{lawful, waits, given}
use Rattle.quic_assembler.proofs.laws.first_bytes_wait_until_given.Goals as goal

pub returns-clause-lawful : goal.returns-clause-lawful
returns-clause-lawful c = lawful

pub returns-clause-waits : goal.returns-clause-waits
returns-clause-waits c = waits

pub returns-clause-given : goal.returns-clause-given
returns-clause-given c = given
