use Rattle.quic_assembler.proofs.Arrived.Lawful.{read_given, read_leaves, read_counted, read_lawful}
use Rattle.quic_assembler.proofs.laws.each_offset_is_given_once.Goals as goal

pub returns-clause-given : goal.returns-clause-given
returns-clause-given c = read_given

pub returns-clause-leaves : goal.returns-clause-leaves
returns-clause-leaves c = read_leaves

pub returns-clause-counted : goal.returns-clause-counted
returns-clause-counted c = read_counted

pub returns-clause-lawful : goal.returns-clause-lawful
returns-clause-lawful c = read_lawful
