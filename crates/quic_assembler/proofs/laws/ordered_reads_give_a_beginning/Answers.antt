use Rattle.quic_assembler.proofs.Arrived.Lawful.{ordered_given, ordered_counted}
use Rattle.quic_assembler.proofs.laws.ordered_reads_give_a_beginning.Goals as goal

pub returns-clause-given : goal.returns-clause-given
returns-clause-given c = ordered_given

pub returns-clause-counted : goal.returns-clause-counted
returns-clause-counted c = ordered_counted
