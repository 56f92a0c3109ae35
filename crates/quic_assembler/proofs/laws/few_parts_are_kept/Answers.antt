use Rattle.quic_assembler.proofs.Arrived.Lawful.{few_parts, few_stay}
use Rattle.quic_assembler.proofs.laws.few_parts_are_kept.Goals as goal

pub returns-clause-most : goal.returns-clause-most
returns-clause-most c = few_parts

pub returns-clause-apart : goal.returns-clause-apart
returns-clause-apart c = few_stay
