use Rattle.quic_assembler.proofs.Calls.OneStep.{one_chunk, one_read, one_left}
use Rattle.quic_assembler.proofs.laws.reads_are_one.Goals as goal

pub returns-clause-chunk : goal.returns-clause-chunk
returns-clause-chunk c = one_chunk

pub returns-clause-given : goal.returns-clause-given
returns-clause-given c = one_read

pub returns-clause-left : goal.returns-clause-left
returns-clause-left c = one_left
