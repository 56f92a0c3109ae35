use Rattle.quic_assembler.proofs.Arrived.History.{given_first, given_came, all_came}
use Rattle.quic_assembler.proofs.laws.given_bytes_came.Goals as goal

pub returns-clause-first : goal.returns-clause-first
returns-clause-first c = given_first

pub returns-clause-came : goal.returns-clause-came
returns-clause-came c = given_came

pub returns-clause-all : goal.returns-clause-all
returns-clause-all c = all_came
