use Rattle.quic_assembler.proofs.Arrived.History.{once, counted}
use Rattle.quic_assembler.proofs.laws.no_offset_is_given_twice.Goals as goal

pub returns-clause-once : goal.returns-clause-once
returns-clause-once c = once

pub returns-clause-counted : goal.returns-clause-counted
returns-clause-counted c = counted
