use Rattle.std.proofs.Common.{arith}
use Rattle.quic_assembler.proofs.Calls.Kept.{total_small}
use Rattle.quic_assembler.proofs.assembler.Assembler.bytes_read.Goals as goal

pub returns-clause-small : goal.returns-clause-small
returns-clause-small c =
    let i = c.self.inside in
    let k = total_small i.read i.unordered i.picked.entries i.parts c.self.invariant.lawful in
    let t = c.self.invariant.total in
    omega arith
