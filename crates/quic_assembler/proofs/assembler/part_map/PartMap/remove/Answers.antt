use Rattle.quic_assembler.proofs.Parts.Rows.{row_next, row_left}
use Rattle.quic_assembler.proofs.assembler.part_map.PartMap.remove.Goals as goal

pub invariant_of-self : goal.invariant_of-self
invariant_of-self c =
    let p = c.pop_first in
    row_next p.result c.self.inside.others.entries p.new.self.entries p.ensures.variant p.ensures.unchanged p.ensures.all_above

pub invariant_of-self-2 : goal.invariant_of-self-2
invariant_of-self-2 c =
    let i = c.self.inside in
    rw c.remove.ensures.entries (row_left i.first _ i.others.entries c.self.invariant)
