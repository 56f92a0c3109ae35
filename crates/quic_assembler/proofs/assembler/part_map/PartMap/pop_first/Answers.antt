use Rattle.quic_assembler.proofs.Parts.Rows.{row_next}
use Rattle.quic_assembler.proofs.assembler.part_map.PartMap.pop_first.Goals as goal

pub invariant_of-self : goal.invariant_of-self
invariant_of-self c =
    let p = c.pop_first-next in
    rw c.replace.ensures.after (row_next p.result c.self.inside.others.entries p.new.self.entries p.ensures.variant p.ensures.unchanged p.ensures.all_above)
