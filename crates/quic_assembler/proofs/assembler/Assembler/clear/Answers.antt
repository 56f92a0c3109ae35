use Rattle.std.proofs.Common.{List, refl, subst}
use Rattle.quic_sets.specs.Runs.{Run, Has}
use Rattle.quic_assembler.proofs.Parts.Filled.{low_small}
use Rattle.quic_assembler.proofs.assembler.Assembler.clear.Goals as goal

pub invariant_of-self : goal.invariant_of-self
invariant_of-self c =
    let h = c.self.invariant.lawful in
    record {
      lawful = rw c.clear.ensures (record { apart = low_small c.self.inside.read c.self.inside.parts h.apart; spans = h.spans; others = λ o e. refl; order = h.order });
      known = λ o i. absurd (subst (λ (s : List Run). Has s o) c.clear-2.ensures i);
      total = c.self.invariant.total;
    }

pub returns-clause-lawful : goal.returns-clause-lawful
returns-clause-lawful c =
    let h = c.self.invariant.lawful in
    rw c.clear.ensures (record { apart = low_small c.self.inside.read c.self.inside.parts h.apart; spans = h.spans; others = λ o e. refl; order = h.order })
