use Rattle.std.proofs.Common.{refl, lit<}
use Rattle.quic_assembler.proofs.assembler.parts.Parts.clear.Goals as goal

pub invariant_of-self : goal.invariant_of-self
invariant_of-self c = record {
  apart = rw c.clear.ensures (lit< tt);
  counted = rw c.clear.ensures refl;
  bytes = rw c.clear.ensures refl;
}
