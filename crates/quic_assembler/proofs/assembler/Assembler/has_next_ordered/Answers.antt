use Rattle.std.proofs.Common.{◌∙◌}
use Rattle.quic_assembler.proofs.Arrived.Bytes.{next_waits}
use Rattle.quic_assembler.proofs.assembler.Assembler.has_next_ordered.Goals as goal

pub returns-clause-byte : goal.returns-clause-byte
returns-clause-byte c = rw (← c.self.view_is) (c.starts_at.ensures ∙ next_waits c.self.inside.read c.self.inside.parts c.self.invariant.lawful.apart)
