use Rattle.std.proofs.Common.{◌∙◌, sym}
use Rattle.quic_assembler.proofs.Parts.Joining.{joined_apart, joined_runs}
use Rattle.quic_assembler.proofs.Arrived.WaitingBytes.{joined_bytes}
use Rattle.quic_assembler.proofs.assembler.parts.Parts.join.Goals as goal

pub invariant_of-self : goal.invariant_of-self
invariant_of-self c =
    let i = c.self.invariant in
    let e = c.in_ok-self-inside.ensures in
    record {
      apart = rw e (joined_apart 0 c.self.inside.map i.apart);
      counted = rw e (i.counted ∙ sym (joined_runs 0 c.self.inside.map i.apart));
      bytes = rw e (i.bytes ∙ sym (joined_bytes c.self.inside.map));
    }
