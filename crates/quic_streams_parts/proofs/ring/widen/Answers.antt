use Rattle.std.proofs.Common.{◌∙◌, ap, length, length-append, arith}
use Rattle.quic_streams_parts.specs.Slots.{numbered}
use Rattle.quic_streams_parts.proofs.Slotted.{numbered_widen}
use Rattle.quic_streams_parts.proofs.ring.widen.Goals as goal

pub loop-slots-preserved : goal.loop-slots-preserved
loop-slots-preserved g c =
    let long = simp length-append at (ap length c.push_back_reserved.ensures.items) in
    let len = c.loop-slots.slots.ok.0 in
    let i = c.loop-slots.invariant in
    record {
      held = λ n. ap (numbered n) c.push_back_reserved.ensures.items ∙ numbered_widen n c.loop-slots.slots.items ∙ i.held n;
      most = omega arith;
      least = omega arith;
      room = omega arith;
    }
