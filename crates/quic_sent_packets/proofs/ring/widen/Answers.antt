use Rattle.std.proofs.Common.{◌∙◌, ap, length, length-append, arith}
use Rattle.quic_sent_packets.specs.Places.{numbered}
use Rattle.quic_sent_packets.proofs.Numbered.{numbered_widen}
use Rattle.quic_sent_packets.proofs.ring.widen.Goals as goal

pub loop-places-preserved : goal.loop-places-preserved
loop-places-preserved c =
    let long = simp length-append at (ap length c.push_back_reserved.ensures.items) in
    let len = c.loop-places.places.ok.0 in
    let i = c.loop-places.invariant in
    record {
      held = λ n. ap (numbered n) c.push_back_reserved.ensures.items ∙ numbered_widen n c.loop-places.places.items ∙ i.held n;
      most = omega arith;
      least = omega arith;
      room = omega arith;
    }
