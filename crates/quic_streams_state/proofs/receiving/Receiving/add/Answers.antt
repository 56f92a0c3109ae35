use Rattle.std.proofs.Common.{ap, arith}
use Rattle.quic_streams_state.specs.Parts.{Receiving, seen}
use Rattle.quic_streams_state.proofs.receiving.Receiving.add.Goals as goal

pub invariant_of-self-2 : goal.invariant_of-self-2
invariant_of-self-2 c =
    let all = ap seen c.self.view_is in
    let room = c.requires.room in
    let sum = c.in_ok-add.ensures.sum in
    record { limits = c.self.invariant.limits; seen = omega arith }
