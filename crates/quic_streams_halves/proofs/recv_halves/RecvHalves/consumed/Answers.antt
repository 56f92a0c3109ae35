use Rattle.std.proofs.Common.{ap, arith}
use Rattle.quic_streams_parts.specs.RecvHalf.{RecvHalf}
use Rattle.quic_streams_halves.specs.Halves.{Halves, seen_in}
use Rattle.quic_streams_halves.proofs.Totals.{consumed_within}
use Rattle.quic_streams_halves.proofs.recv_halves.RecvHalves.consumed.Goals as goal

pub returns-clause-within : goal.returns-clause-within
returns-clause-within c =
    let all = ap (λ (h : Halves RecvHalf). seen_in h.live) c.self.view_is in
    let sum = c.self.invariant.seen in
    let within = consumed_within c.self.inside.live c.self.inside.seen c.self.inside.consumed c.self.invariant in
    omega arith
