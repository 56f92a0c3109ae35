use Rattle.std.proofs.Common.{ap, arith}
use Rattle.quic_streams_parts.specs.RecvHalf.{RecvHalf}
use Rattle.quic_streams_parts.proofs.Within.{read_within}
use Rattle.quic_streams_parts.proofs.recv.Recv.credit.Goals as goal

pub returns-else-is_some-clause-within : goal.returns-else-is_some-clause-within
returns-else-is_some-clause-within c =
    let within = read_within c.self.inside.assembler c.self.inside.end c.self.invariant.lawful c.self.invariant.below in
    let seen = ap (λ (h : RecvHalf). h.seen) c.self.view_is in
    omega (arith, c.bytes_read.ensures.value)
