use Rattle.std.proofs.Common.{length, rules, ap, arith}
use Rattle.quic_streams_parts.specs.Table.{put}
use Rattle.quic_streams_parts.specs.SendHalf.{SendHalf}
use Rattle.quic_streams_halves.proofs.Sums.{put_sum}
use Rattle.quic_streams_halves.proofs.send_halves.SendHalves.set_said_limit.Goals as goal

pub invariant_of-self-2 : goal.invariant_of-self-2
invariant_of-self-2 c =
    let told = ap (λ k. put c.self.inside.live k c.set_said_limit.new.self) c.from.ensures in
    let kept = ap (λ (h : SendHalf). length h.buffer.kept) c.set_said_limit.ensures in
    put_sum (λ (h : SendHalf). length h.buffer.kept) c.self.inside.live _ c.args.id c.in-Some.half.now c.set_said_limit.new.self c.self.inside.buffered _ c.self.invariant (search rules) told (omega arith)
