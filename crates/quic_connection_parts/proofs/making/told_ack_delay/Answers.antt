use Rattle.std.proofs.Common.{rules, arith}
use Rattle.quic_connection_parts.proofs.Delays.{delay_small}
use Rattle.quic_connection_parts.proofs.making.told_ack_delay.Goals as goal

pub overflow_mul-into_inner : goal.overflow_mul-into_inner
overflow_mul-into_inner c =
    let small = delay_small c.args.theirs.now c.into_inner.result c.requires (search rules) in
    omega (arith, small)
