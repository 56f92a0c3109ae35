use Rattle.std.proofs.Common.{◌≡◌, Some, rules, ap}
use Rattle.quic_streams_parts.specs.Table.{at, put}
use Rattle.quic_streams_parts.specs.RecvHalf.{RecvHalf, credit}
use Rattle.quic_streams_halves.proofs.Totals.{kept_counted}
use Rattle.quic_streams_halves.proofs.recv_halves.RecvHalves.begin.Goals as goal

pub invariant_of-self-2 : goal.invariant_of-self-2
invariant_of-self-2 c =
    let es = c.self.inside.live in
    let h = c.in-Some.half.now in
    let w = c.begin.new.self in
    let found : at es c.args.id ≡ Some h = search rules in
    let told = ap (λ k. put c.self.inside.live k c.begin.new.self) c.from.ensures in
    kept_counted es _ c.args.id c.self.inside.seen c.self.inside.consumed h w c.self.invariant found told (ap (λ (k : RecvHalf). k.seen) c.begin.ensures.new) (ap credit c.begin.ensures.new)
