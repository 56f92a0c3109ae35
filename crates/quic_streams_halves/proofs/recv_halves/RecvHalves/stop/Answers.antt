use Rattle.std.proofs.Common.{◌≡◌, ◌≤◌, Some, rules, ap, arith}
use Rattle.quic_streams_parts.specs.Table.{at, put}
use Rattle.quic_streams_parts.specs.RecvHalf.{RecvHalf, credit}
use Rattle.quic_streams_halves.proofs.Totals.{put_counted, put_fits, seen_term, consumed_term}
use Rattle.quic_streams_halves.proofs.recv_halves.RecvHalves.stop.Goals as goal

pub with_term-self-inside-requires-clause-fits : goal.with_term-self-inside-requires-clause-fits
with_term-self-inside-requires-clause-fits c =
    let es = c.self.inside.live in
    let h = c.in-Some.half.now in
    let w = c.stop.new.self in
    let found : at es c.args.id ≡ Some h = search rules in
    let same : w.seen ≡ h.seen = ap (λ (k : RecvHalf). k.seen) c.stop.ensures in
    let consumed = c.credit-consumed.ensures.value in
    let now = c.credit.ensures.value in
    let within : credit w ≤ w.seen = omega (arith, c.credit.ensures.within) in
    let term = seen_term es c.args.id c.self.inside.seen c.self.inside.consumed h c.self.invariant found in
    let fits = put_fits es c.args.id c.self.inside.seen c.self.inside.consumed h w c.self.invariant found within in
    omega arith

pub invariant_of-self-2 : goal.invariant_of-self-2
invariant_of-self-2 c =
    let es = c.self.inside.live in
    let h = c.in-Some.half.now in
    let w = c.stop.new.self in
    let found : at es c.args.id ≡ Some h = search rules in
    let same : w.seen ≡ h.seen = ap (λ (k : RecvHalf). k.seen) c.stop.ensures in
    let consumed = c.credit-consumed.ensures.value in
    let now = c.credit.ensures.value in
    let within : credit w ≤ w.seen = omega (arith, c.credit.ensures.within) in
    let term = seen_term es c.args.id c.self.inside.seen c.self.inside.consumed h c.self.invariant found in
    let told = ap (λ k. put c.self.inside.live k c.stop.new.self) c.from.ensures in
    let c2 = c.with_term-self-inside.ensures in
    put_counted es _ c.args.id c.self.inside.seen c.self.inside.consumed c.self.inside.seen _ h w c.self.invariant found told within (omega arith) (omega arith)

pub with_term-self-inside-requires-clause-within : goal.with_term-self-inside-requires-clause-within
with_term-self-inside-requires-clause-within c =
    let found : at c.self.inside.live c.args.id ≡ Some c.in-Some.half.now = search rules in
    let term = consumed_term c.self.inside.live c.args.id c.self.inside.seen c.self.inside.consumed c.in-Some.half.now c.self.invariant found in
    omega (arith, c.credit-consumed.ensures.value)
