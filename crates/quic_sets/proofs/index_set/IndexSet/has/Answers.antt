use Rattle.std.proofs.Common.{arith}
use Rattle.quic_sets.proofs.Offsets.Latest.{has_latest, has_others}
use Rattle.quic_sets.proofs.index_set.IndexSet.has.Goals as goal

pub returns-then-index-self : goal.returns-then-index-self
returns-then-index-self c =
    let s = c.self.inside in
    rw (← c.self.view_is) (has_others s.start s.end s.others c.self.invariant.runs c.args.index c.has.result c.has.ensures (λ le. absurd (omega (arith, le, c.if-index-self.true))))

pub returns-then-index-self-2 : goal.returns-then-index-self-2
returns-then-index-self-2 c =
    let s = c.self.inside in
    rw (← c.self.view_is) (has_latest s.start s.end s.others c.self.invariant.runs c.args.index (omega arith) (omega arith))

pub returns : goal.returns
returns c =
    let s = c.self.inside in
    rw (← c.self.view_is) (has_others s.start s.end s.others c.self.invariant.runs c.args.index c.has-2.result c.has-2.ensures (λ le. omega arith))
