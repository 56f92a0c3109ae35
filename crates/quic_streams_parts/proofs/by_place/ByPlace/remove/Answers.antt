use Rattle.std.proofs.Common.{◌∙◌, ap, sym, arith}
use Rattle.quic_streams_parts.specs.Queue.{parted}
use Rattle.quic_streams_parts.proofs.Parted.{remove_usual, remove_low, remove_high, parted_remove_low, parted_remove_high}
use Rattle.quic_streams_parts.proofs.by_place.ByPlace.remove.Goals as goal

pub invariant_of-self-then-rank-self-2 : goal.invariant_of-self-then-rank-self-2
invariant_of-self-then-rank-self-2 c =
    let q = c.self.inside in
    rw c.remove-then-rank-self-2.ensures.entries (parted_remove_low q.low.entries q.rank q.usual q.high.entries c.self.invariant _)

pub invariant_of-self-else-rank-self-2 : goal.invariant_of-self-else-rank-self-2
invariant_of-self-else-rank-self-2 c =
    let q = c.self.inside in
    rw c.remove-else-rank-self-2.ensures.entries (parted_remove_high q.low.entries q.rank q.usual q.high.entries c.self.invariant _)

pub returns-then-rank-self : goal.returns-then-rank-self
returns-then-rank-self c =
    let q = c.self.inside in
    rw (← c.self.view_is)
    (ap (λ t. parted q.low.entries q.rank t q.high.entries) c.remove.ensures.left
    ∙ sym (remove_usual q.low.entries q.rank q.usual q.high.entries c.self.invariant c.args.place (omega arith)))

pub returns-then-rank-self-2 : goal.returns-then-rank-self-2
returns-then-rank-self-2 c =
    let q = c.self.inside in
    rw (← c.self.view_is)
    (ap (λ es. parted es q.rank q.usual q.high.entries) c.remove-then-rank-self-2.ensures.entries
    ∙ sym (remove_low q.low.entries q.rank q.usual q.high.entries c.self.invariant c.args.place (omega arith)))

pub returns-else-rank-self-2 : goal.returns-else-rank-self-2
returns-else-rank-self-2 c =
    let q = c.self.inside in
    rw (← c.self.view_is)
    (ap (λ es. parted q.low.entries q.rank q.usual es) c.remove-else-rank-self-2.ensures.entries
    ∙ sym (remove_high q.low.entries q.rank q.usual q.high.entries c.self.invariant c.args.place (omega arith)))
