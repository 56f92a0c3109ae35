use Rattle.std.proofs.Common.{◌∙◌, ap, sym, arith}
use Rattle.quic_streams_parts.specs.Queue.{parted}
use Rattle.quic_streams_parts.proofs.Parted.{insert_usual, insert_low, insert_high, parted_insert_low, parted_insert_high}
use Rattle.quic_streams_parts.proofs.by_place.ByPlace.put.Goals as goal

pub invariant_of-self-then-rank-self-2 : goal.invariant_of-self-then-rank-self-2
invariant_of-self-then-rank-self-2 c =
    let q = c.self.inside in
    rw c.in_ok-insert-2.ensures.entries (parted_insert_low q.low.entries q.rank q.usual q.high.entries c.self.invariant c.args.place c.args.id (omega arith))

pub invariant_of-self-else-rank-self-2 : goal.invariant_of-self-else-rank-self-2
invariant_of-self-else-rank-self-2 c =
    let q = c.self.inside in
    rw c.in_ok-insert-3.ensures.entries (parted_insert_high q.low.entries q.rank q.usual q.high.entries c.self.invariant c.args.place c.args.id (omega arith))

pub returns-in_ok-insert-clause-ok : goal.returns-in_ok-insert-clause-ok
returns-in_ok-insert-clause-ok c =
    let q = c.self.inside in
    rw (← c.self.view_is)
    (ap (λ t. parted q.low.entries q.rank t q.high.entries) c.in_ok-insert.ensures.ok
    ∙ sym (insert_usual q.low.entries q.rank q.usual q.high.entries c.self.invariant c.args.place c.args.id (omega arith)))

pub returns-in_ok-insert-2-clause-ok : goal.returns-in_ok-insert-2-clause-ok
returns-in_ok-insert-2-clause-ok c =
    let q = c.self.inside in
    rw (← c.self.view_is)
    (ap (λ es. parted es q.rank q.usual q.high.entries) c.in_ok-insert-2.ensures.entries
    ∙ sym (insert_low q.low.entries q.rank q.usual q.high.entries c.self.invariant c.args.place c.args.id (omega arith)))

pub returns-in_ok-insert-3-clause-ok : goal.returns-in_ok-insert-3-clause-ok
returns-in_ok-insert-3-clause-ok c =
    let q = c.self.inside in
    rw (← c.self.view_is)
    (ap (λ es. parted q.low.entries q.rank q.usual es) c.in_ok-insert-3.ensures.entries
    ∙ sym (insert_high q.low.entries q.rank q.usual q.high.entries c.self.invariant c.args.place c.args.id (omega arith)))
