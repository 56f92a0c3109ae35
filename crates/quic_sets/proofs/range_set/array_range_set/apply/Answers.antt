use Rattle.quic_sets.proofs.RunEdits.{split_refills}
use Rattle.quic_sets.proofs.range_set.array_range_set.apply.Goals as goal

pub returns-in_ok-insert-in-Split-clause-ok : goal.returns-in_ok-insert-in-Split-clause-ok
returns-in_ok-insert-in-Split-clause-ok c =
    let places = rw c.in-Split.is at c.requires in
    rw (c.in-Split.is, c.deref_mut.ensures.value, c.in_ok-insert-in-Split.ensures.ok) (split_refills c.args.runs.now.items c.in-Split.places.start c.in-Split.places.end c.in-Split.left c.in-Split.right places.0 places.1)
