use Rattle.quic_sets.proofs.RunEdits.{split_is}
use Rattle.quic_sets.proofs.range_set.apply.Goals as goal

pub returns-in_ok-insert-in-Split-clause-ok : goal.returns-in_ok-insert-in-Split-clause-ok
returns-in_ok-insert-in-Split-clause-ok c =
    let places = rw c.in-Split.is at c.requires in
    rw (c.in-Split.is, c.in_ok-insert-in-Split.ensures.items) (split_is c.args.runs.now.items c.in-Split.places.start c.in-Split.places.end c.in-Split.left c.in-Split.right places.0 places.1)
