use Rattle.std.proofs.Common.{◌<◌, length, sym, refl}
use Rattle.std.proofs.lemmas.Bool.{ltb-true}
use Rattle.quic_sets.proofs.PieceSteps.{next_piece}
use Rattle.quic_sets.proofs.range_set.replace.ReplaceIterator.next.Goals as goal

pub returns-clause-steps : goal.returns-clause-steps
returns-clause-steps c =
    let found = rw c.as_slice.ensures.value at c.in_ok-run.ensures.lookup in
    let within : c.args.self.now.at < length c.args.self.now.set.now = ltb-true _ _ (sym found.0) in
    rw (c.max.ensures, c.min.ensures) (next_piece c.args.self.now.range.start c.args.self.now.range.end c.args.self.now.at c.args.self.now.set.now c.in_ok-run.run'.now _ within found.1 c.if-self-run.false, (refl, refl))
