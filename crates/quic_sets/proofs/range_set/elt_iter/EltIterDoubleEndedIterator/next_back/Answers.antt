use Rattle.std.proofs.Common.{subst}
use Rattle.quic_sets.specs.Elements.{run_elements, AreFilled}
use Rattle.quic_sets.proofs.ElementSteps.{filled_front, filled_last, last_gives}
use Rattle.quic_sets.proofs.range_set.elt_iter.EltIterDoubleEndedIterator.next_back.Goals as goal

pub invariant_of-self-in-Some-next_back : goal.invariant_of-self-in-Some-next_back
invariant_of-self-in-Some-next_back c = filled_front c.next_back.new.self c.in-Some-next_back.run' (subst AreFilled c.in-Some-next_back.ensures.steps c.self.invariant)

pub returns-in-Some-next_back-clause-steps : goal.returns-in-Some-next_back-clause-steps
returns-in-Some-next_back-clause-steps c =
    let lt = filled_last c.next_back.new.self c.in-Some-next_back.run' (subst AreFilled c.in-Some-next_back.ensures.steps c.self.invariant) in
    rw (← c.self.view_is) (last_gives (run_elements c.self.inside.front) c.self.inside.runs c.next_back.new.self c.in-Some-next_back.run' c.take_last-in-Some-next_back.new.run c.self.inside.back c.take_last-in-Some-next_back.result c.in-Some-next_back.ensures.steps c.in_default.ensures.0 lt c.take_last-in-Some-next_back.ensures)
