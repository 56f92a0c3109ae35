use Rattle.std.proofs.Common.{◌≤◌, length, ◌∙◌, arith}
use Rattle.quic_run_core.proofs.Showing.{expected_at, shown-at}
use Rattle.quic_run_core.proofs.show.put_datagram.Goals as goal

pub returns-clause-text : goal.returns-clause-text
returns-clause-text c =
    let numbers = c.learn.new.numbers in
    let learnt : c.args.index ≤ length numbers.items = omega (arith, numbers.ok.0, c.in_ok-learn.ensures.learnt) in
    let expected = (rw c.deref.ensures.value at c.expected_behind-expected.ensures.value) ∙ expected_at c.args.side c.args.given.now numbers.items c.args.index c.in_ok-learn.ensures.known learnt in
    let at = c.in-Some.ensures.lookup in
    rw (shown-at c.args.side c.args.given.now c.args.index c.in-Some.datagram.now c.expected_behind-expected.result at.3.0 at.1 expected, ← c.in_ok-shown.ensures) c.put_shown.ensures
