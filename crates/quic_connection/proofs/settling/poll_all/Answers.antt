use Rattle.std.proofs.Common.{true, false, inl, arith}
use Rattle.std.specs.Prelude.{◌||◌}
use Rattle.quic_connection.specs.Settled.{asks}
use Rattle.quic_connection.proofs.Talking.{talks_none, talks_on, talks_polled, or_none, or_some, on_err, cut_behind}
use Rattle.quic_connection.specs.GoingOn.{go_same, go_then, are_on}
use Rattle.quic_connection.proofs.settling.poll_all.Goals as goal

pub loop-left-init : goal.loop-left-init
loop-left-init g c = record { talks = λ before k are. rw (or_none before) (talks_none _ _ _ _ _); goes_on = go_same _ _; fewer = omega arith }

pub poll_once-requires-clause-opened : goal.poll_once-requires-clause-opened
poll_once-requires-clause-opened g c = c.are_open.ensures.opened c.if-are_open.true c.loop-left.given

pub returns-in_err-poll_once-clause-cut : goal.returns-in_err-poll_once-clause-cut
returns-in_err-poll_once-clause-cut g c =
    let inv = c.loop-left.invariant in
    on_err c.from_residual.result (λ before k are. cut_behind _ _ _ _ _ _ _ _ _ _ (inv.talks before k are) (c.in_err-poll_once.ensures.cut k (are_on _ _ _ _ _ k _ _ are inv.goes_on)))

pub returns-in_err-poll_once-clause-goes_on : goal.returns-in_err-poll_once-clause-goes_on
returns-in_err-poll_once-clause-goes_on g c = go_then _ _ _ _ c.loop-left.invariant.goes_on c.poll_once.ensures.goes_on

pub returns-then-not-branch-clause-talks : goal.returns-then-not-branch-clause-talks
returns-then-not-branch-clause-talks g c = λ before k are.
    let inv = c.loop-left.invariant in
    let polled = c.in_ok-poll_once.ensures in
    talks_on _ _ _ _ _ _ _ _ _ _ _ _ _ (inv.talks before k are)
    (talks_polled _ _ _ _ _ _ c.args.side (before || c.loop-left.gave) false _ c.if-not-branch.true polled.less (polled.polled k (are_on _ _ _ _ _ k _ _ are inv.goes_on)))

pub returns-then-not-branch-clause-less : goal.returns-then-not-branch-clause-less
returns-then-not-branch-clause-less g c = let one = c.in_ok-poll_once.ensures.less in let fewer = c.loop-left.invariant.fewer in omega arith

pub returns-then-not-branch-clause-goes_on : goal.returns-then-not-branch-clause-goes_on
returns-then-not-branch-clause-goes_on g c = go_then _ _ _ _ c.loop-left.invariant.goes_on c.poll_once.ensures.goes_on

pub loop-left-preserved : goal.loop-left-preserved
loop-left-preserved g c =
    let inv = c.loop-left.invariant in
    let polled = c.in_ok-poll_once.ensures in
    record {
      talks = λ before k are. rw (or_some before) (talks_on _ _ _ _ _ _ _ _ _ _ _ _ _ (inv.talks before k are)
          (talks_polled _ _ _ _ _ _ c.args.side (before || c.loop-left.gave) true _ c.if-not-branch.false polled.less (polled.polled k (are_on _ _ _ _ _ k _ _ are inv.goes_on))));
      goes_on = go_then _ _ _ _ inv.goes_on c.poll_once.ensures.goes_on;
      fewer = let one = polled.less in let fewer = inv.fewer in omega arith;
    }

pub returns-else-are_open-clause-stops : goal.returns-else-are_open-clause-stops
returns-else-are_open-clause-stops g c = λ before k are. record { end = asks c.args.side (before || c.loop-left.gave); talks = c.loop-left.invariant.talks before k are }

pub returns-else-are_open-clause-gave_up : goal.returns-else-are_open-clause-gave_up
returns-else-are_open-clause-gave_up g c = inl (c.are_open.ensures.closed c.if-are_open.false c.loop-left.given)

pub returns-after-loop-left-clause-stops : goal.returns-after-loop-left-clause-stops
returns-after-loop-left-clause-stops g c = λ before k are. record { end = asks c.args.side (before || c.loop-left.gave); talks = c.loop-left.invariant.talks before k are }
