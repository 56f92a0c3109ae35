use Rattle.std.proofs.Common.{◌≡◌, true, false, inl, arith}
use Rattle.quic_connection.specs.Settled.{quiet}
use Rattle.quic_connection.proofs.Talking.{talks_none, talks_on, leads_on, on_err, cut_off_behind}
use Rattle.quic_connection.specs.GoingOn.{go_same, go_then, are_on}
use Rattle.quic_connection.proofs.settling.talk.Goals as goal

pub loop-ends-init : goal.loop-ends-init
loop-ends-init g c = record { talks = λ k are. talks_none _ _ _ _ _; goes_on = go_same _ _; fewer = omega arith }

pub returns-in_err-round-clause-cut : goal.returns-in_err-round-clause-cut
returns-in_err-round-clause-cut g c =
    let inv = c.loop-ends.invariant in
    on_err c.from_residual.result (λ k are. cut_off_behind _ _ _ _ _ _ _ _ _ _ (inv.talks k are) (c.in_err-round.ensures.cut k (are_on _ _ _ _ _ k _ _ are inv.goes_on)))

pub returns-in_err-round-clause-goes_on : goal.returns-in_err-round-clause-goes_on
returns-in_err-round-clause-goes_on g c = go_then _ _ _ _ c.loop-ends.invariant.goes_on c.round.ensures.goes_on

pub returns-in-None-clause-stops : goal.returns-in-None-clause-stops
returns-in-None-clause-stops g c = λ gave_up k are.
    let inv = c.loop-ends.invariant in
    let stops = rw c.in-None.is at c.in_ok-round.ensures.stops in
    leads_on _ _ _ _ _ _ _ _ _ _ _ _ (inv.talks k are) (stops k (are_on _ _ _ _ _ k _ _ are inv.goes_on))

pub returns-in-None-clause-goes_on : goal.returns-in-None-clause-goes_on
returns-in-None-clause-goes_on g c = go_then _ _ _ _ c.loop-ends.invariant.goes_on c.round.ensures.goes_on

pub loop-ends-preserved : goal.loop-ends-preserved
loop-ends-preserved g c =
    let inv = c.loop-ends.invariant in
    let round = rw c.in-Some-true.is at c.in_ok-round.ensures.talks in
    let rounds = rw c.in-Some-true.field-0-test at round in
    record {
      talks = λ k are. talks_on _ _ _ _ _ _ _ _ _ _ _ _ _ (inv.talks k are) (rounds k (are_on _ _ _ _ _ k _ _ are inv.goes_on));
      goes_on = go_then _ _ _ _ inv.goes_on c.round.ensures.goes_on;
      fewer = let one = rw c.in-Some-true.is at c.in_ok-round.ensures.less in let fewer = inv.fewer in omega arith;
    }

pub returns-in-Some-false-clause-talks : goal.returns-in-Some-false-clause-talks
returns-in-Some-false-clause-talks g c = λ ok k are.
    let inv = c.loop-ends.invariant in
    let round = rw c.in-Some-false.is at c.in_ok-round.ensures.talks in
    let rounds = rw c.in-Some-false.field-0-test at round in
    talks_on _ _ _ _ _ _ _ _ _ _ _ _ _ (inv.talks k are) (rounds k (are_on _ _ _ _ _ k _ _ are inv.goes_on))

pub returns-in-Some-false-clause-stops : goal.returns-in-Some-false-clause-stops
returns-in-Some-false-clause-stops g c = λ ok k are.
    let inv = c.loop-ends.invariant in
    let round = rw c.in-Some-false.is at c.in_ok-round.ensures.talks in
    let rounds = rw c.in-Some-false.field-0-test at round in
    record { end = quiet; talks = talks_on _ _ _ _ _ _ _ _ _ _ _ _ _ (inv.talks k are) (rounds k (are_on _ _ _ _ _ k _ _ are inv.goes_on)) }

pub returns-in-Some-false-clause-less : goal.returns-in-Some-false-clause-less
returns-in-Some-false-clause-less g c = λ ok. (let one = rw c.in-Some-false.is at c.in_ok-round.ensures.less in let fewer = c.loop-ends.invariant.fewer in omega arith)

pub returns-in-Some-false-clause-goes_on : goal.returns-in-Some-false-clause-goes_on
returns-in-Some-false-clause-goes_on g c = go_then _ _ _ _ c.loop-ends.invariant.goes_on c.round.ensures.goes_on

pub returns-in-Some-false-clause-opened : goal.returns-in-Some-false-clause-opened
returns-in-Some-false-clause-opened g c = λ ok.
    let opened : c.are_open.result ≡ true = cc in
    c.are_open.ensures.opened opened c.round.new.given

pub returns-in-Some-false-clause-gave_up : goal.returns-in-Some-false-clause-gave_up
returns-in-Some-false-clause-gave_up g c = λ ok.
    let closed : c.are_open.result ≡ false = cc in
    inl (c.are_open.ensures.closed closed c.round.new.given)
