use Rattle.std.proofs.Common.{◌≡◌, ◌≤◌, true, Ok, refl, sym, ◌∙◌, arith}
use Rattle.std.proofs.lemmas.Result.{err_from_is_err_and}
use Rattle.quic_connection.proofs.Talking.{talks_none, talks_on, leads_on, waited_on, still, at_rest, half_waited, cut_behind, cut_off_behind, settled_rest, settled_none, settled_err}
use Rattle.quic_connection.specs.GoingOn.{go_same, go_then, are_on}
use Rattle.quic_connection.proofs.settling.settle.Goals as goal

pub loop-ends-init : goal.loop-ends-init
loop-ends-init g c = record { talks = λ k are. talks_none _ _ _ _ _; goes_on = go_same _ _; later = omega arith }

pub returns-in_err-talk-clause-settles : goal.returns-in_err-talk-clause-settles
returns-in_err-talk-clause-settles g c = λ k are.
    let inv = c.loop-ends.invariant in
    let own = are_on _ _ _ _ _ k _ _ are inv.goes_on in
    let p = err_from_is_err_and c.from_residual.result c.from_residual.ensures.1 in
    settled_err _ _ _ _ _ _ p.1 (cut_off_behind _ _ _ _ _ _ _ _ _ _ (inv.talks k are) (c.in_err-talk.ensures.cut _ own))

pub returns-in_err-talk-clause-goes_on : goal.returns-in_err-talk-clause-goes_on
returns-in_err-talk-clause-goes_on g c = go_then _ _ _ _ c.loop-ends.invariant.goes_on c.talk.ensures.goes_on

pub returns-then-not-branch-clause-settles : goal.returns-then-not-branch-clause-settles
returns-then-not-branch-clause-settles g c = λ k are.
    let inv = c.loop-ends.invariant in
    let own = are_on _ _ _ _ _ k _ _ are inv.goes_on in
    settled_none _ _ _ _ _ _ (leads_on _ _ _ _ _ _ _ _ _ _ _ _ (inv.talks k are) (c.in_ok-talk.ensures.stops (rw c.if-not-branch.true refl) _ own))
    (c.in_ok-talk.ensures.gave_up (rw c.if-not-branch.true refl))

pub returns-then-not-branch-clause-goes_on : goal.returns-then-not-branch-clause-goes_on
returns-then-not-branch-clause-goes_on g c = go_then _ _ _ _ c.loop-ends.invariant.goes_on c.talk.ensures.goes_on

pub returns-in_default-clause-settles : goal.returns-in_default-clause-settles
returns-in_default-clause-settles g c = λ k are.
    let inv = c.loop-ends.invariant in
    let own = are_on _ _ _ _ _ k _ _ are inv.goes_on in
    let done : Ok c.in_ok-talk.field-0 ≡ Ok true = rw c.if-not-branch.false refl in
    settled_rest _ _ _ _ _ _ (talks_on _ _ _ _ _ _ _ _ _ _ _ _ _ (inv.talks k are) (c.in_ok-talk.ensures.talks done _ own))
    (still _ (c.in_ok-talk.ensures.opened done) (sym (c.wakes.ensures c.talk.new.given) ∙ c.in_default.is))

pub returns-in_default-clause-goes_on : goal.returns-in_default-clause-goes_on
returns-in_default-clause-goes_on g c = go_then _ _ _ _ c.loop-ends.invariant.goes_on c.talk.ensures.goes_on

pub returns-in_default-clause-rest : goal.returns-in_default-clause-rest
returns-in_default-clause-rest g c = λ k are.
    let inv = c.loop-ends.invariant in
    let own = are_on _ _ _ _ _ k _ _ are inv.goes_on in
    let done : Ok c.in_ok-talk.field-0 ≡ Ok true = rw c.if-not-branch.false refl in
    at_rest _ _ _ _ _ _ _ (talks_on _ _ _ _ _ _ _ _ _ _ _ _ _ (inv.talks k are) (c.in_ok-talk.ensures.talks done _ own))
    (still _ (c.in_ok-talk.ensures.opened done) (sym (c.wakes.ensures c.talk.new.given) ∙ c.in_default.is))

pub returns-in_err-time_out-clause-settles : goal.returns-in_err-time_out-clause-settles
returns-in_err-time_out-clause-settles g c = λ k are.
    let inv = c.loop-ends.invariant in
    let own = are_on _ _ _ _ _ k _ _ are inv.goes_on in
    let p = err_from_is_err_and c.from_residual-in_err-time_out.result c.from_residual-in_err-time_out.ensures.1 in
    let done : Ok c.in_ok-talk.field-0 ≡ Ok true = rw c.if-not-branch.false refl in
    let talked = talks_on _ _ _ _ _ _ _ _ _ _ _ _ _ (inv.talks k are) (c.in_ok-talk.ensures.talks done _ own) in
    let cut = half_waited _ _ _ _ _ _ (sym (c.wakes.ensures c.talk.new.given) ∙ c.in-Some.is) c.later-moment.ensures (c.in_err-time_out.ensures.cut _ (are_on _ _ _ _ _ _ _ _ own c.talk.ensures.goes_on)) in
    settled_err _ _ _ _ _ _ p.1 (cut_behind _ _ _ _ _ _ _ _ _ _ talked cut)

pub returns-in_err-time_out-clause-goes_on : goal.returns-in_err-time_out-clause-goes_on
returns-in_err-time_out-clause-goes_on g c = go_then _ _ _ _ (go_then _ _ _ _ c.loop-ends.invariant.goes_on c.talk.ensures.goes_on) c.time_out.ensures.goes_on

pub loop-ends-preserved : goal.loop-ends-preserved
loop-ends-preserved g c =
    let inv = c.loop-ends.invariant in
    let later : c.args.now ≤ c.later-moment.result = omega arith in
    let done : Ok c.in_ok-talk.field-0 ≡ Ok true = rw c.if-not-branch.false refl in
    record {
      talks = λ k are. waited_on _ _ _ _ _ _ _ _ _ _ _ (talks_on _ _ _ _ _ _ _ _ _ _ _ _ _ (inv.talks k are) (c.in_ok-talk.ensures.talks done k (are_on _ _ _ _ _ k _ _ are inv.goes_on))) (c.in_ok-talk.ensures.opened done) (sym (c.wakes.ensures c.talk.new.given) ∙ c.in-Some.is) c.later-moment.ensures
          (c.in_ok-time_out.ensures.handled k (are_on _ _ _ _ _ k _ _ (are_on _ _ _ _ _ k _ _ are inv.goes_on) c.talk.ensures.goes_on));
      goes_on = go_then _ _ _ _ (go_then _ _ _ _ inv.goes_on c.talk.ensures.goes_on) c.time_out.ensures.goes_on;
      later = later;
    }
