use Rattle.std.proofs.Common.{◌≡◌, Bool, true, false, length, refl, sym, ◌∙◌, subst, inr}
use Rattle.std.proofs.lemmas.Result.{err_from_is_err_and}
use Rattle.quic_machine.specs.Machine.{World, IsStep, given_by, gave}
use Rattle.quic_connection_parts.specs.Telling.{windows_of}
use Rattle.quic_connection.specs.Ends.{world_of}
use Rattle.quic_connection.specs.GoingOn.{go_then, are_on}
use Rattle.quic_connection.specs.Settled.{IsPassedOn, poll_event}
use Rattle.quic_connection.proofs.settling.poll_once.Goals as goal

pub returns-then-not-gave-clause-polled : goal.returns-then-not-gave-clause-polled
returns-then-not-gave-clause-polled g c = λ k are.
    let none : gave c.in_ok-answer.answer ≡ false = sym c.gave.ensures ∙ c.if-not-gave.true in
    let from : World = world_of (windows_of g.C.Controller.steps g.C.Controller.window_of) c.args.ends.now c.args.given.now in
    let next : World = world_of (windows_of g.C.Controller.steps g.C.Controller.window_of) c.step.new.ends c.step.new.given in
    record {
      are_open = c.requires.opened;
      answer = c.in_ok-answer.answer;
      next = next;
      poll = c.in_ok-answer.ensures.step k are;
      gives = none;
      delivered = subst (λ (b : Bool). IsPassedOn b k c.args.side c.args.now (length (given_by c.args.side from)) next next) (sym none) refl;
    }

pub returns-clause-polled : goal.returns-clause-polled
returns-clause-polled g c = λ k are.
    let windows = windows_of g.C.Controller.steps g.C.Controller.window_of in
    let some : gave c.in_ok-answer.answer ≡ true = sym c.gave.ensures ∙ c.if-not-gave.false in
    let from : World = world_of (windows_of g.C.Controller.steps g.C.Controller.window_of) c.args.ends.now c.args.given.now in
    let next : World = world_of (windows_of g.C.Controller.steps g.C.Controller.window_of) c.step.new.ends c.step.new.given in
    let to : World = world_of (windows_of g.C.Controller.steps g.C.Controller.window_of) c.step-2.new.ends c.step-2.new.given in
    let delivery = rw (c.not-2.ensures, c.peer_address.ensures c.step.new.given, c.not.ensures, c.count_given-index.ensures c.args.ends.now.client.end c.args.ends.now.server.end (windows c.args.ends.now.client.control) (windows c.args.ends.now.server.control) c.args.ends.now.client.heard c.args.ends.now.server.heard) at (c.in_ok-step.ensures.step k (are_on _ _ _ _ _ k _ _ are c.step.ensures.goes_on)) in
    record {
      are_open = c.requires.opened;
      answer = c.in_ok-answer.answer;
      next = next;
      poll = c.in_ok-answer.ensures.step k are;
      gives = some;
      delivered = subst (λ (b : Bool). IsPassedOn b k c.args.side c.args.now (length (given_by c.args.side from)) next to) (sym some) (c.in_ok-step.field-0, delivery);
    }

-- where memory lacks for the delivery, the end was polled
pub returns-in_err-step-clause-cut : goal.returns-in_err-step-clause-cut
returns-in_err-step-clause-cut g c =
    let p = err_from_is_err_and c.from_residual-in_err-step.result c.from_residual-in_err-step.ensures.1 in
    let from : World = world_of (windows_of g.C.Controller.steps g.C.Controller.window_of) c.args.ends.now c.args.given.now in
    rw p.1 (λ k are. inr (record {
      answer = c.in_ok-answer.answer;
      poll = subst (λ (w : World). IsStep k from (poll_event c.args.side c.args.now) c.in_ok-answer.answer w) (sym c.in_err-step.ensures.err_given) (c.in_ok-answer.ensures.step k are);
    }))

pub returns-clause-goes_on : goal.returns-clause-goes_on
returns-clause-goes_on g c = go_then _ _ _ _ c.step.ensures.goes_on c.step-2.ensures.goes_on
