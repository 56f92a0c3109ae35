-- Each call goes on from what those before it left.
use Rattle.std.proofs.Common.{rules, ◌≡◌, ℕ, length, Some, arith, refl, sym, ap, ◌∙◌, List, ◌++◌}
use Rattle.std.specs.Prelude.{slice_get}
use Rattle.std.proofs.lemmas.Option.{slice_get_read}
use Rattle.std.proofs.lemmas.Grind.{common_steps}
use Rattle.quic_machine.specs.Policy.{Policy}
use Rattle.quic_machine.specs.End.{policy_of}
use Rattle.quic_headline.specs.Alone.{Lone, IsLoneStep}
use Rattle.quic_connection_parts.specs.Telling.{windows_of}
use Rattle.quic_connection_parts.specs.Drawn.{words_of}
use Rattle.quic_connection.specs.Ends.{Serves}
use Rattle.quic_connection.specs.GoingOn.{goes_same, goes_then, serve_on}
use Rattle.quic_connection.specs.Lone.{lone_of}
use Rattle.quic_connection.specs.Stopping.{at_call}
use Rattle.quic_connection.proofs.Words.{lone_as, lone_gives, call_goes}
use Rattle.quic_connection.proofs.Lone.{adds_none, adds_more}
use Rattle.quic_connection.proofs.Stopping.{served}
use Rattle.quic_connection.proofs.alone.make_calls.Goals as goal

pub loop-call-init : goal.loop-call-init
loop-call-init g c =
    let serves = sym c.is_err.ensures.value ∙ c.if-is_err.false in
    record {
      adds = adds_none _ _ _ _ _ _ (c.reserve.ensures.items ∙ c.new-answers.ensures.items);
      count = rw (c.reserve.ensures.items, c.new-answers.ensures.items) refl;
      len = rw c.reserve.ensures.len c.new-answers.ensures.len;
      room = omega (arith, served c.reserve.result serves c.reserve.ensures.ok);
      goes_on = goes_same _ _;
    }

pub loop-call-preserved : goal.loop-call-preserved
loop-call-preserved g c =
    let inv = c.loop-call.invariant in
    let stream = g.R.Rng.stream in
    let protection = g.H.HeaderKey.protection in
    let aead = g.K.PacketKey.aead in
    let seals = g.K.PacketKey.seal_limit in
    let openings = g.K.PacketKey.refusal_limit in
    let windows = windows_of g.C.Controller.steps g.C.Controller.window_of in
    let first = c.args.end.now in
    let old = c.loop-call.end in
    let made = c.at_end in
    let own : Policy = policy_of protection aead seals openings (words_of stream) first in
    let here : Policy = policy_of protection aead seals openings (words_of stream) old in
    let mid : Lone = lone_of windows old in
    let next : Lone = lone_of windows made.new.end in
    let call = c.call-item.result in
    let a = c.in-Ok.answer in
    let step : IsLoneStep here c.args.theirs.now mid call a next = record {
      answer = rw c.in-Ok.is at made.ensures.answer;
      end = rw c.in-Ok.is at made.ensures.end;
      control = rw c.in-Ok.is at made.ensures.control;
      heard = rw c.in-Ok.is at made.ensures.heard;
      openings = rw c.in-Ok.is at made.ensures.openings;
      lacking = rw c.in-Ok.is at made.ensures.lacking;
    } in
    let given = rw c.in-Ok.is at made.ensures.given in
    let serves : Serves own here old.end = serve_on protection aead seals openings stream own first old (record { keys = refl; words = λ o n h. refl }) inv.goes_on in
    let at : slice_get c.args.calls.now (length c.loop-call.answers.items) ≡ Some call =
    rw inv.count (slice_get_read c.args.calls.now (length c.args.calls.now) c.loop-call.call-index call refl c.loop-call-test.true c.call-item.is) in
    record {
      adds =
          adds_more own c.args.theirs.now (lone_of windows first) c.args.calls.now c.loop-call.answers.items _ c.args.given.now.items c.loop-call.given.items _ mid call a next inv.adds at
          (lone_as own here c.args.theirs.now mid call serves a next step)
          (search rules)
          (given ∙ ap (λ (ds : List (List ℕ)). c.loop-call.given.items ++ ds) (sym (lone_gives own here c.args.theirs.now mid call serves a)));
      count = grind (arith, common_steps);
      len = grind (arith, common_steps);
      room = grind (arith, common_steps);
      goes_on = goes_then stream first old made.new.end inv.goes_on
          (call_goes stream here (windows old.control) old.heard old made.new.end c.args.theirs.now call made.result made.ensures.keys made.ensures.draws made.ensures.end made.ensures.err);
    }

pub returns-in_default-clause-why : goal.returns-in_default-clause-why
returns-in_default-clause-why g c = λ short.
    let call = c.call-item.result in
    at_call call
    (rw c.loop-call.invariant.count (slice_get_read c.args.calls.now (length c.args.calls.now) c.loop-call.call-index call refl c.loop-call-test.true c.call-item.is))
    c.in_default.ensures.own
