use Rattle.std.proofs.Common.{rules, ◌≡◌, length, Some, arith, refl, sym, ◌∙◌}
use Rattle.std.specs.Prelude.{slice_get}
use Rattle.std.proofs.lemmas.Option.{slice_get_read}
use Rattle.std.proofs.lemmas.Grind.{common_steps}
use Rattle.quic_connection_parts.specs.Telling.{windows_of}
use Rattle.quic_connection.specs.Ends.{world_of, policies_of}
use Rattle.quic_connection.proofs.Runs.{follows_goes_on}
use Rattle.quic_connection.specs.GoingOn.{go_same, go_then, are_own, are_on}
use Rattle.quic_connection.specs.Stopping.{for_call, at_event}
use Rattle.quic_connection.proofs.Stopping.{served}
use Rattle.quic_connection.proofs.running.run_events.Goals as goal
use Rattle.quic_connection.proofs.running.run_events.Goals.{else-loop-event-test, then-loop-event-test+in_default, then-loop-event-test+in-Ok+in_default-step}

pub loop-event-init : goal.loop-event-init
loop-event-init g c =
    let serves = sym c.is_err.ensures.value ∙ c.if-is_err.false in
    record {
      follows = rw (c.make_room.ensures.answers, c.make_room.ensures.views, c.new-answers.ensures.items, c.new-views.ensures.items, c.new-given.ensures.client, c.new-given.ensures.server) refl;
      count = rw (c.make_room.ensures.answers, c.new-answers.ensures.items) refl;
      answers_len = c.make_room.ensures.answers_len;
      views_len = c.make_room.ensures.views_len;
      answer_room = served c.make_room.result serves c.make_room.ensures.answer_room;
      view_room = served c.make_room.result serves c.make_room.ensures.view_room;
      is_whole = refl;
      goes_on = go_same _ _;
    }

pub loop-event-preserved : goal.loop-event-preserved
loop-event-preserved g c =
    let inv = c.loop-event.invariant in
    let stream = g.R.Rng.stream in
    let protection = g.H.HeaderKey.protection in
    let aead = g.K.PacketKey.aead in
    let seals = g.K.PacketKey.seal_limit in
    let openings = g.K.PacketKey.refusal_limit in
    let own = policies_of protection aead seals openings stream c.args.ends in
    let at : slice_get c.args.events.now (length c.loop-event.answers.items) ≡ Some c.event-item.result =
    rw inv.count (slice_get_read c.args.events.now (length c.args.events.now) c.loop-event.event-index c.event-item.result refl c.loop-event-test.true c.event-item.is) in
    record {
      follows =
          follows_goes_on _ _ _ c.loop-event.answers.items c.loop-event.views.items (world_of (windows_of g.C.Controller.steps g.C.Controller.window_of) c.loop-event.ends c.loop-event.given)
          c.event-item.result c.in-Ok-step.answer (world_of (windows_of g.C.Controller.steps g.C.Controller.window_of) c.step.new.ends c.step.new.given) _ _
          inv.follows at
          (c.in-Ok-step.ensures.step own
          (are_on protection aead seals openings stream own c.args.ends c.loop-event.ends (are_own protection aead seals openings stream c.args.ends) inv.goes_on))
          (search rules)
          (let seen = c.view.ensures c.step.new.given in cc (seen, c.push_reserved-in-loop-event.ensures.items));
      count = grind (arith, common_steps);
      answers_len = grind (arith, common_steps);
      views_len = grind (arith, common_steps);
      answer_room = grind (arith, common_steps);
      view_room = grind (arith, common_steps);
      is_whole = inv.is_whole;
      goes_on = go_then stream c.args.ends c.loop-event.ends c.step.new.ends inv.goes_on c.step.ensures.goes_on;
    }

pub view-requires-clause-client_room : goal.view-requires-clause-client_room
view-requires-clause-client_room g c =
    let stream = g.R.Rng.stream in
    let protection = g.H.HeaderKey.protection in
    let aead = g.K.PacketKey.aead in
    let seals = g.K.PacketKey.seal_limit in
    let openings = g.K.PacketKey.refusal_limit in
    let own = policies_of protection aead seals openings stream c.args.ends in
    let keys = c.args.ends.client.keys in
    let rooms = rw c.in-Ok.is at c.rooms_behind.ensures.client_room in
    rooms own (g.met.H.HeaderKey.shows_length keys.header.remote) (g.met.K.PacketKey.opens_no_more keys.packet.remote) c.in-Ok-step.answer
    (world_of (windows_of g.C.Controller.steps g.C.Controller.window_of) c.step.new.ends c.step.new.given)
    (c.in-Ok-step.ensures.step own
    (are_on protection aead seals openings stream own c.args.ends c.loop-event.ends (are_own protection aead seals openings stream c.args.ends) c.loop-event.invariant.goes_on))

pub view-requires-clause-server_room : goal.view-requires-clause-server_room
view-requires-clause-server_room g c =
    let stream = g.R.Rng.stream in
    let protection = g.H.HeaderKey.protection in
    let aead = g.K.PacketKey.aead in
    let seals = g.K.PacketKey.seal_limit in
    let openings = g.K.PacketKey.refusal_limit in
    let own = policies_of protection aead seals openings stream c.args.ends in
    let keys = c.args.ends.server.keys in
    let rooms = rw c.in-Ok.is at c.rooms_behind.ensures.server_room in
    rooms own (g.met.H.HeaderKey.shows_length keys.header.remote) (g.met.K.PacketKey.opens_no_more keys.packet.remote) c.in-Ok-step.answer
    (world_of (windows_of g.C.Controller.steps g.C.Controller.window_of) c.step.new.ends c.step.new.given)
    (c.in-Ok-step.ensures.step own
    (are_on protection aead seals openings stream own c.args.ends c.loop-event.ends (are_own protection aead seals openings stream c.args.ends) c.loop-event.invariant.goes_on))

pub returns-clause-whole : goal.returns-clause-whole
returns-clause-whole g c = λ whole.
    let inv = c.loop-event.invariant in
    elim c.loop-event-test.branch [
      | else-loop-event-test w ↦ search rules
      | then-loop-event-test+in_default w ↦ let is = w.cut_short-is in cc
      | then-loop-event-test+in-Ok+in_default-step w ↦ let is = w.cut_short-is in cc
    ]

pub returns-clause-stopped : goal.returns-clause-stopped
returns-clause-stopped g c = λ short.
    let inv = c.loop-event.invariant in
    elim c.loop-event-test.branch [
      | else-loop-event-test w ↦ let is = w.cut_short-is in let going = inv.is_whole in cc
      | then-loop-event-test+in_default w ↦ rw inv.count w.loop-event-test.true
      | then-loop-event-test+in-Ok+in_default-step w ↦ rw inv.count w.loop-event-test.true
    ]

pub returns-clause-why : goal.returns-clause-why
returns-clause-why g c = λ short.
    let inv = c.loop-event.invariant in
    let events = c.args.events.now in
    elim c.loop-event-test.branch [
      | else-loop-event-test w ↦ let is = w.cut_short-is in let going = inv.is_whole in absurd cc
      | then-loop-event-test+in_default w ↦
          let event = w.event-item.result in
          at_event event
          (rw inv.count (slice_get_read events (length events) c.loop-event.event-index event refl w.loop-event-test.true w.event-item.is))
          (rw (w.ends-is, w.given-is) w.in_default.ensures.lacking)
      | then-loop-event-test+in-Ok+in_default-step w ↦
          let event = w.event-item.result in
          at_event event
          (rw inv.count (slice_get_read events (length events) c.loop-event.event-index event refl w.loop-event-test.true w.event-item.is))
          (rw (w.ends-is, w.given-is, w.in_default-step.ensures.err_given) (for_call w.in_default-step.ensures.own))
    ]

pub returns-clause-goes_on : goal.returns-clause-goes_on
returns-clause-goes_on g c =
    let inv = c.loop-event.invariant in
    elim c.loop-event-test.branch [
      | else-loop-event-test w ↦ rw w.ends-is inv.goes_on
      | then-loop-event-test+in_default w ↦ rw w.ends-is inv.goes_on
      | then-loop-event-test+in-Ok+in_default-step w ↦ rw w.ends-is (go_then _ _ _ _ inv.goes_on w.step.ensures.goes_on)
    ]

pub returns-clause-follows : goal.returns-clause-follows
returns-clause-follows g c =
    let inv = c.loop-event.invariant in
    elim c.loop-event-test.branch [
      | else-loop-event-test w ↦ rw (w.ends-is, w.given-is) inv.follows
      | then-loop-event-test+in_default w ↦ rw (w.ends-is, w.given-is) inv.follows
      | then-loop-event-test+in-Ok+in_default-step w ↦ search rules
    ]
