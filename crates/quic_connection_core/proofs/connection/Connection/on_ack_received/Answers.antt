use Rattle.std.proofs.Common.{ap, ◌∙◌, sym}
use Rattle.quic_machine.specs.Tracking.{acked_by}
use Rattle.quic_machine.specs.Acked.{marks_seen, told_seen}
use Rattle.quic_connection_parts.specs.Telling.{telling}
use Rattle.quic_connection_parts.proofs.Told.{marks_behind, marks_nowhere}
use Rattle.quic_connection_core.proofs.connection.Connection.on_ack_received.Goals as goal

pub returns-in-Some-clause-ok : goal.returns-in-Some-clause-ok
returns-in-Some-clause-ok g c =
    let a = c.args.frame.now in
    let now = c.args.self.now in
    let rises = c.args.rises in
    let newly = c.in-Some.acked.0 in
    let last = c.in-Some.acked.1 in
    let named = acked_by a now.end.tracking.packets in
    let steps = g.C.Controller.steps in
    c.see_marks.ensures
    ∙ ap (λ w. telling steps w (told_seen w.end.path.marking rises newly a.ecn last w.end) (marks_seen rises newly a w.end)) c.in_ok-acked.ensures.ok
    ∙ marks_behind steps now rises a named newly last (sym c.in_ok-acked.ensures.count ∙ c.in-Some.is)

pub returns-in_default-clause-ok : goal.returns-in_default-clause-ok
returns-in_default-clause-ok g c =
    let a = c.args.frame.now in
    let now = c.args.self.now in
    c.in_ok-acked.ensures.ok ∙ marks_nowhere g.C.Controller.steps now c.args.rises a (acked_by a now.end.tracking.packets) (sym c.in_ok-acked.ensures.count ∙ c.in_default.is)
