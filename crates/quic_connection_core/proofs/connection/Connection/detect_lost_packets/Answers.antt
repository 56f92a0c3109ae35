use Rattle.std.proofs.Common.{ap, ◌∙◌}
use Rattle.quic_machine.specs.End.{with_end, with_tracking}
use Rattle.quic_congestion.specs.Search.{open_probe}
use Rattle.quic_machine.specs.Tracking.{loss_time_of, lost_by}
use Rattle.quic_connection_parts.specs.Losses.{all_lost}
use Rattle.quic_connection_core.proofs.Losses.{detects}
use Rattle.quic_connection_core.proofs.connection.Connection.detect_lost_packets.Goals as goal

pub returns-clause-ok : goal.returns-clause-ok
returns-clause-ok g c =
    let v = c.verdict-verdict.result in
    let now = c.args.self.now in
    let lost = c.on_packets_lost.new.self in
    let later = c.detected.ensures ∙ ap (λ w. record w.end.tracking { loss_time = loss_time_of v w.end.tracking.packets }) c.self.view_is in
    let loses =
    ap (λ w. with_end w (with_tracking w.end c.detected.new.self)) c.self.view_is
    ∙ ap (λ t. with_end lost (with_tracking lost.end t)) later
    ∙ ap (λ w. with_end w (with_tracking w.end (record w.end.tracking { loss_time = loss_time_of v w.end.tracking.packets }))) c.in_ok-on_packets_lost.ensures.ok in
    let counts = c.in_ok-on_packets_lost.ensures.losses ∙ ap (λ l. all_lost now.end.path.generation (open_probe now.end.path.discovery) l (lost_by v now.end.tracking.packets)) c.no_losses-losses.ensures in
    detects g.C.Controller.steps now _ c.judge_size.new.self c.tell_lost.new.self c.args.by_ack v c.on_packets_lost.new.losses loses c.verdict-verdict.ensures counts c.judge_size.ensures c.tell_lost.ensures
