use Rattle.std.proofs.Common.{◌-◌, ◌++◌, sym, ap, ◌∙◌}
use Rattle.std.specs.Prelude.{vec_len}
use Rattle.std.proofs.lemmas.List.{append-nil}
use Rattle.quic_wire.specs.Writing.{spelled_all}
use Rattle.quic_streams_state.specs.Control.{Draft}
use Rattle.quic_machine.specs.Tracking.{retransmits_in}
use Rattle.quic_connection_parts.proofs.Shifted.{idle_part}
use Rattle.quic_connection_parts.proofs.Content.{kept_as, with_flag, on_ok}
use Rattle.quic_connection_parts.proofs.packet.put_control_frames.Goals as goal

pub returns-then-is_idle-clause-items : goal.returns-then-is_idle-clause-items
returns-then-is_idle-clause-items c =
    on_ok c.kept_request.result (
    sym (append-nil c.args.out.now.items)
    ∙ sym (ap (λ (d : Draft). c.args.out.now.items ++ spelled_all d.frames) (idle_part c.args.most (vec_len c.args.out.now - c.args.body) c.args.streams.now.state c.args.streams.now.pending (c.is_idle.ensures.0 c.if-is_idle.true))))

pub returns-then-is_idle-clause-state : goal.returns-then-is_idle-clause-state
returns-then-is_idle-clause-state c =
    on_ok c.kept_request.result (
    sym (ap (λ (d : Draft). d.state) (idle_part c.args.most (vec_len c.args.out.now - c.args.body) c.args.streams.now.state c.args.streams.now.pending (c.is_idle.ensures.0 c.if-is_idle.true))))

pub returns-then-is_idle-clause-pending : goal.returns-then-is_idle-clause-pending
returns-then-is_idle-clause-pending c =
    let idle = c.is_idle.ensures.0 c.if-is_idle.true in
    on_ok c.kept_request.result (idle ∙ sym (ap (λ (d : Draft). d.pending) (idle_part c.args.most (vec_len c.args.out.now - c.args.body) c.args.streams.now.state c.args.streams.now.pending idle)))

pub returns-then-is_idle-clause-carried : goal.returns-then-is_idle-clause-carried
returns-then-is_idle-clause-carried c =
    kept_as c.kept_request.result _ _ c.kept_request.ensures (
    sym (ap (λ (d : Draft). with_flag c.args.requests (retransmits_in d.frames)) (idle_part c.args.most (vec_len c.args.out.now - c.args.body) c.args.streams.now.state c.args.streams.now.pending (c.is_idle.ensures.0 c.if-is_idle.true))))
