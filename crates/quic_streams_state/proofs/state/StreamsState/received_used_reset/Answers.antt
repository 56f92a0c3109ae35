use Rattle.std.proofs.Common.{sym, ◌∙◌}
use Rattle.quic_wire.specs.FrameView.{reset_stream_view}
use Rattle.quic_streams_state.proofs.Coming.{went, is_reset_live}
use Rattle.quic_streams_state.proofs.state.StreamsState.received_used_reset.Goals as goal

pub returns-clause-new : goal.returns-clause-new
returns-clause-new c =
    let kept = went c.keep_reset.result (sym c.is_err.ensures.value ∙ c.if-is_err.false) c.keep_reset.ensures.ok in
    (is_reset_live c.args.self.now c.args.pending.now (reset_stream_view c.args.frame) c.keep_reset.new.self c.settle.new.self c.settle.new.pending c.requires.allowed c.requires.used kept c.settle.ensures.new c.settle.ensures.pending).new

pub returns-clause-pending : goal.returns-clause-pending
returns-clause-pending c =
    let kept = went c.keep_reset.result (sym c.is_err.ensures.value ∙ c.if-is_err.false) c.keep_reset.ensures.ok in
    (is_reset_live c.args.self.now c.args.pending.now (reset_stream_view c.args.frame) c.keep_reset.new.self c.settle.new.self c.settle.new.pending c.requires.allowed c.requires.used kept c.settle.ensures.new c.settle.ensures.pending).pending
