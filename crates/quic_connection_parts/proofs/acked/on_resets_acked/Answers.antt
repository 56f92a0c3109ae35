use Rattle.std.proofs.Common.{sym, ap, ◌∙◌}
use Rattle.quic_streams_state.specs.State.{streams_of}
use Rattle.quic_connection_parts.proofs.OnStreams.{reset_step, no_resets}
use Rattle.quic_connection_parts.proofs.acked.on_resets_acked.Goals as goal

pub loop-reset-preserved : goal.loop-reset-preserved
loop-reset-preserved c =
    let before = streams_of c.loop-reset.streams.state c.loop-reset.streams.pending in
    let after = streams_of c.reset_acked.new.self c.reset_acked.new.pending in
    reset_step c.loop-reset.resets.reset_stream c.pop_reset_stream.new.self.reset_stream c.in-Some.reset before after c.in-Some.ensures.answer (ap (λ r. r.reset_stream) c.in-Some.ensures.new) c.reset_acked.ensures.new c.reset_acked.ensures.pending
    ∙ c.loop-reset.invariant

pub returns : goal.returns
returns c = sym (no_resets c.loop-reset.resets.reset_stream (streams_of c.loop-reset.streams.state c.loop-reset.streams.pending) (sym c.in_default.ensures.answer)) ∙ c.loop-reset.invariant
