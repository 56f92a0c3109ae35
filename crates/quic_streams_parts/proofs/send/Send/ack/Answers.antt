use Rattle.std.proofs.Common.{subst}
use Rattle.quic_send_buffer.specs.Buffered.{IsBuffered}
use Rattle.quic_streams_parts.specs.SendHalf.{SendHalf}
use Rattle.quic_streams_parts.proofs.Idle.{idle_half}
use Rattle.quic_streams_parts.proofs.send.Send.ack.Goals as goal

pub returns-in_err-ack-clause-idle : goal.returns-in_err-ack-clause-idle
returns-in_err-ack-clause-idle c = idle_half c.args.self.now c.args.frame.now (subst (λ (h : SendHalf). IsBuffered h.buffer) c.self.view_is c.offset-written.ensures.lawful)

pub returns-clause-idle : goal.returns-clause-idle
returns-clause-idle c = idle_half c.args.self.now c.args.frame.now (subst (λ (h : SendHalf). IsBuffered h.buffer) c.self.view_is c.offset-written.ensures.lawful)
