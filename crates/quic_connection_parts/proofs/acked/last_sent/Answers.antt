use Rattle.std.proofs.Common.{ap, ◌∙◌}
use Rattle.quic_machine.specs.Tracking.{TrackedPacket}
use Rattle.quic_connection_parts.proofs.Told.{first_sent}
use Rattle.quic_connection_parts.proofs.acked.last_sent.Goals as goal

pub returns-in-Some : goal.returns-in-Some
returns-in-Some c = ap (λ (t : TrackedPacket). t.time_sent) c.packet.view_is ∙ first_sent c.args.acked.now c.in-Some.field-0.now c.in-Some.ensures.value
