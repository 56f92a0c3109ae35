use Rattle.quic_packet.proofs.Opening.{sealed_is_sent}
use Rattle.quic_packet.proofs.laws.sealed_is_sent.Goals as goal

pub returns : goal.returns
returns c = sealed_is_sent
