use Rattle.quic_packet.proofs.Destinations.{sent_is_decoded}
use Rattle.quic_packet.proofs.laws.sent_is_decoded.Goals as goal

pub returns : goal.returns
returns c = sent_is_decoded
