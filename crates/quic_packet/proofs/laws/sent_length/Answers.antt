use Rattle.quic_packet.proofs.Opening.{sent_length}
use Rattle.quic_packet.proofs.laws.sent_length.Goals as goal

pub returns : goal.returns
returns c = sent_length
