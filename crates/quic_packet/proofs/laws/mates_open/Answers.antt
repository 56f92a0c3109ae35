use Rattle.quic_packet.proofs.Opening.{mates_open}
use Rattle.quic_packet.proofs.laws.mates_open.Goals as goal

pub returns : goal.returns
returns c = mates_open
