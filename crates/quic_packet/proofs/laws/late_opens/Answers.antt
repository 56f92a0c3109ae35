use Rattle.quic_packet.proofs.Numbers.{late_opens}
use Rattle.quic_packet.proofs.laws.late_opens.Goals as goal

pub returns : goal.returns
returns c = late_opens
