use Rattle.quic_packet.proofs.Numbers.{newest_opens}
use Rattle.quic_packet.proofs.laws.newest_opens.Goals as goal

pub returns : goal.returns
returns c = newest_opens
