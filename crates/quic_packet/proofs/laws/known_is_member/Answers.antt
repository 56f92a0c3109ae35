use Rattle.quic_packet.proofs.Destinations.{known_is_member}
use Rattle.quic_packet.proofs.laws.known_is_member.Goals as goal

pub returns : goal.returns
returns c = known_is_member
