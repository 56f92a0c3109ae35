use Rattle.quic_packet.proofs.Destinations.{fixed_length_finds}
use Rattle.quic_packet.proofs.laws.fixed_length_finds.Goals as goal

pub returns : goal.returns
returns c = fixed_length_finds
