use Rattle.quic_packet.proofs.Numbers.{fewest}
use Rattle.quic_packet.proofs.laws.numbers_take_fewest.Goals as goal

pub returns : goal.returns
returns c = λ number acked near. fewest _ near
