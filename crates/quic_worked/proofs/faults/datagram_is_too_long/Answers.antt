use Rattle.quic_worked.proofs.LongDatagram.{long_wrong, long_is_honest, long_is_none}
use Rattle.quic_worked.proofs.faults.datagram_is_too_long.Goals as goal

pub returns : goal.returns
returns c = record { sized = long_wrong; premises = long_is_honest; machine = long_is_none }
