use Rattle.quic_worked.proofs.WrongAcks.{narrow_names, no_narrow}
use Rattle.quic_worked.proofs.machines.taken_packet_is_left_out.Goals as goal

pub returns : goal.returns
returns c = record { names = narrow_names; machine = no_narrow }
