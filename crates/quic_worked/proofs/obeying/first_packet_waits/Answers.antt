use Rattle.quic_worked.proofs.EarlyAcks.{first_not_due, first_shows, first_is_honest, first_is_none}
use Rattle.quic_worked.proofs.obeying.first_packet_waits.Goals as goal

pub returns : goal.returns
returns c = record { due = first_not_due; waited = first_shows; honest = first_is_honest; machine = first_is_none }
