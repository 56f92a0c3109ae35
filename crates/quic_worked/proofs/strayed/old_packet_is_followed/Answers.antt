use Rattle.quic_worked.proofs.StrayedRuns.{back_wrong, back_is_honest, back_never}
use Rattle.quic_worked.proofs.strayed.old_packet_is_followed.Goals as goal

pub returns : goal.returns
returns c = record { changes = back_wrong; premises = back_is_honest; machine = back_never }
