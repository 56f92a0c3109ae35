use Rattle.quic_worked.proofs.RespelledRun.{far_not, far_is_honest, never_far}
use Rattle.quic_worked.proofs.respelled.far_frame_shows.Goals as goal

pub returns : goal.returns
returns c = record { within = far_not; premises = far_is_honest; machine = never_far }
