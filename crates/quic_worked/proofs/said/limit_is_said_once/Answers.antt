use Rattle.quic_worked.proofs.SaidRun.{all_is_honest, all_is_run, all_asked, all_unasked}
use Rattle.quic_worked.proofs.said.limit_is_said_once.Goals as goal

pub returns : goal.returns
returns c = record { honest = all_is_honest; run = all_is_run; first = all_asked; second = all_unasked }
