use Rattle.quic_worked.proofs.SaidRun.{one_is_honest, one_is_run, one_asked, one_unasked}
use Rattle.quic_worked.proofs.said.stream_limit_is_said_once.Goals as goal

pub returns : goal.returns
returns c = record { honest = one_is_honest; run = one_is_run; first = one_asked; second = one_unasked }
