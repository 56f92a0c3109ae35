use Rattle.quic_worked.proofs.ShutRuns.{refuses_on_not, refuses_on_is_honest, never_refuses_on}
use Rattle.quic_worked.proofs.shut.endless_refusals_show.Goals as goal

pub returns : goal.returns
returns c = record { closes = refuses_on_not; premises = refuses_on_is_honest; machine = never_refuses_on }
