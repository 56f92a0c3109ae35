use Rattle.quic_worked.proofs.AgreeingRuns.{forged_differs, ticked_is_honest}
use Rattle.quic_worked.proofs.IsolatedRuns.{no_ticked}
use Rattle.quic_worked.proofs.agreeing.forged_moment_differs.Goals as goal

pub returns : goal.returns
returns c = record { idle = forged_differs; premises = ticked_is_honest; machine = no_ticked }
