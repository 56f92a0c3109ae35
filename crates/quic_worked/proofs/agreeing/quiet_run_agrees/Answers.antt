use Rattle.std.proofs.Common.{refl}
use Rattle.quic_worked.proofs.AgreeingRuns.{quiet_began, quiet_came}
use Rattle.quic_worked.proofs.agreeing.quiet_run_agrees.Goals as goal

pub returns : goal.returns
returns c = record { finds = refl; began = quiet_began; came = quiet_came }
