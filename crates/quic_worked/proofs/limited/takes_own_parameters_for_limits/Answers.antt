use Rattle.quic_worked.proofs.LimitedRun.{keeps_own, never_own}
use Rattle.quic_worked.proofs.limited.takes_own_parameters_for_limits.Goals as goal

pub returns : goal.returns
returns c = record { keeps = keeps_own; machine = never_own }
