use Rattle.quic_worked.proofs.UsedUpRun.{early_wrong, early_is_none}
use Rattle.quic_worked.proofs.closed.early_last_shows.Goals as goal

pub returns : goal.returns
returns c = record { numbers = early_wrong; machine = early_is_none }
