use Rattle.quic_worked.proofs.EndedRuns.{early_wrong, early_is_honest, early_is_none}
use Rattle.quic_worked.proofs.ended.closes_one_early.Goals as goal

pub returns : goal.returns
returns c = record { key = early_wrong; premises = early_is_honest; machine = early_is_none }
