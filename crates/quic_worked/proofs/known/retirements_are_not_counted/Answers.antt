use Rattle.quic_worked.proofs.KnownRuns.{all_wrong, all_is_none}
use Rattle.quic_worked.proofs.known.retirements_are_not_counted.Goals as goal

pub returns : goal.returns
returns c = record { exact = all_wrong; machine = all_is_none }
