use Rattle.quic_worked.proofs.BurstingRuns.{four_fall, three_stay}
use Rattle.quic_worked.proofs.bursting.four_bursts_fall.Goals as goal

pub returns : goal.returns
returns c = record { four = four_fall; three = three_stay }
