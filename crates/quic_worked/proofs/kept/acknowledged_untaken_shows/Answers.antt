use Rattle.quic_worked.proofs.UntakenRuns.{taken_acks, untaken_not, behind_not, dropped_not}
use Rattle.quic_worked.proofs.kept.acknowledged_untaken_shows.Goals as goal

pub returns : goal.returns
returns c = record { taken = taken_acks; untaken = untaken_not; behind = behind_not; dropped = dropped_not }
