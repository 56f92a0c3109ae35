use Rattle.quic_recovery_core.proofs.DuplicateLaws.{duplicates}
use Rattle.quic_recovery_core.proofs.laws.dedup.duplicates_came_before.Goals as goal

pub returns : goal.returns
returns c = duplicates
