use Rattle.quic_recovery_core.proofs.DuplicateLaws.{missing}
use Rattle.quic_recovery_core.proofs.laws.dedup.missing_did_not_come.Goals as goal

pub returns : goal.returns
returns c = missing
