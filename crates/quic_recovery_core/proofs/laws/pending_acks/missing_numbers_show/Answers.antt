use Rattle.quic_recovery_core.proofs.AckCauses.{lost_shows}
use Rattle.quic_recovery_core.proofs.laws.pending_acks.missing_numbers_show.Goals as goal

pub returns : goal.returns
returns c = lost_shows
