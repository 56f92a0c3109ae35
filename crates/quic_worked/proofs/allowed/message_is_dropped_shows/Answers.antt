use Rattle.quic_worked.proofs.AllowedRun.{one_kept, kept_shows}
use Rattle.quic_worked.proofs.FaultTimes.{kept_is_honest, kept_is_none}
use Rattle.quic_worked.proofs.allowed.message_is_dropped_shows.Goals as goal

pub returns : goal.returns
returns c = record { waits = one_kept; goes = kept_shows; honest = kept_is_honest; machine = kept_is_none }
