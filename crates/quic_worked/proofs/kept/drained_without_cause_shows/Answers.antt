use Rattle.quic_worked.proofs.KeptEnds.{idle_drains, early_not, polled_not}
use Rattle.quic_worked.proofs.kept.drained_without_cause_shows.Goals as goal

pub returns : goal.returns
returns c = record { idle = idle_drains; early = early_not; polled = polled_not }
