use Rattle.quic_worked.proofs.HastenedRuns.{unhastened_not, unhastened_is_honest, unhastened_is_none}
use Rattle.quic_worked.proofs.hastened.unhastened_probe_shows.Goals as goal

pub returns : goal.returns
returns c = record { hastens = unhastened_not; honest = unhastened_is_honest; machine = unhastened_is_none }
