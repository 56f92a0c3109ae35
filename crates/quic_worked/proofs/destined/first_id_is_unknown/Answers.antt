use Rattle.quic_worked.proofs.DestinedRuns.{unknown_shows, unknown_is_honest, no_unknown}
use Rattle.quic_worked.proofs.destined.first_id_is_unknown.Goals as goal

pub returns : goal.returns
returns c = record { wrong = unknown_shows; premises = unknown_is_honest; machine = no_unknown }
