use Rattle.quic_worked.proofs.HeededRuns.{unheeded, h_written, no_written}
use Rattle.quic_worked.proofs.heeded.unheeded_stop_shows.Goals as goal

pub returns : goal.returns
returns c = record { takes = unheeded; premises = h_written; machine = no_written }
