use Rattle.quic_worked.proofs.HeededRuns.{backwards, h_backwards, no_backwards}
use Rattle.quic_worked.proofs.heeded.backward_opens_show.Goals as goal

pub returns : goal.returns
returns c = record { order = backwards; premises = h_backwards; machine = no_backwards }
