use Rattle.quic_worked.proofs.HeededRuns.{stop_came, heeded}
use Rattle.quic_worked.proofs.heeded.stops_are_heeded.Goals as goal

pub returns : goal.returns
returns c = record { came = stop_came; right = heeded }
