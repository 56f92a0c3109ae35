use Rattle.quic_worked.proofs.AllowedRun.{stopped_off, finished_off, twice_reset}
use Rattle.quic_worked.proofs.allowed.closed_is_allowed.Goals as goal

pub returns : goal.returns
returns c = record { stopped = stopped_off; finished = finished_off; reset = twice_reset }
