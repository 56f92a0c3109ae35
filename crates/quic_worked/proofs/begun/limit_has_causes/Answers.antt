use Rattle.quic_worked.proofs.BegunRuns.{read_asks, limit_is_lost}
use Rattle.quic_worked.proofs.begun.limit_has_causes.Goals as goal

pub returns : goal.returns
returns c = record { read = read_asks; lost = limit_is_lost }
