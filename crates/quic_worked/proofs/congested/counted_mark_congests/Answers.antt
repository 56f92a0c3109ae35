use Rattle.quic_worked.proofs.CongestedRun.{congested_is_honest, congested_is_run, told_so, congested_is_told}
use Rattle.quic_worked.proofs.congested.counted_mark_congests.Goals as goal

pub returns : goal.returns
returns c = record { honest = congested_is_honest; run = congested_is_run; told = told_so; clause = congested_is_told }
