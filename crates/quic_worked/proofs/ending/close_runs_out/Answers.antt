use Rattle.quic_worked.proofs.EndingRuns.{ending_is_honest, ending_is_run, timers_so, moments_so, stay_so, drains_so, unfailed_so}
use Rattle.quic_worked.proofs.ending.close_runs_out.Goals as goal

pub returns : goal.returns
returns c = record { honest = ending_is_honest; run = ending_is_run; timers = timers_so; moments = moments_so; stay = stay_so; drains = drains_so; unfailed = unfailed_so }
