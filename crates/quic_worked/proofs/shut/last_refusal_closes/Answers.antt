use Rattle.quic_worked.proofs.ShutRuns.{refusing_is_run, refusing_is_honest, one_refused, two_refused, refusals_so}
use Rattle.quic_worked.proofs.shut.last_refusal_closes.Goals as goal

pub returns : goal.returns
returns c = record { run = refusing_is_run; honest = refusing_is_honest; first = one_refused; second = two_refused; closes = refusals_so }
