use Rattle.quic_worked.proofs.KnownRuns.{many_wrong, many_is_honest, many_is_no_run}
use Rattle.quic_worked.proofs.known.one_retirement_is_too_many.Goals as goal

pub returns : goal.returns
returns c = record { exact = many_wrong; premises = many_is_honest; machine = many_is_no_run }
