use Rattle.quic_worked.proofs.KnownRuns.{none_wrong, none_is_honest, none_is_no_run}
use Rattle.quic_worked.proofs.known.never_has_next_id.Goals as goal

pub returns : goal.returns
returns c = record { exact = none_wrong; premises = none_is_honest; machine = none_is_no_run }
