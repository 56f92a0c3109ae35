use Rattle.quic_worked.proofs.KnownRuns.{eighty_is_run, eighty_used, eighty_next, eighty_past}
use Rattle.quic_worked.proofs.known.retirements_wait.Goals as goal

pub returns : goal.returns
returns c = record { run = eighty_is_run; used = eighty_used; next = eighty_next; past = eighty_past }
