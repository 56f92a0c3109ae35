use Rattle.quic_worked.proofs.FaultRuns.{accepted_is_run, accepted_is_honest, accepted_is_named, is_accepted}
use Rattle.quic_worked.proofs.faults.all_is_accepted.Goals as goal

pub returns : goal.returns
returns c = record { run = accepted_is_run; honest = accepted_is_honest; named = accepted_is_named; accepted = is_accepted }
