use Rattle.std.specs.Prelude.{None}
use Rattle.quic_worked.proofs.MovedRuns.{flight_wrong, full_is_honest, full_is_none}
use Rattle.quic_worked.proofs.moved.old_flight_is_kept.Goals as goal

pub returns : goal.returns
returns c = record { polls = flight_wrong; premises = full_is_honest None; machine = full_is_none None }
