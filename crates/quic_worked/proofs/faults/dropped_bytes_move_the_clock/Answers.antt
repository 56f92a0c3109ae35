use Rattle.quic_worked.proofs.FaultTimes.{moved_due, moved_moments, moved_is_honest, never_moves}
use Rattle.quic_worked.proofs.faults.dropped_bytes_move_the_clock.Goals as goal

pub returns : goal.returns
returns c = record { due = moved_due; moments = moved_moments; premises = moved_is_honest; machine = never_moves }
