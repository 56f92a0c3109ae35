use Rattle.quic_worked.proofs.BoundedRun.{one_over, at_once, count_said}
use Rattle.quic_worked.proofs.bounded.all_counts_are_given.Goals as goal

pub returns : goal.returns
returns c = record { over = one_over; once = at_once; said = count_said }
