use Rattle.quic_worked.proofs.CountedRuns.{none_counted, one_counted, marks_counted}
use Rattle.quic_worked.proofs.counted.marks_are_counted.Goals as goal

pub returns : goal.returns
returns c = record { before = none_counted; came = one_counted; counted = marks_counted }
