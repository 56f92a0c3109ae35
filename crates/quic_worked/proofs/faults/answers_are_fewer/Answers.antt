use Rattle.quic_worked.proofs.FaultTimes.{none_is_run, three_is_run, none_is_less, three_is_less}
use Rattle.quic_worked.proofs.faults.answers_are_fewer.Goals as goal

pub returns : goal.returns
returns c = record { none = none_is_run; fewer = three_is_run; no_answer = none_is_less; last_lacks = three_is_less }
