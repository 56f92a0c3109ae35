use Rattle.quic_worked.proofs.BleachedRun.{bleached_is_honest, bleached_is_run, all_marked, none_marked, bleached_marks_go}
use Rattle.quic_worked.proofs.bleached.bleached_marks_end.Goals as goal

pub returns : goal.returns
returns c = record { honest = bleached_is_honest; run = bleached_is_run; before = all_marked; behind = none_marked; clause = bleached_marks_go }
