use Rattle.quic_worked.proofs.TimedEnds.{never_late}
use Rattle.quic_worked.proofs.WrongRuns.{late_follows}
use Rattle.quic_worked.proofs.machines.loss_timer_still_runs.Goals as goal

pub returns : goal.returns
returns c = record { timers = late_follows; machine = never_late }
