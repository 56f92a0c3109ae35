use Rattle.quic_time.proofs.TimerLaws.{each_in}
use Rattle.quic_time.proofs.laws.clocks.timers_are_nine.Goals as goal

pub returns-clause-each : goal.returns-clause-each
returns-clause-each c = each_in
