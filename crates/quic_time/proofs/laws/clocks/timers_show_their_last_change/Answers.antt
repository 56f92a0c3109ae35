use Rattle.quic_time.proofs.TimerLaws.{last_change}
use Rattle.quic_time.proofs.laws.clocks.timers_show_their_last_change.Goals as goal

pub returns : goal.returns
returns c = last_change
