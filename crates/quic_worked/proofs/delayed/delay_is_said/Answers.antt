use Rattle.quic_worked.proofs.DelayedRun.{late_went, late_since, delays_said}
use Rattle.quic_worked.proofs.delayed.delay_is_said.Goals as goal

pub returns : goal.returns
returns c = record { went = late_went; since = late_since; delays = delays_said }
