use Rattle.quic_worked.proofs.ObeyingRuns.{stale_is_honest, stale_is_run, anew_wanted, anew_said, stale_delay, stale_deadline}
use Rattle.quic_worked.proofs.obeying.stale_request_is_passed.Goals as goal

pub returns : goal.returns
returns c = record { honest = stale_is_honest 145000000; run = stale_is_run; anew = anew_wanted; said = anew_said; delay = stale_delay; deadline = stale_deadline }
