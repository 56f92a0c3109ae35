use Rattle.quic_worked.proofs.WritableRun.{writable_is_run, writable_is_honest, all_wait}
use Rattle.quic_worked.proofs.writable.writable_is_told.Goals as goal

pub returns : goal.returns
returns c = record { run = writable_is_run; honest = writable_is_honest; waits = all_wait }
