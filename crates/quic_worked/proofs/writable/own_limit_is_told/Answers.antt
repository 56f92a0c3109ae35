use Rattle.quic_worked.proofs.WritableRun.{own_is_run, own_is_honest, own_waits}
use Rattle.quic_worked.proofs.writable.own_limit_is_told.Goals as goal

pub returns : goal.returns
returns c = record { run = own_is_run; honest = own_is_honest; waits = own_waits }
