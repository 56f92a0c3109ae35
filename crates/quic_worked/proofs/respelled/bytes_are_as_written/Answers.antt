use Rattle.quic_worked.proofs.RespelledRun.{as_written}
use Rattle.quic_worked.proofs.respelled.bytes_are_as_written.Goals as goal

pub returns : goal.returns
returns c = as_written
