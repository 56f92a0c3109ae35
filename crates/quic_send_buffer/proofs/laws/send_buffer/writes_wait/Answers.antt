use Rattle.quic_send_buffer.proofs.Buffered.Calls.{write_lawful}
use Rattle.quic_send_buffer.proofs.laws.send_buffer.writes_wait.Goals as goal

pub returns-clause-lawful : goal.returns-clause-lawful
returns-clause-lawful c = write_lawful
