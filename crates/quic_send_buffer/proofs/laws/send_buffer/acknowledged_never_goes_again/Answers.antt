use Rattle.quic_send_buffer.proofs.Buffered.History.{acked_goes_not, acked_goes_never}
use Rattle.quic_send_buffer.proofs.laws.send_buffer.acknowledged_never_goes_again.Goals as goal

pub returns-clause-goes : goal.returns-clause-goes
returns-clause-goes c = acked_goes_not

pub returns-clause-later : goal.returns-clause-later
returns-clause-later c = acked_goes_never
