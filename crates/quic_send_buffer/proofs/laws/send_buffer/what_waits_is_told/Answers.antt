use Rattle.quic_send_buffer.proofs.Buffered.Places.{some_waits, none_waits}
use Rattle.quic_send_buffer.proofs.laws.send_buffer.what_waits_is_told.Goals as goal

pub returns-clause-some : goal.returns-clause-some
returns-clause-some c = some_waits

pub returns-clause-none_waits : goal.returns-clause-none_waits
returns-clause-none_waits c = none_waits
