use Rattle.quic_send_buffer.proofs.Buffered.Calls.{loss_lawful}
use Rattle.quic_send_buffer.proofs.Buffered.Places.{loss_lost, loss_in_flight}
use Rattle.quic_send_buffer.proofs.laws.send_buffer.losses_lose.Goals as goal

pub returns-clause-lost : goal.returns-clause-lost
returns-clause-lost c = loss_lost

pub returns-clause-in_flight : goal.returns-clause-in_flight
returns-clause-in_flight c = loss_in_flight

pub returns-clause-lawful : goal.returns-clause-lawful
returns-clause-lawful c = loss_lawful
