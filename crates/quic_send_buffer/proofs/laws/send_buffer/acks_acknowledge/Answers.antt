use Rattle.quic_send_buffer.proofs.Buffered.Calls.{ack_lawful, ack_written}
use Rattle.quic_send_buffer.proofs.Buffered.Places.{ack_acknowledged, ack_lost, ack_unsent, ack_in_flight}
use Rattle.quic_send_buffer.proofs.laws.send_buffer.acks_acknowledge.Goals as goal

pub returns-clause-acknowledged : goal.returns-clause-acknowledged
returns-clause-acknowledged c = ack_acknowledged

pub returns-clause-lost : goal.returns-clause-lost
returns-clause-lost c = ack_lost

pub returns-clause-unsent : goal.returns-clause-unsent
returns-clause-unsent c = ack_unsent

pub returns-clause-in_flight : goal.returns-clause-in_flight
returns-clause-in_flight c = ack_in_flight

pub returns-clause-written : goal.returns-clause-written
returns-clause-written c = ack_written

pub returns-clause-lawful : goal.returns-clause-lawful
returns-clause-lawful c = ack_lawful
