use Rattle.quic_send_buffer.proofs.Buffered.History.{lawful, all_written, one_place, acked_is, lost_is, unsent_is}
use Rattle.quic_send_buffer.proofs.laws.send_buffer.history_tells_places.Goals as goal

pub returns-clause-lawful : goal.returns-clause-lawful
returns-clause-lawful c = lawful

pub returns-clause-written : goal.returns-clause-written
returns-clause-written c = all_written

pub returns-clause-one_place : goal.returns-clause-one_place
returns-clause-one_place c = one_place

pub returns-clause-acknowledged : goal.returns-clause-acknowledged
returns-clause-acknowledged c = acked_is

pub returns-clause-lost : goal.returns-clause-lost
returns-clause-lost c = lost_is

pub returns-clause-unsent : goal.returns-clause-unsent
returns-clause-unsent c = unsent_is
