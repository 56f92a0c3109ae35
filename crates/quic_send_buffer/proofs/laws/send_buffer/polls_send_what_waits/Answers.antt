use Rattle.quic_send_buffer.proofs.Buffered.Calls.{poll_lawful}
use Rattle.quic_send_buffer.proofs.Buffered.Places.{poll_waits, poll_written, poll_unacknowledged, poll_flies, poll_stays, poll_lost_first, poll_least_first}
use Rattle.quic_send_buffer.proofs.laws.send_buffer.polls_send_what_waits.Goals as goal

pub returns-clause-waits : goal.returns-clause-waits
returns-clause-waits c = poll_waits

pub returns-clause-written : goal.returns-clause-written
returns-clause-written c = poll_written

pub returns-clause-not_acknowledged : goal.returns-clause-not_acknowledged
returns-clause-not_acknowledged c = poll_unacknowledged

pub returns-clause-flies : goal.returns-clause-flies
returns-clause-flies c = poll_flies

pub returns-clause-stays : goal.returns-clause-stays
returns-clause-stays c = poll_stays

pub returns-clause-lost_first : goal.returns-clause-lost_first
returns-clause-lost_first c = poll_lost_first

pub returns-clause-least_first : goal.returns-clause-least_first
returns-clause-least_first c = poll_least_first

pub returns-clause-lawful : goal.returns-clause-lawful
returns-clause-lawful c = poll_lawful
