use Rattle.quic_send_buffer.proofs.Buffered.Places.{each_acknowledged, all_acknowledged, none_kept}
use Rattle.quic_send_buffer.proofs.laws.send_buffer.fully_acked_is_each_acknowledged.Goals as goal

pub returns-clause-each : goal.returns-clause-each
returns-clause-each c = each_acknowledged

pub returns-clause-all : goal.returns-clause-all
returns-clause-all c = all_acknowledged

pub returns-clause-none_kept : goal.returns-clause-none_kept
returns-clause-none_kept c = none_kept
