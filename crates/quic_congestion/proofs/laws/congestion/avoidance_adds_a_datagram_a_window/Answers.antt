use Rattle.quic_congestion.proofs.RenoHistories.{avoidance, less_is_left}
use Rattle.quic_congestion.proofs.laws.congestion.avoidance_adds_a_datagram_a_window.Goals as goal

pub returns-clause-each : goal.returns-clause-each
returns-clause-each c = avoidance

pub returns-clause-left : goal.returns-clause-left
returns-clause-left c = less_is_left
