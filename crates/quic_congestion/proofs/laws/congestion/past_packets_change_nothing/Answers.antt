use Rattle.quic_congestion.proofs.Windows.{past_acked, past_lost}
use Rattle.quic_congestion.proofs.laws.congestion.past_packets_change_nothing.Goals as goal

pub returns-clause-acked : goal.returns-clause-acked
returns-clause-acked c = past_acked

pub returns-clause-lost : goal.returns-clause-lost
returns-clause-lost c = past_lost
