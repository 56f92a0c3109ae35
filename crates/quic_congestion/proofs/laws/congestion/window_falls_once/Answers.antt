use Rattle.quic_congestion.proofs.Windows.{falls_once}
use Rattle.quic_congestion.proofs.laws.congestion.window_falls_once.Goals as goal

pub returns : goal.returns
returns c = falls_once
