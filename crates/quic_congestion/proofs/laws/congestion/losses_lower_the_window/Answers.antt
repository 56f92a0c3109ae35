use Rattle.quic_congestion.proofs.Windows.{lost_most}
use Rattle.quic_congestion.proofs.laws.congestion.losses_lower_the_window.Goals as goal

pub returns : goal.returns
returns c = lost_most
