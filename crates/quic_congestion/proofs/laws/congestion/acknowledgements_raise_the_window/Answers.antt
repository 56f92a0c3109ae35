use Rattle.quic_congestion.proofs.Windows.{acked_least, acked_most}
use Rattle.quic_congestion.proofs.laws.congestion.acknowledgements_raise_the_window.Goals as goal

pub returns-clause-least : goal.returns-clause-least
returns-clause-least c = acked_least

pub returns-clause-most : goal.returns-clause-most
returns-clause-most c = acked_most
