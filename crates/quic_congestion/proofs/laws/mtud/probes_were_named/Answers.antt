use Rattle.quic_congestion.proofs.NamedSizes.{named_over}
use Rattle.quic_congestion.proofs.laws.mtud.probes_were_named.Goals as goal

pub returns : goal.returns
returns c = named_over
