use Rattle.quic_congestion.proofs.NoProbes.{no_probe}
use Rattle.quic_congestion.proofs.laws.mtud.nothing_is_probed.Goals as goal

pub returns : goal.returns
returns c = no_probe
