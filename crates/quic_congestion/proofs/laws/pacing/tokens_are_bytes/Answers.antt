use Rattle.quic_congestion.proofs.PacerLaws.{fold-after_datagram}
use Rattle.quic_congestion.proofs.laws.pacing.tokens_are_bytes.Goals as goal

pub returns : goal.returns
returns c = fold-after_datagram
