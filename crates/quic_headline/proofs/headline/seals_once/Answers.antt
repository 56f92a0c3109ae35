use Rattle.quic_headline.proofs.Alone.Sealing.{seals_once}
use Rattle.quic_headline.proofs.headline.seals_once.Goals as goal

pub returns : goal.returns
returns c = seals_once
