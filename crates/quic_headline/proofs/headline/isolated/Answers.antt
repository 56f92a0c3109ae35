use Rattle.quic_headline.proofs.Isolated.Erasing.{isolated}
use Rattle.quic_headline.proofs.headline.isolated.Goals as goal

pub returns : goal.returns
returns c = isolated
