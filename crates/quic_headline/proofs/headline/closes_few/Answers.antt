use Rattle.quic_headline.proofs.Alone.FewCloses.{closes_few}
use Rattle.quic_headline.proofs.headline.closes_few.Goals as goal

pub returns : goal.returns
returns c = closes_few
