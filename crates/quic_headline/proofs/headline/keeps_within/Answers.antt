use Rattle.quic_headline.proofs.Alone.Keeping.{keeps_within}
use Rattle.quic_headline.proofs.headline.keeps_within.Goals as goal

pub returns : goal.returns
returns c = keeps_within
