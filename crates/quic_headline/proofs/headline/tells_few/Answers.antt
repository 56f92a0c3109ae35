use Rattle.quic_headline.proofs.Alone.Few.{tells_few}
use Rattle.quic_headline.proofs.headline.tells_few.Goals as goal

pub returns : goal.returns
returns c = tells_few
