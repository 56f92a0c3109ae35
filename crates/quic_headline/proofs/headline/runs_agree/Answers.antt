use Rattle.quic_headline.proofs.Isolated.Agreeing.{runs_agree}
use Rattle.quic_headline.proofs.headline.runs_agree.Goals as goal

pub returns : goal.returns
returns c = runs_agree
