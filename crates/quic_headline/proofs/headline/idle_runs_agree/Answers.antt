use Rattle.quic_headline.proofs.Isolated.Agreeing.{idle_runs_agree}
use Rattle.quic_headline.proofs.headline.idle_runs_agree.Goals as goal

pub returns : goal.returns
returns c = idle_runs_agree
