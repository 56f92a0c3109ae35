use Rattle.quic_headline.proofs.Timers.Starts.{loss_timers_run}
use Rattle.quic_headline.proofs.headline.loss_timers_follow.Goals as goal

pub returns : goal.returns
returns c = loss_timers_run
