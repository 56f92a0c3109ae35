use Rattle.quic_headline.proofs.Alone.Closed.{drained_for_cause}
use Rattle.quic_headline.proofs.headline.drained_for_cause.Goals as goal

pub returns : goal.returns
returns c = drained_for_cause
