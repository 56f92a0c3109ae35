use Rattle.quic_headline.proofs.Alone.Closed.{closed_for_cause}
use Rattle.quic_headline.proofs.headline.closed_for_cause.Goals as goal

pub returns : goal.returns
returns c = closed_for_cause
