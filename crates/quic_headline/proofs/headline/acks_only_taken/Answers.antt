use Rattle.quic_headline.proofs.Alone.Acked.{acks_only_taken}
use Rattle.quic_headline.proofs.headline.acks_only_taken.Goals as goal

pub returns : goal.returns
returns c = acks_only_taken
