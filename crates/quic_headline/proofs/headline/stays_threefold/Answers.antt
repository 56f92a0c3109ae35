use Rattle.quic_headline.proofs.Alone.Amplified.{stays_threefold}
use Rattle.quic_headline.proofs.headline.stays_threefold.Goals as goal

pub returns : goal.returns
returns c = stays_threefold
