use Rattle.quic_headline.proofs.Alone.Fitting.{messages_fit}
use Rattle.quic_headline.proofs.headline.messages_fit.Goals as goal

pub returns : goal.returns
returns c = messages_fit
