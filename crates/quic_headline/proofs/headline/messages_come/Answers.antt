use Rattle.quic_headline.proofs.Alone.Messages.{messages_come}
use Rattle.quic_headline.proofs.headline.messages_come.Goals as goal

pub returns : goal.returns
returns c = messages_come
