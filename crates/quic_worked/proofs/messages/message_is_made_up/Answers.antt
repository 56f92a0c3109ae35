use Rattle.quic_worked.proofs.MessageRuns.{made_up_shows, made_up_is_honest, no_made_up}
use Rattle.quic_worked.proofs.messages.message_is_made_up.Goals as goal

pub returns : goal.returns
returns c = record { once = made_up_shows; premises = made_up_is_honest; machine = no_made_up }
