use Rattle.quic_worked.proofs.MessageRuns.{back_shows, back_is_honest, no_back}
use Rattle.quic_worked.proofs.messages.own_message_is_received.Goals as goal

pub returns : goal.returns
returns c = record { once = back_shows; premises = back_is_honest; machine = no_back }
