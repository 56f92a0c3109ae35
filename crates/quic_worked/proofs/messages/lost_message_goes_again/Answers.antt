use Rattle.quic_worked.proofs.MessageRuns.{again_shows, again_is_honest, no_again}
use Rattle.quic_worked.proofs.messages.lost_message_goes_again.Goals as goal

pub returns : goal.returns
returns c = record { once = again_shows; premises = again_is_honest; machine = no_again }
