use Rattle.quic_worked.proofs.ToldRuns.{message_untold_shows, message_untold_is_honest, no_message_untold}
use Rattle.quic_worked.proofs.told.message_is_not_told_of.Goals as goal

pub returns : goal.returns
returns c = record { told = message_untold_shows; premises = message_untold_is_honest; machine = no_message_untold }
