use Rattle.quic_worked.proofs.MessageRuns.{cut_shows, cut_is_honest, no_cut}
use Rattle.quic_worked.proofs.messages.message_is_cut.Goals as goal

pub returns : goal.returns
returns c = record { once = cut_shows; premises = cut_is_honest; machine = no_cut }
