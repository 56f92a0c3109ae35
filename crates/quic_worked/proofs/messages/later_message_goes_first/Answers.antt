use Rattle.quic_worked.proofs.MessageRuns.{turned_wrong, turned_is_honest, turned_is_none}
use Rattle.quic_worked.proofs.messages.later_message_goes_first.Goals as goal

pub returns : goal.returns
returns c = record { order = turned_wrong; premises = turned_is_honest; machine = turned_is_none }
