use Rattle.quic_worked.proofs.MessageRuns.{twice_shows, twice_is_honest, no_twice}
use Rattle.quic_worked.proofs.messages.message_is_taken_again.Goals as goal

pub returns : goal.returns
returns c = record { once = twice_shows; premises = twice_is_honest; machine = no_twice }
