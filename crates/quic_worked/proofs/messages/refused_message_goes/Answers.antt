use Rattle.quic_worked.proofs.MessageRuns.{refused_shows, refused_is_honest, no_refused}
use Rattle.quic_worked.proofs.messages.refused_message_goes.Goals as goal

pub returns : goal.returns
returns c = record { once = refused_shows; premises = refused_is_honest; machine = no_refused }
