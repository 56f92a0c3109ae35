use Rattle.std.proofs.Common.{None}
use Rattle.quic_worked.proofs.ReceivedRun.{crowded_is_honest, none_shows, no_none}
use Rattle.quic_worked.proofs.received.no_message_is_received.Goals as goal

pub returns : goal.returns
returns c = record { oldest = none_shows; premises = crowded_is_honest None None None None; machine = no_none }
