use Rattle.std.proofs.Common.{Some}
use Rattle.quic_worked.specs.Received.{four_of}
use Rattle.quic_worked.proofs.ReceivedRun.{crowded_is_honest, dropped_shows, no_dropped}
use Rattle.quic_worked.proofs.received.dropped_message_is_received.Goals as goal

pub returns : goal.returns
returns c = record { oldest = dropped_shows; premises = crowded_is_honest (Some (four_of 0x61)) (Some (four_of 0x62)) (Some (four_of 0x63)) (Some (four_of 0x64)); machine = no_dropped }
