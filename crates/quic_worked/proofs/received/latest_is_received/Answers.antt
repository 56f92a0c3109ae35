use Rattle.std.proofs.Common.{Some, None}
use Rattle.quic_worked.specs.Received.{four_of}
use Rattle.quic_worked.proofs.ReceivedRun.{crowded_is_honest, latest_shows, no_latest}
use Rattle.quic_worked.proofs.received.latest_is_received.Goals as goal

pub returns : goal.returns
returns c = record { oldest = latest_shows; premises = crowded_is_honest (Some (four_of 0x64)) (Some (four_of 0x63)) (Some (four_of 0x62)) None; machine = no_latest }
