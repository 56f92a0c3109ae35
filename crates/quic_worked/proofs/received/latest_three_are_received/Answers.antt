use Rattle.std.proofs.Common.{Some, None}
use Rattle.quic_worked.specs.Received.{four_of}
use Rattle.quic_worked.proofs.ReceivedRun.{crowded_is_honest, crowded_is_run, waits_at_first, waits_then, none_waits, crowded_oldest}
use Rattle.quic_worked.proofs.received.latest_three_are_received.Goals as goal

pub returns : goal.returns
returns c = record {
  honest = crowded_is_honest (Some (four_of 0x62)) (Some (four_of 0x63)) (Some (four_of 0x64)) None;
  run = crowded_is_run;
  waiting = waits_at_first;
  left = waits_then;
  none = none_waits;
  oldest = crowded_oldest;
}
