use Rattle.quic_worked.proofs.HeldRun.{none_given, byte_waits, window_is_full}
use Rattle.quic_worked.proofs.held.waiting_byte_is_held.Goals as goal

pub returns : goal.returns
returns c = record { gave = none_given; waits = byte_waits; full = window_is_full }
