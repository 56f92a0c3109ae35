use Rattle.std.proofs.Common.{◌≡◌, ◌-◌}
use Rattle.quic_wire.specs.AckReading.{ranges_at, behind}
use Rattle.quic_wire.proofs.frame.ack.reading.skip_ranges.Given as goal

abbrev pub invariant-loop : goal.invariant-loop
invariant-loop l = behind (ranges_at (l.count - l.counter) l.low l.bytes.now) ≡ behind (ranges_at l.count l.below l.fn.bytes.now)
