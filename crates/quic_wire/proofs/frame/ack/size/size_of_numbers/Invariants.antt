use Rattle.std.proofs.Common.{◌≡◌, ◌≤◌, ◌+◌, ◌*◌, drop}
use Rattle.quic_wire.specs.NumbersWritten.{AreNumbers, widths}
use Rattle.quic_wire.proofs.frame.ack.size.size_of_numbers.Given as goal

abbrev pub invariant-loop-number : goal.invariant-loop-number
invariant-loop-number l = record {
  fits : AreNumbers (drop l.number-index l.numbers);
  so_far : l.size + widths (drop l.number-index l.numbers) ≡ widths l.numbers;
  most : l.size ≤ 8 * l.number-index;
}
