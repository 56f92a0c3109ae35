use Rattle.std.proofs.Common.{◌≡◌, ◌+◌, ◌≤◌, ◌++◌, drop}
use Rattle.quic_wire.specs.Writing.{written, widths, AreNumbers, BeginWith}
use Rattle.quic_wire.proofs.frame.writing.write_numbers.Given as goal

abbrev pub invariant-loop-n : goal.invariant-loop-n
invariant-loop-n g l = record {
  fits : AreNumbers (drop l.n-index l.numbers);
  begins : BeginWith (g.B.BufMut.written l.fn.buf) (g.B.BufMut.written l.buf);
  so_far : g.B.BufMut.written l.buf ++ written (drop l.n-index l.numbers) ≡ g.B.BufMut.written l.fn.buf ++ written l.numbers;
  spends : g.B.BufMut.spare l.fn.buf + widths (drop l.n-index l.numbers) ≤ g.B.BufMut.spare l.buf + widths l.numbers;
}
