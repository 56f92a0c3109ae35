use Rattle.quic_lines.specs.Reading.{left_of, KnowsEnd}
use Rattle.quic_lines.proofs.Taking.{IsBegun}
use Rattle.quic_lines.proofs.lines.Lines.next.Given as goal

-- the line has so much of the bytes that were left, and no line feed
abbrev pub invariant-loop : goal.invariant-loop
invariant-loop g l = KnowsEnd g.R.Read.remaining l.self × IsBegun (left_of g.R.Read.remaining l.fn.self) l.line.items (left_of g.R.Read.remaining l.self)
