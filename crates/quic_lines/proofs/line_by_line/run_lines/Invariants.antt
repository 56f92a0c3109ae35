use Rattle.quic_lines.specs.Reading.{left_of, KnowsEnd}
use Rattle.quic_lines.proofs.Running.{Running}
use Rattle.quic_lines.proofs.line_by_line.run_lines.Given as goal

-- the lines before this one were run
abbrev pub invariant-loop-number : goal.invariant-loop-number
invariant-loop-number g l = KnowsEnd g.R.Read.remaining l.lines × Running g.T.RunsLines.line_rules (g.T.RunsLines.stage_of l.fn.runner) (left_of g.R.Read.remaining l.fn.lines) (g.W.Write.contents l.fn.writer) l.number (g.T.RunsLines.stage_of l.runner) (left_of g.R.Read.remaining l.lines) (g.W.Write.contents l.writer)
