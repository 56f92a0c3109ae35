use Rattle.quic_lines.specs.Reading.{left_of, KnowsEnd}
use Rattle.quic_run_core.specs.Stages.{stage_of}
use Rattle.quic_run_core.proofs.Kept.{Erasing}
use Rattle.quic_run_core.proofs.erasing.erase_lines.Given as goal

-- the lines before this one were run
abbrev pub invariant-loop-number : goal.invariant-loop-number
invariant-loop-number g l = KnowsEnd g.R.Read.remaining l.lines × Erasing (left_of g.R.Read.remaining l.fn.lines) l.number (stage_of l.runner) (left_of g.R.Read.remaining l.lines) l.kept.items
