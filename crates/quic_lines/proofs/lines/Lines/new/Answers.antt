use Rattle.quic_lines.proofs.Taking.{keeps_none}
use Rattle.quic_lines.proofs.lines.Lines.new.Goals as goal

pub returns-clause-left : goal.returns-clause-left
returns-clause-left g c = keeps_none (g.R.Read.remaining c.args.reader)
