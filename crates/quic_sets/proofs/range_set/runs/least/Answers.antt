use Rattle.std.proofs.Common.{sym}
use Rattle.quic_sets.proofs.RunEdits.{least_is}
use Rattle.quic_sets.proofs.range_set.runs.least.Goals as goal

pub returns : goal.returns
returns c = least_is c.args.runs.now c.in_ok-first.field-0.now c.requires (sym c.in_ok-first.ensures.value)
