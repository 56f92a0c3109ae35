use Rattle.std.proofs.Common.{◌-◌, length, sym, arith}
use Rattle.quic_sets.proofs.RunEdits.{greatest_is, not_empty}
use Rattle.quic_sets.proofs.range_set.runs.greatest.Goals as goal

pub overflow_sub-result : goal.overflow_sub-result
overflow_sub-result c = let some = not_empty c.args.runs.now c.in_ok-last.field-0.now (length c.args.runs.now - 1) c.requires (sym c.in_ok-last.ensures.value) in omega (arith, some)

pub returns : goal.returns
returns c = greatest_is c.args.runs.now c.in_ok-last.field-0.now c.requires (sym c.in_ok-last.ensures.value)
