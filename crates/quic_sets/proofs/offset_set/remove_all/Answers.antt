use Rattle.std.proofs.Common.{◌∙◌}
use Rattle.quic_sets.proofs.Offsets.Undone.{undone_more}
use Rattle.quic_sets.proofs.offset_set.remove_all.Goals as goal

pub loop-end-preserved : goal.loop-end-preserved
loop-end-preserved c = undone_more c.loop-end.ends.items _ c.in-Some.end _ _ c.in-Some.ensures.items c.remove.ensures ∙ c.loop-end.invariant
