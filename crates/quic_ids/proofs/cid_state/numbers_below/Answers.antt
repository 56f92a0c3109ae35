use Rattle.std.proofs.Common.{ℕ, List, ap, ◌∙◌}
use Rattle.std.specs.Ordering.{nat_cmp}
use Rattle.std.specs.BTreeSet.{insert_key}
use Rattle.quic_ids.proofs.OwnIdSteps.{next_below}
use Rattle.quic_ids.proofs.cid_state.numbers_below.Goals as goal

pub loop-n-preserved : goal.loop-n-preserved
loop-n-preserved c = c.in_ok-insert.ensures.keys ∙ ap (λ (ks : List ℕ). insert_key nat_cmp ks c.loop-n.n) c.loop-n.invariant ∙ next_below c.loop-n.n
