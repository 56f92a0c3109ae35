use Rattle.std.specs.Ordering.{nat_cmp}
use Rattle.std.specs.BTreeMap.{is_at}
use Rattle.quic_sets.proofs.Offsets.OffsetSet.{set_absent}
use Rattle.quic_sets.proofs.offset_set.set_start.Goals as goal

pub returns-in_default : goal.returns-in_default
returns-in_default c =
    let a = c.args in
    rw c.get_mut.follows.holds-at-none (set_absent (is_at (nat_cmp a.end)) a.spans.now.entries a.start c.in_default.ensures.value)
