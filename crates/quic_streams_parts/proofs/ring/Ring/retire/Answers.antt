use Rattle.std.proofs.Common.{◌+◌, sym, subst}
use Rattle.quic_streams_parts.specs.Slots.{Slots, AllBelow}
use Rattle.quic_streams_parts.proofs.Joined.{below_more}
use Rattle.quic_streams_parts.proofs.Slotted.{moved_below}
use Rattle.quic_streams_parts.proofs.ring.Ring.retire.Goals as goal

pub returns-clause-below : goal.returns-clause-below
returns-clause-below g c =
    let below = subst (λ (p : Slots g.row.T.Denot). AllBelow p.base c.args.earlier.now.entries) (sym c.self.view_is) c.requires.below in
    rw c.in_default-keep.ensures.ok
    (below_more (c.self.inside.base + 1) c.trim.new.self.base _ c.trim.ensures.base (moved_below c.self.inside.base c.in-Some.slot c.args.earlier.now.entries below))
