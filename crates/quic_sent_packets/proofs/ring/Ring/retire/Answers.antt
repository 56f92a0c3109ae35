use Rattle.std.proofs.Common.{◌+◌, sym, subst}
use Rattle.quic_sent_packets.specs.Places.{Places, AllBelow}
use Rattle.quic_sent_packets.proofs.Joined.{below_more}
use Rattle.quic_sent_packets.proofs.Numbered.{moved_below}
use Rattle.quic_sent_packets.proofs.ring.Ring.retire.Goals as goal

pub returns-clause-below : goal.returns-clause-below
returns-clause-below c =
    let below = subst (λ (p : Places). AllBelow p.base c.args.earlier.now.entries) (sym c.self.view_is) c.requires.below in
    rw c.in_default-keep.ensures.ok
    (below_more (c.self.inside.base + 1) c.trim.new.self.base _ c.trim.ensures.base (moved_below c.self.inside.base c.in-Some.place c.args.earlier.now.entries below))
