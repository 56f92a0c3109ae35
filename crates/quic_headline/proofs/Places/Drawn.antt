-- The numbers that an end left out are drawn of its random source, at each place of an honest run.
use Rattle.std.proofs.Common.{List, sym, subst}
use Rattle.quic_machine.specs.Machine.{World, policy_at, end_at}
use Rattle.quic_headline.specs.Runs.{Run}
use Rattle.quic_headline.specs.Observer.{Sent}
use Rattle.quic_headline.specs.Headline.{IsHonest, IsRun}
use Rattle.quic_headline.specs.LeftOut.{left_out, AreLeftOut, NumbersAreDrawn}
use Rattle.quic_headline.proofs.Packets.Group.{PacketsHold}
use Rattle.quic_headline.proofs.Packets.Sight.{Sight}
use Rattle.quic_headline.proofs.Packets.LeftOut.{draws_all, Drawing, drawing_group}
use Rattle.quic_headline.proofs.Places.Groups.{Way, Nothing, And, Group, both, over}
use Rattle.quic_headline.proofs.Places.Placed.{Placed, placed, placed_less}
use Rattle.quic_headline.proofs.Places.Flights.{own_at}
use Rattle.quic_headline.proofs.Places.Everything as everything
use Rattle.quic_headline.proofs.Places.Theorems.{ready}
use Rattle.quic_headline.proofs.Halves.Ready.{Ready}

-- all that holds between the ends, and which numbers are left out
abbrev Known : Way
Known = And (everything.All Ready ready) Drawing

known : Group Nothing Known
known = both Nothing (everything.All Ready ready) Drawing (everything.all Ready ready) (over PacketsHold (And Nothing (everything.All Ready ready)) Drawing (λ x y h. h.1.0.0) drawing_group)

pub numbers_are_drawn : (r : Run) (end : World) → IsHonest r → IsRun r end → NumbersAreDrawn r
numbers_are_drawn r end honest run side i served =
    let at : Placed Known r end side i = placed Known known r end honest run side i served in
    subst (λ (ss : List Sent). AreLeftOut (policy_at side r.keys).words (end_at side r.start).filter.next (left_out 0 ss))
    (sym (own_at r end honest side i (placed_less Known Sight r end side i (λ x y h. h.0.1) at)))
    (draws_all (policy_at side r.keys).words (end_at side r.start).filter.next (left_out 0 at.sents) (end_at side at.world).filter at.gives.1.draws)
