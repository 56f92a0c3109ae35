-- No message is received more often than it was sent: the clause, at each place of a run.
use Rattle.std.proofs.Common.{ℕ, ◌≤◌, List, arith}
use Rattle.quic_wire_core.specs.declared.stream_id.Side.{Side}
use Rattle.quic_wire_core.specs.StreamId.{other_side}
use Rattle.quic_machine.specs.Machine.{World}
use Rattle.quic_headline.specs.Runs.{Run, until, AreServed}
use Rattle.quic_headline.specs.Messages.{sent_messages, received_messages, MessagesAtMostOnce}
use Rattle.quic_headline.proofs.Places.Parties.{Party, came_to}
use Rattle.quic_headline.proofs.Places.Groups.{Way, And}
use Rattle.quic_headline.proofs.Places.Placed.{Placed, party_at}
use Rattle.quic_headline.proofs.Messages.Counted.{often, often_times, came_went}
use Rattle.quic_headline.proofs.Messages.Group.{AtMostOnce}

-- what was received was sent, where the group holds
received_sent : (x y : Party) (m : List ℕ) → AtMostOnce x y → often m (received_messages y.told) ≤ often m (sent_messages x.told)
received_sent x y m h =
    let sent = h.goes.most m in
    let received = h.comes.most m in
    let went = came_went m (came_to y x).opened x.sents in
    omega arith

-- the clause, where the group holds at each place
pub messages_at_most_once : (B : Way) (r : Run) (end : World) → ((side : Side) (i : ℕ) → AreServed r i → Placed (And B AtMostOnce) r end side i) → MessagesAtMostOnce r
messages_at_most_once B r end all side i message served =
    let at = all side i served in
    let x : Party = party_at r i at.world (other_side side) at.theirs in
    let y : Party = party_at r i at.world side at.sents in
    often_times message (received_messages (until r side i)) (sent_messages (until r (other_side side) i)) (received_sent x y message at.takes.1)
