-- How much room the texts take that views show: those with which the other end closed.
use Rattle.std.specs.Prelude.{ℕ, ◌≤◌, List, length, slice_get, Option, Some, None}
use Rattle.quic_wire_core.specs.declared.stream_id.Side.{Side}
use Rattle.quic_packet.specs.Keys.{KeepsLength, OpensNoMore}
use Rattle.quic_machine.specs.declared.answers.LostReason.{LostReason}
use Rattle.quic_machine.specs.declared.run.Call.{Call}
use Rattle.quic_machine.specs.declared.run.Call.TheVariants as calls
use Rattle.quic_machine.specs.declared.run.RunEvent.{RunEvent}
use Rattle.quic_machine.specs.declared.run.Answer.{Answer}
use Rattle.quic_machine.specs.Reasons.{text_len}
use Rattle.quic_machine.specs.Machine.{World, Policies, IsStep, end_at, policy_at}

-- how many bytes the text has with which the peer closed an end; 0 where it didn't
abbrev pub told_len : Option LostReason → ℕ
told_len None = 0
told_len (Some reason) = text_len reason

-- how many bytes a datagram has, where there is one
abbrev pub len_of : Option (List ℕ) → ℕ
len_of None = 0
len_of (Some d) = length d

-- how many bytes the datagram has that a call delivers, of these
abbrev pub handed_len : List (List ℕ) → Call → ℕ
handed_len theirs (calls.Deliver delivery) = len_of (slice_get theirs delivery.index)
handed_len theirs call = 0

-- an end has at most so many bytes of such a text behind an event, whatever that is answered, where
-- its keys keep how many bytes a number has, and open to no more than there were
abbrev pub HasRoomBehind : Side → World → RunEvent → ℕ → Type 0
HasRoomBehind side w event room = (k : Policies) → KeepsLength (policy_at side k).header.reveal → OpensNoMore (policy_at side k).packet.unseal → (a : Answer) (next : World) → IsStep k w event a next
    → told_len (end_at side next).closing.reason ≤ room
