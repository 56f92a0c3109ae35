-- Which deliveries are taken, and which are dropped as duplicates (RFC 9000, section 12.3), by the
-- run's lists.
use Rattle.std.specs.Prelude.{ℕ, suc, ◌≡◌, ◌↔◌, true, List, [], Some}
use Rattle.quic_wire_core.specs.declared.stream_id.Side.{Side}
use Rattle.quic_wire_core.specs.StreamId.{other_side}
use Rattle.quic_packet.specs.Datagram.{Opening}
use Rattle.quic_machine.specs.declared.answers.State.TheVariants as states
use Rattle.quic_machine.specs.declared.answers.DropReason.TheVariants as drops
use Rattle.quic_machine.specs.declared.answers.Received.TheVariants as receives
use Rattle.quic_machine.specs.declared.run.Call.TheVariants as calls
use Rattle.quic_machine.specs.declared.run.Delivery.{Delivery}
use Rattle.quic_machine.specs.declared.run.Answer.{Answer}
use Rattle.quic_machine.specs.declared.run.Answer.TheVariants as answers
use Rattle.quic_machine.specs.Policy.{Policy}
use Rattle.quic_machine.specs.Machine.{policy_at}
use Rattle.quic_headline.specs.Runs.{Run, Intake, is_again, handed, came_open, given_of, until, state_at, AreServed}
use Rattle.quic_headline.specs.Headline.{IsAt}
use Rattle.quic_headline.specs.Causes.{came_by, PacketCame}

-- a delivery is answered `Taken` only where its end was open, and its datagram opened to a packet
-- that is no duplicate
abbrev pub TakesOnlyNew : Run → Type 0
TakesOnlyNew r = (side : Side) (i : ℕ) (delivery : Delivery) → AreServed r (suc i) → IsAt r i side (calls.Deliver delivery) (answers.Deliver receives.Taken)
    → (c : PacketCame (policy_at side r.keys) (given_of r (other_side side)) (until r side (suc i))) × (c.behind ≡ [])

-- A datagram opens, behind what came before, to a packet that is a duplicate: its number came
-- before, or lies 257 or more below one that did.
pub record CameAgain (p : Policy) (before : Intake) (a : Answer) (datagram : List ℕ) : Type 0 where
  pub opening : Opening
  pub opened : came_open p before.took a datagram ≡ Some opening
  pub again : is_again opening.number before.opened ≡ true

-- an open end drops a datagram that is handed to it as a duplicate exactly where it opens to one;
-- of a closing end the lists don't say what opened there
abbrev pub DropsOnlyAgain : Run → Type 0
DropsOnlyAgain r = (side : Side) (i : ℕ) (delivery : Delivery) (a : Answer) (datagram : List ℕ) → AreServed r (suc i) → state_at r side i ≡ states.Open → IsAt r i side (calls.Deliver delivery) a
    → handed (given_of r (other_side side)) (calls.Deliver delivery) a ≡ Some datagram
    → (a ≡ answers.Deliver (receives.Dropped drops.Duplicate)) ↔ CameAgain (policy_at side r.keys) (came_by (policy_at side r.keys) (given_of r (other_side side)) (until r side i)) a datagram

-- only packets that open and are new are taken, and exactly those that open and aren't are dropped
-- as duplicates
abbrev pub TakenExactly : Run → Type 0
TakenExactly r = TakesOnlyNew r × DropsOnlyAgain r
