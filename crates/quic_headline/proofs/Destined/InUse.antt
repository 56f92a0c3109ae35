-- Each datagram that an open end gave went to the id of the number in use by the run's lists, as
-- its peer told it (RFC 9000, section 5.1.2): at each place of an honest run.
use Rattle.std.proofs.Common.{◌≡◌, ℕ, Bool, List, Option, Some, Ok, sym, ap, ◌∙◌, subst}
use Rattle.quic_wire_core.specs.declared.stream_id.Side.{Side}
use Rattle.quic_wire_core.specs.StreamId.{other_side}
use Rattle.quic_machine.specs.declared.answers.State.TheVariants as states
use Rattle.quic_machine.specs.declared.run.Call.TheVariants as calls
use Rattle.quic_machine.specs.declared.run.Answer.{Answer}
use Rattle.quic_machine.specs.declared.run.Answer.TheVariants as answers
use Rattle.quic_machine.specs.Machine.{World, end_at}
use Rattle.quic_headline.specs.Runs.{Run, Packet, Intake, AreServed, state_at, first_id_of_peer}
use Rattle.quic_headline.specs.Observer.{Sent, took}
use Rattle.quic_headline.specs.Headline.{IsHonest, IsRun}
use Rattle.quic_headline.specs.Polls.{GaveOne}
use Rattle.quic_headline.specs.Ids.{and_packet}
use Rattle.quic_headline.specs.ConnectionIds.{IsToldId, IdsAreInUse}
use Rattle.quic_headline.specs.InUse.{in_use, TellsStays}
use Rattle.quic_headline.proofs.Packets.Group.{PacketsHold}
use Rattle.quic_headline.proofs.Places.Parties.{Party, came_to}
use Rattle.quic_headline.proofs.Places.Groups.{Way, Nothing, And, Group, both, over}
use Rattle.quic_headline.proofs.Places.Placed.{party_at, Placed, placed}
use Rattle.quic_headline.proofs.Places.Openings.{took_is}
use Rattle.quic_headline.proofs.Places.Everything as everything
use Rattle.quic_headline.proofs.Places.Theorems.{ready}
use Rattle.quic_headline.proofs.Halves.Ready.{Ready}
use Rattle.quic_headline.proofs.Steps.Made.{MadeAt, made_at, served_before, one_behind}
use Rattle.quic_headline.proofs.Steps.Probing as probing
use Rattle.quic_headline.proofs.Destined.Issued.{Addresses, addresses_group}
use Rattle.quic_headline.proofs.NextIds.Used.{in_use_is}

-- all that holds between the ends, and to which id what goes is sent
abbrev All : Way
All = And (everything.All Ready ready) Addresses

all : Group Nothing All
all = both Nothing (everything.All Ready ready) Addresses (everything.all Ready ready) (over PacketsHold (And Nothing (everything.All Ready ready)) Addresses (λ x y h. h.1.0.0) addresses_group)

module _ (r : Run) (end : World) (honest : IsHonest r) (run : IsRun r end) (side : Side) (stays : ℕ → Bool) (kept : TellsStays r side stays) (i now : ℕ) (gave : GaveOne r side i now) (opened : state_at r side i ≡ states.Open) where
  abbrev answer : Answer
  answer = answers.Poll (Ok (Some gave.transmit))

  served : AreServed r i
  served = served_before r.answers i gave.served

  p : Placed All r end side i
  p = placed All all r end honest run side i served

  at : MadeAt r i side (calls.Poll now) answer
  at = made_at All all r end honest run i side (calls.Poll now) answer gave.poll gave.served

  abbrev x : Party
  x = party_at r i p.world side p.sents

  abbrev y : Party
  y = party_at r i p.world (other_side side) p.theirs

  still : x.end.closing.state ≡ states.Open
  still = p.state ∙ opened

  -- it went to the id that its end uses
  id_is : gave.sent.id ≡ x.end.ids.peer.id
  id_is =
      ap (λ (s : Sent). s.id) (sym (probing.same (everything.Streams Ready ready) (everything.all Ready ready) r end honest run side i now gave at.before at.behind at.made))
      ∙ ap (λ (w : World). (end_at side w).ids.peer.id) (sym (one_behind r i p.world at.before served p.leads at.made.leads))

  -- which was told under the number in use, in what was taken
  told : IsToldId y.id (came_to x y).took x.end.ids.peer.active x.end.ids.peer.id
  told = subst (λ (o : Option Packet). IsToldId y.id (and_packet o (came_to x y).took) x.end.ids.peer.active x.end.ids.peer.id) (p.gives.1.still still) p.gives.1.goes.uses.knows.used

  pub goes_in_use : IsToldId (first_id_of_peer r side) (took r side i) (in_use r stays side i) gave.sent.id
  goes_in_use =
      subst (λ (j : Intake). IsToldId (first_id_of_peer r side) j.took (in_use r stays side i) gave.sent.id) (sym (took_is r honest p.world i side p.sents p.theirs))
      (subst (λ (id : List ℕ). IsToldId (first_id_of_peer r side) (came_to x y).took (in_use r stays side i) id) (sym id_is)
      (subst (λ (n : ℕ). IsToldId (first_id_of_peer r side) (came_to x y).took n x.end.ids.peer.id) (sym (in_use_is r end honest run side stays kept i p.world served p.leads still)) told))

pub ids_are_in_use : (r : Run) (end : World) → IsHonest r → IsRun r end → IdsAreInUse r
ids_are_in_use r end honest run side stays i now gave kept opened = goes_in_use r end honest run side stays kept i now gave opened
