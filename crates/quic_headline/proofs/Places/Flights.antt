-- What the observer of an end knows at each place of a run: how what went was sent, and that an
-- open end waits for what is in flight.
use Rattle.std.proofs.Common.{◌≡◌, ℕ, take, map, sym, ap, ◌∙◌, subst}
use Rattle.quic_wire_core.specs.declared.stream_id.Side.{Side}
use Rattle.quic_wire_core.specs.StreamId.{other_side}
use Rattle.quic_machine.specs.declared.answers.State.TheVariants as states
use Rattle.quic_machine.specs.End.{End}
use Rattle.quic_machine.specs.Machine.{World, end_at}
use Rattle.quic_machine.specs.RunLaws.{one_run}
use Rattle.quic_headline.specs.Runs.{Run, AreServed}
use Rattle.quic_headline.specs.Observer.{Watch, watch, sents_until}
use Rattle.quic_headline.specs.InFlight.{waited_for, in_flight, WaitsFor, TracksInFlight}
use Rattle.quic_headline.specs.Headline.{IsHonest, NumbersRise}
use Rattle.quic_headline.proofs.Packets.Group.{PacketsHold}
use Rattle.quic_headline.proofs.Packets.Sight.{Sight}
use Rattle.quic_headline.proofs.Packets.Waited.{waited_all}
use Rattle.quic_headline.proofs.Places.Parties.{Party, watch_of}
use Rattle.quic_headline.proofs.Places.Groups.{And}
use Rattle.quic_headline.proofs.Places.Placed.{party_at, Placed, watch_is}
use Rattle.quic_headline.proofs.Places.Openings.{rises_at}

module _ (r : Run) (end : World) (honest : IsHonest r) (side : Side) (i : ℕ) (at : Placed Sight r end side i) where
  -- the observer of the end is that of the run
  same_watch : watch r side i ≡ watch_of (party_at r i at.world side at.sents) (party_at r i at.world (other_side side) at.theirs)
  same_watch = watch_is r honest at.world i side at.sents at.theirs

  -- it has what was given as it was sent
  pub own_at : sents_until r side i ≡ at.sents
  own_at = ap (λ (w : Watch). w.own) same_watch ∙ at.gives.own

  -- an open end waits for what is in flight
  pub waits_at : (end_at side at.world).closing.state ≡ states.Open → WaitsFor (end_at side at.world).tracking.packets (in_flight r side i)
  waits_at opened =
      let e : End = end_at side at.world in
      let x : Party = party_at r i at.world side at.sents in
      let y : Party = party_at r i at.world (other_side side) at.theirs in
      subst (λ (w : Watch). WaitsFor e.tracking.packets (map waited_for w.flight.flying)) (sym same_watch)
      (waited_all 0 e.numbers.next (watch_of x y).flight.flying e.tracking.packets (at.gives.stands opened).stands.lies (at.gives.watched.flight opened).tells.waits)

-- ---- the clauses

module _ (r : Run) (end : World) (honest : IsHonest r) (all : (side : Side) (i : ℕ) → AreServed r i → Placed Sight r end side i) where
  -- an end waits for exactly what is in flight, wherever the run leads
  pub tracks_in_flight : TracksInFlight r
  tracks_in_flight i w served leads side =
      let at = all side i served in
      let is : w ≡ at.world = (one_run r.keys (take i r.answers) r.start (take i r.events) (take i r.views) (take i r.views) w at.world served leads at.leads).1 in
      subst (λ (v : World). (end_at side v).closing.state ≡ states.Open → WaitsFor (end_at side v).tracking.packets (in_flight r side i)) (sym is) (waits_at r end honest side i at)

-- the packets of a place, of a group that has more
abbrev packets_of : (r : Run) (end : World) (side : Side) (i : ℕ) → Placed (And PacketsHold Sight) r end side i → Placed PacketsHold r end side i
packets_of r end side i at = record { world = at.world; leads = at.leads; goes_on = at.goes_on; state = at.state; sents = at.sents; theirs = at.theirs; joined = at.joined; gives = at.gives.0; takes = at.takes.0 }

-- what the observers know there
abbrev sight_of : (r : Run) (end : World) (side : Side) (i : ℕ) → Placed (And PacketsHold Sight) r end side i → Placed Sight r end side i
sight_of r end side i at = record { world = at.world; leads = at.leads; goes_on = at.goes_on; state = at.state; sents = at.sents; theirs = at.theirs; joined = at.joined; gives = at.gives.1; takes = at.takes.1 }

-- the numbers of what an end gives rise
pub numbers_rise : (r : Run) (end : World) → IsHonest r → ((side : Side) (i : ℕ) → AreServed r i → Placed (And PacketsHold Sight) r end side i) → NumbersRise r
numbers_rise r end honest all side i served =
    let at = all side i served in
    rises_at r end honest side i (packets_of r end side i at) (own_at r end honest side i (sight_of r end side i at))
