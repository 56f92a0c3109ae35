-- A client takes nothing from elsewhere than where it was told its peer is (RFC 9000, section 9): so it
-- is told whether bytes open, and what is dropped for its address.
use Rattle.std.proofs.Common.{◌≡◌, ℕ, Bool, true, false, List, [], ◌∷◌, take, refl, sym, ap, ◌∙◌, subst}
use Rattle.std.specs.Prelude.{◌↔◌, ◌==◌, ◌&&◌, not}
use Rattle.quic_wire_core.specs.declared.stream_id.Side.{Side}
use Rattle.quic_wire_core.specs.declared.stream_id.Side.TheVariants.{Client, Server}
use Rattle.quic_wire_core.specs.StreamId.{other_side}
use Rattle.quic_machine.specs.declared.run.Call.TheVariants as calls
use Rattle.quic_machine.specs.declared.run.Injection.{Injection}
use Rattle.quic_machine.specs.declared.run.Answer.{Answer}
use Rattle.quic_machine.specs.declared.run.Answer.TheVariants as answers
use Rattle.quic_machine.specs.Migration.{is_client, is_foreign}
use Rattle.quic_machine.specs.Machine.{World, end_at, gave}
use Rattle.quic_machine.specs.RunLaws.{one_run}
use Rattle.quic_headline.specs.Runs.{Run, Told, AreServed, expected_behind, folded, and_told}
use Rattle.quic_headline.specs.Observer.{Route, Watch, Lens, route_behind, watch_sent, watch_given, watch_moment, is_timely, watch_told, took, news, first_watch, serves}
use Rattle.quic_headline.specs.Headline.{IsHonest, IsAt, takes_nothing_from, would_open_at, OpensExactly}
use Rattle.quic_headline.proofs.Packets.Knowing.{expects_in}
use Rattle.quic_headline.proofs.Packets.Watching.{came_with, timed_with, came_quiet, none_comes}
use Rattle.quic_headline.proofs.Places.Parties.{Party, came_to, watch_of, lens}
use Rattle.quic_headline.proofs.Places.Placed.{party_at, Placed, answered}
use Rattle.quic_headline.proofs.Places.Openings.{took_is, opens_by}
use Rattle.quic_headline.proofs.Timers.Watched.{Observed}
use Rattle.quic_machine.specs.CallCases.{is_delivery}

-- ---- where a client's peer is

-- nothing that is told moves it
sent_stays : (b : Bool) (l : Lens) (w : Watch) → (watch_given b l w).route ≡ w.route
sent_stays false l w = refl
sent_stays true l w = go w.left
  where
    go : (ds : List (List ℕ)) → (watch_sent l.taker ds w).route ≡ w.route
    go [] = refl
    go (d ∷ ds) = refl

timed_stays : (b : Bool) (l : Lens) (w : Watch) → (watch_moment b l.terms w).route ≡ w.route
timed_stays true l w = refl
timed_stays false l w = refl

told_stays : (l : Lens) (t : Told) (w : Watch) → l.serves ≡ false → (watch_told l t w).route ≡ w.route
told_stays l t w client =
    sent_stays (gave t.answer) l (timed_with l t w)
    ∙ timed_stays (is_timely t.state t.call) l (came_with l t w)
    ∙ ap (λ (b : Bool). route_behind b w.intake.took (news w.intake (and_told l.own l.peer_gave t w.intake)) t.call w.route) client

-- nor does a call by which nothing comes move the peer of a server
pub quiet_stays : (l : Lens) (t : Told) (w : Watch) → is_delivery t.call ≡ false → (watch_told l t w).route ≡ w.route
quiet_stays l t w apart =
    sent_stays (gave t.answer) l (timed_with l t w)
    ∙ timed_stays (is_timely t.state t.call) l (came_with l t w)
    ∙ ap (λ (v : Watch). v.route) (came_quiet l t w (none_comes l t w.intake apart))

client_stays : (l : Lens) (told : List Told) (w : Watch) → l.serves ≡ false → (folded (watch_told l) told w).route ≡ w.route
client_stays l [] w client = refl
client_stays l (t ∷ told) w client = client_stays l told (watch_told l t w) client ∙ told_stays l t w client

-- ---- at a place

module _ (r : Run) (end : World) (honest : IsHonest r) (side : Side) (i : ℕ) (at : Placed Observed r end side i) where
  abbrev here : Party
  here = party_at r i at.world side at.sents

  abbrev there : Party
  there = party_at r i at.world (other_side side) at.theirs

  -- an end takes nothing from where the lists say so
  pub foreign_is : (remote : ℕ) → is_foreign remote (end_at side at.world) ≡ takes_nothing_from r side remote
  foreign_is remote =
      ap (λ (s : Side). is_client s && not (remote == here.end.path.remote)) at.gives.1.side
      ∙ ap (λ (m : ℕ). is_client side && not (remote == m)) at.gives.1.watched.address
      ∙ go side refl
    where
      go : (s : Side) → side ≡ s → (is_client s && not (remote == (watch_of here there).route.address)) ≡ takes_nothing_from r s remote
      go Client is = ap (λ (route : Route). not (remote == route.address)) (client_stays (lens here there) here.told (first_watch here.final here.began here.made.path.remote here.first_rtt here.initial_delay) (ap serves is)) ∙ ap (λ (x : Side). not (remote == (end_at x r.start).path.remote)) is
      go Server is = refl

  -- an injection is answered by the ids that the end has, and by the number that the lists say
  opens_at : (injection : Injection) (a : Answer) → IsAt r i side (calls.Inject injection) a → (a ≡ answers.Opens) ↔ (would_open_at r at.world side i injection.remote injection.bytes ≡ true)
  opens_at injection a is =
      opens_by here.policy here.end injection a (expected_behind (took r side i)) (takes_nothing_from r side injection.remote)
      (expects_in here.end.closing.state here.end.numbers (came_to here there) at.takes.0.knows ∙ ap (λ (w : _). expected_behind w.took) (sym (took_is r honest at.world i side at.sents at.theirs)))
      (foreign_is injection.remote)
      (answered r at.world end i side (calls.Inject injection) a at.goes_on is)

-- ---- the clauses

module _ (r : Run) (end : World) (honest : IsHonest r) (all : (side : Side) (i : ℕ) → AreServed r i → Placed Observed r end side i) where
  pub opens_exactly : OpensExactly r
  opens_exactly side i w injection a served leads there =
      let at = all side i served in
      let is : w ≡ at.world = (one_run r.keys (take i r.answers) r.start (take i r.events) (take i r.views) (take i r.views) w at.world served leads at.leads).1 in
      subst (λ (v : World). (a ≡ answers.Opens) ↔ (would_open_at r v side i injection.remote injection.bytes ≡ true)) (sym is) (opens_at r end honest side i at injection a there)
