-- Where a poll of an open end gives nothing, window or pacer hold back what has to go by a frame of
-- its own, or nothing more may go to the peer's address: the clauses on RESET_STREAM, STOP_SENDING,
-- HANDSHAKE_DONE and RETIRE_CONNECTION_ID, at each place of an honest run.
use Rattle.std.proofs.Common.{◌≡◌, ◌⊎◌, ℕ, suc, Bool, true, false, ◌&&◌, map, List, take, Option, Some, None, refl, sym, ap, ◌∙◌, subst, inl, inr, arith}
use Rattle.std.specs.Option.{is_some}
use Rattle.std.specs.List.{list_any}
use Rattle.std.proofs.lemmas.Bool.{both_ways}
use Rattle.quic_wire_core.specs.declared.stream_id.Side.{Side}
use Rattle.quic_wire_core.specs.StreamId.{other_side}
use Rattle.quic_streams_parts.specs.Table.{Table, at}
use Rattle.quic_streams_parts.specs.RecvHalf.{RecvHalf}
use Rattle.quic_streams_halves.specs.Halves.{has_place, status_from}
use Rattle.quic_streams_state.specs.declared.state.StreamsState.{StreamsState}
use Rattle.quic_streams_state.specs.State.{is_opened, receives_on}
use Rattle.quic_streams_laws.specs.Each.{HalfIs}
use Rattle.quic_machine.specs.declared.answers.State.TheVariants as states
use Rattle.quic_machine.specs.declared.run.View.{View}
use Rattle.quic_machine.specs.Tracking.{TrackedPacket}
use Rattle.quic_machine.specs.Poll.{asks_to_go}
use Rattle.quic_machine.specs.Machine.{World, end_at}
use Rattle.quic_machine.specs.RunLaws.{one_run}
use Rattle.quic_headline.specs.Runs.{Run, Packet, Intake, In, AreServed, LeadsTo, until}
use Rattle.quic_headline.specs.Observer.{Sent, took}
use Rattle.quic_headline.specs.Headline.{IsHonest, IsRun}
use Rattle.quic_headline.specs.InFlight.{waited_for, WaitsFor}
use Rattle.quic_headline.specs.Polls.{flying, GaveNothing, IsHeldBack, IsLimited}
use Rattle.quic_headline.specs.Unread.{stopped}
use Rattle.quic_headline.specs.Going.{size_came, IsMissing, ControlGoes, RetirementsGo}
use Rattle.quic_headline.proofs.Packets.Quiet.{heard_nothing}
use Rattle.quic_headline.proofs.Places.Parties.{Party, came_to}
use Rattle.quic_headline.proofs.Places.Groups.{Way, And}
use Rattle.quic_headline.proofs.Places.Placed.{party_at, Placed, placed, placed_less}
use Rattle.quic_headline.proofs.Places.Openings.{took_is, took_there}
use Rattle.quic_headline.proofs.Places.Everything as everything
use Rattle.quic_headline.proofs.Places.Theorems.{ready, tracks_in_flight}
use Rattle.quic_headline.proofs.Halves.Ready.{Ready}
use Rattle.quic_headline.proofs.Halves.Arrived.{Arrives}
use Rattle.quic_headline.proofs.Timers.Watched.{Observed}
use Rattle.quic_headline.proofs.Duties.Carrier.{any_is, any_member}
use Rattle.quic_headline.proofs.Duties.Group.{Flying}
use Rattle.quic_headline.proofs.Duties.Halts.{IsHalted}
use Rattle.quic_headline.proofs.Duties.Ledger.{listed_asks}
use Rattle.quic_headline.proofs.Duties.Listed.{Listed, ResetOf, StopOf, RetireOf, DoneOf, says, said, listed_in, again_says, nothing_listed, HasIt, ListedStands}
use Rattle.quic_headline.proofs.Duties.Stopped.{IsAsked}
use Rattle.quic_headline.proofs.Unread.Resting.{found_for, among_waited}
use Rattle.quic_headline.proofs.Unread.Walk.{Of}
use Rattle.quic_headline.proofs.Credit.Clause.{Base, Credits, credited}
use Rattle.quic_headline.proofs.Credit.Counted.{IsAny, IsCounted, IsSpent, Uses}
use Rattle.quic_headline.proofs.Credit.Lists.{Usage, usage}
use Rattle.quic_headline.proofs.NextIds.Used.{in_use_reaches}
use Rattle.quic_headline.proofs.Held.Behind.{open_now, held_back}
use Rattle.quic_headline.proofs.Held.Clause.{held_or_blocked}

-- ---- what is in flight

-- a datagram that is waited for has the frames that are sent again of its packet
tracked_said : (what : Listed) (ps : Table TrackedPacket) (ss : List Sent) → WaitsFor ps (map waited_for ss) → (p : ℕ × TrackedPacket) → In p ps → HasIt what p → list_any (λ (s : Sent). said what s.frames) ss ≡ true
tracked_said what ps ss w p among has =
    let found = found_for ps ss p w.same among in
    let s : Sent = found.0 in
    let number : p.0 ≡ s.number = ap (λ (x : ℕ × TrackedPacket). x.0) found.2 in
    let here : In (p.0, (waited_for s).1) (map waited_for ss) = subst (λ (n : ℕ). In (n, (waited_for s).1) (map waited_for ss)) (sym number) (among_waited s ss found.1) in
    any_is (λ (t : Sent). said what t.frames) s ss found.1 (elim (w.records p.0 p.1 (waited_for s).1 among here) [
      | inl is ↦ sym (again_says what s.frames) ∙ (ap (listed_in what) (sym is) ∙ has)
      | inr is ↦ absurd (both_ways (listed_in what p.1.carried.retransmits) (ap (listed_in what) is ∙ nothing_listed what) has)
    ])

-- ---- a poll that gave nothing

-- all that is known to be under way
abbrev Known : Way
Known = And (And (And (everything.All Ready ready) Arrives) (everything.Said Ready ready)) Flying

module _ (r : Run) (end : World) (honest : IsHonest r) (run : IsRun r end) (side : Side) (i now : ℕ) (v : View) (served : AreServed r (suc i)) (gave : GaveNothing r side i now v) where
  pub place : Placed Known r end side (suc i)
  place = placed Known (everything.all_flying Ready ready) r end honest run side (suc i) served

  abbrev pub x : Party
  x = party_at r (suc i) place.world side place.sents

  abbrev pub y : Party
  y = party_at r (suc i) place.world (other_side side) place.theirs

  abbrev pub came : List Packet
  came = (came_to y x).took

  -- what came is what the other end took
  pub came_is : took r (other_side side) (suc i) ≡ came
  came_is = ap (λ (k : Intake). k.took) (took_there r honest place.world (suc i) side place.sents place.theirs)

  pub opened : x.end.closing.state ≡ states.Open
  opened = open_now r side i now v place.world place.leads gave

  -- each end to which the run leads is that of the place
  pub world_is : (w : World) → LeadsTo r (suc i) w → w ≡ place.world
  world_is w leads = (one_run r.keys (take (suc i) r.answers) r.start (take (suc i) r.events) (take (suc i) r.views) (take (suc i) r.views) w place.world served leads place.leads).1

  -- what asks to go is held back
  pub asking_held : (w : World) → LeadsTo r (suc i) w → asks_to_go (end_at side w) ≡ true → IsHeldBack r side (suc i) v ⊎ IsLimited r side (suc i) v
  asking_held w leads asks =
      held_or_blocked r end honest run (λ by j there. placed_less Known Observed r end by j (λ p q h. (h.0.0.0.0.0, h.0.0.0.1)) (placed Known (everything.all_flying Ready ready) r end honest run by j there)) (heard_nothing r honest) side i now v place.world served place.leads gave
      (held_back Known (record { packets = λ p q h. h.0.0.0.0.0; sight = λ p q h. h.0.0.0.1 }) r end honest side i now v place gave (λ none. subst (λ (u : World). asks_to_go (end_at side u) ≡ true) (world_is w leads) asks))

  -- so is what waits in a list, where it isn't in flight, nor came
  pub listed_held : (what : Listed) → ListedStands came what x.end → IsMissing r side (suc i) (says what) → IsHeldBack r side (suc i) v ⊎ IsLimited r side (suc i) v
  listed_held what (inl waits) missing = asking_held place.world place.leads (listed_asks x.end what waits)
  listed_held what (inr (inl flies)) missing =
      let found = any_member (HasIt what) x.end.tracking.packets flies in
      let waited : WaitsFor x.end.tracking.packets (map waited_for (flying r side (suc i))) = tracks_in_flight r end honest run (suc i) place.world served place.leads side opened in
      absurd (both_ways (list_any (λ (s : Sent). said what s.frames) (flying r side (suc i))) missing.not_flying (tracked_said what x.end.tracking.packets (flying r side (suc i)) waited found.0 found.1 found.2))
  listed_held what (inr (inr here)) missing =
      let stood : list_any (λ (p : Packet). said what p.frames) came ≡ true = any_is (λ (p : Packet). said what p.frames) here.packet came here.was_taken here.carried in
      absurd (both_ways (list_any (λ (p : Packet). said what p.frames) came) (ap (λ (ps : List Packet). list_any (λ (p : Packet). said what p.frames) ps) (sym came_is) ∙ missing.not_come) stood)

  -- ---- a stream that was stopped

  abbrev s : StreamsState
  s = x.end.streams

  abbrev pub u : Usage
  u = usage (took r side (suc i)) (until r side (suc i))

  -- what is known of the halves of streams that receive, by the lists
  pub counted : (w : World) → LeadsTo r (suc i) w → (wide : ℕ) × (each_wide : ℕ) × Of (Uses wide each_wide u) (end_at side w).streams
  counted w leads =
      let c : Placed (And Base Credits) r end side (suc i) = placed (And Base Credits) credited r end honest run side (suc i) served in
      let a : Party = party_at r (suc i) c.world side c.sents in
      let b : Party = party_at r (suc i) c.world (other_side side) c.theirs in
      let same : c.world ≡ place.world = world_is c.world c.leads in
      let here : took r side (suc i) ≡ (came_to a b).took = ap (λ (k : Intake). k.took) (took_is r honest c.world (suc i) side c.sents c.theirs) in
      let uses : Of (Uses a.made.streams.receiving.window a.made.streams.receiving.stream_window (usage (came_to a b).took (until r side (suc i)))) a.end.streams = c.takes.1.still (ap (λ (z : World). (end_at side z).closing.state) same ∙ opened) in (
        a.made.streams.receiving.window,
        a.made.streams.receiving.stream_window,
        subst (λ (z : World). Of (Uses a.made.streams.receiving.window a.made.streams.receiving.stream_window u) (end_at side z).streams) (same ∙ sym (world_is w leads))
            (subst (λ (ps : List Packet). Of (Uses a.made.streams.receiving.window a.made.streams.receiving.stream_window (usage ps (until r side (suc i)))) a.end.streams) (sym here) uses),
      )

  -- the final size of each is known only where it came
  sized : (final : ℕ → ℕ) × ((id : ℕ) → HalfIs (IsAny id) (IsCounted u id) (IsSpent u id (final id)) (at s.receiving.halves.live id) (has_place s.side s.receiving.halves.places id))
  sized = (let c = counted place.world place.leads in (c.2.sums.final, c.2.sums.each))

  -- where the final size of such a stream didn't come, STOP_SENDING waits, is in flight, or came
  stop_stands : (id : ℕ) → stopped id (until r side (suc i)) ≡ true → size_came id (took r side (suc i)) ≡ false → ListedStands came (StopOf id) x.end
  stop_stands id halted open_end = go (at s.receiving.halves.live id) (receives_on s.side id && is_opened s id) (has_place s.side s.receiving.halves.places id) (place.gives.1.halts.halted.each id) (place.gives.1.stops.each id) (sized.1 id)
    where
      unsized : (h : RecvHalf) → IsCounted u id h → (o : Option ℕ) → h.final ≡ o → o ≡ None
      unsized h c None is = refl
      unsized h c (Some size) is = absurd (both_ways (size_came id (took r side (suc i))) open_end (c.sized (inl (ap is_some is))))

      go : (o : Option RecvHalf) (m used : Bool) → IsHalted (stopped id (until r side (suc i))) (status_from o m used) → IsAsked (λ q. ListedStands came (StopOf q) x.end) id (status_from o m used) → HalfIs (IsAny id) (IsCounted u id) (IsSpent u id (sized.0 id)) o used → ListedStands came (StopOf id) x.end
      go (Some h) m used stops asked c = asked.1 (stops halted) (unsized h c h.final refl)
      go None m true stops asked c = absurd (both_ways (size_came id (took r side (suc i))) open_end c.3)
      go None true false stops asked c = absurd (both_ways (stopped id (until r side (suc i))) stops halted)
      go None false false stops asked c = absurd (both_ways (stopped id (until r side (suc i))) stops halted)

-- ---- the clauses

pub control_goes : (r : Run) (end : World) → IsHonest r → IsRun r end → ControlGoes r
control_goes r end honest run = record {
  reset = λ side i now id v served gave some missing. listed_held r end honest run side i now v served gave (ResetOf id) ((place r end honest run side i now v served gave).gives.1.resets id some) missing;
  stop = λ side i now id v served gave halted open_end missing. listed_held r end honest run side i now v served gave (StopOf id) (stop_stands r end honest run side i now v served gave id halted open_end) missing;
  done = λ side i now v served gave told missing. listed_held r end honest run side i now v served gave DoneOf ((place r end honest run side i now v served gave).gives.1.done told) missing;
}

pub retirements_go : (r : Run) (end : World) → IsHonest r → IsRun r end → RetirementsGo r
retirements_go r end honest run side stays i now number v kept served gave below missing =
    let at_place = place r end honest run side i now v served gave in
    let reach = in_use_reaches r end honest run side stays kept (suc i) at_place.world served at_place.leads in
    listed_held r end honest run side i now v served gave (RetireOf number) (at_place.gives.1.ids (RetireOf number) (omega (arith, below, reach))) missing
