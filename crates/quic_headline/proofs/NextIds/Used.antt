-- Which id of its peer an end uses, by the run's lists and by where it is known that the id stayed as
-- the path changed: at each place of an honest run it is the one that the end uses, while it is open,
-- and no greater one is used before (RFC 9000, sections 5.1.2 and 9.5).
use Rattle.std.proofs.Common.{◌≡◌, ℕ, zero, suc, ◌≤◌, Bool, true, false, List, [], ◌∷◌, length, take, Some, Ok, refl, sym, ap, ◌∙◌, subst, inl, inr, arith, ◌++◌, drop}
use Rattle.std.specs.Prelude.{◌↔◌, ◌==◌, not, slice_get, unwrap_or}
use Rattle.std.proofs.lemmas.Bool.{eq-eqb, cases_lt, eqb-true, not-false}
use Rattle.quic_wire_core.specs.declared.stream_id.Side.{Side}
use Rattle.quic_wire_core.specs.StreamId.{other_side}
use Rattle.quic_ids.specs.CidQueue.{PeerIds}
use Rattle.quic_machine.specs.declared.answers.State.{State}
use Rattle.quic_machine.specs.declared.answers.State.TheVariants as states
use Rattle.quic_machine.specs.declared.run.RunEvent.{RunEvent}
use Rattle.quic_machine.specs.declared.run.View.{View}
use Rattle.quic_machine.specs.declared.run.Call.{Call}
use Rattle.quic_machine.specs.declared.run.Call.TheVariants as calls
use Rattle.quic_machine.specs.declared.run.Answer.{Answer}
use Rattle.quic_machine.specs.declared.run.Answer.TheVariants as answers
use Rattle.quic_machine.specs.End.{End}
use Rattle.quic_machine.specs.IdFrames.{end_on_next_id, next_id_answer}
use Rattle.quic_machine.specs.Migration.{has_moved}
use Rattle.quic_machine.specs.CallCases.{is_delivery, uses_next_id}
use Rattle.quic_machine.specs.Machine.{World, IsStep, Follows, end_at, control_at, heard_at, fails}
use Rattle.quic_headline.specs.Runs.{Run, Told, Packet, same_side, given_of, until, state_at, AreServed, LeadsTo, folded, Intake, told_at}
use Rattle.quic_headline.specs.Observer.{Watch, Lens, watch_from, watch_told, watch, lens_of, has_changed, took, generation_at, path_changes, first_watch, Route}
use Rattle.quic_headline.specs.Headline.{IsHonest, IsRun}
use Rattle.quic_headline.specs.InUse.{brought, next_of, next_in, used_behind, used_on, Using, using_told, in_use, TellsStays}
use Rattle.quic_headline.specs.Polls.{IsMade}
use Rattle.quic_headline.proofs.Packets.Intakes.{folded_more}
use Rattle.quic_headline.proofs.Packets.OfPeer.{peer_same}
use Rattle.quic_headline.proofs.Places.Parties.{told_of, Party, called, came_to, lens}
use Rattle.quic_headline.proofs.Places.Groups.{Way, Nothing, And, Group, both, Calls}
use Rattle.quic_headline.proofs.Places.Moments.{told_none}
use Rattle.quic_headline.proofs.Places.Placed.{party_at, placed, start_is, stands_in}
use Rattle.quic_headline.proofs.Places.Everything as everything
use Rattle.quic_headline.proofs.Places.Theorems.{ready}
use Rattle.quic_headline.proofs.Halves.Ready.{Ready}
use Rattle.quic_headline.proofs.Steps.Made.{made_end, served_before, one_behind, CallHolds, call_holds, calling, reads_state, left_at, reads_either, whole}
use Rattle.quic_headline.proofs.Steps.Along.{along, own_told}
use Rattle.quic_headline.proofs.Timers.Still.{was_open}
use Rattle.quic_headline.proofs.Moves.Route.{changes_at}
use Rattle.quic_headline.proofs.NextIds.Peer.{active_is}
use Rattle.quic_headline.proofs.NextIds.Coming.{next_peer}
use Rattle.quic_headline.proofs.NextIds.Group.{NextKnown, next_group, others_use, AfterDelivery, delivery_leaves, reaches_call, same_answer}
use Rattle.std.specs.List.{list_any}
use Rattle.std.proofs.lemmas.List.{take_all}
use Rattle.std.proofs.Math.ListN.{drop_of_length-le}
use Rattle.quic_machine.specs.declared.run.Delivery.{Delivery}
use Rattle.quic_machine.specs.RunLaws.{as_many_views}
use Rattle.quic_headline.proofs.Packets.Watching.{watched_intake}
use Rattle.quic_headline.proofs.Places.Coming.{came_same}
use Rattle.quic_headline.proofs.Rest.Between.{step_leaves}
use Rattle.quic_headline.proofs.Moves.Foreign.{quiet_stays}

-- ---- the group, over all that holds between the ends

abbrev pub All : Way
All = And (everything.All Ready ready) NextKnown

pub all : Group Nothing All
all = both Nothing (everything.All Ready ready) NextKnown (everything.all Ready ready) (next_group (And Nothing (everything.All Ready ready)) (λ x y h. h.1.0.0))

-- ---- by the lists

-- the observer is that of the end
using_watch : (l : Lens) (stays : ℕ → Bool) (told : List Told) (u : Using) → (folded (using_told l stays) told u).watch ≡ folded (watch_told l) told u.watch
using_watch l stays [] u = refl
using_watch l stays (t ∷ told) u = using_watch l stays told (using_told l stays t u)

module _ (r : Run) (side : Side) (stays : ℕ → Bool) where
  abbrev first : Using
  first = record { watch = watch_from (end_at side r.start) (given_of r side); number = 0 }

  -- what is used behind a call, where the observer knows this before it, and this behind it
  abbrev behind : Told → ℕ → Watch → Watch → ℕ
  behind t number before after = used_on (has_changed before after) (stays after.route.generation) after.intake.took (used_behind t.answer t.state after.intake.took number)

  -- one call more
  in_use_called : (i : ℕ) (t : Told) → until r side (suc i) ≡ until r side i ++ t ∷ [] → in_use r stays side (suc i) ≡ behind t (in_use r stays side i) (watch r side i) (watch r side (suc i))
  in_use_called i t told =
      let l : Lens = lens_of r side in
      ap (λ (us : List Told). (folded (using_told l stays) us first).number) told
      ∙ ap (λ (u : Using). u.number) (folded_more (using_told l stays) (until r side i) t first)
      ∙ ap (λ (v : Watch). behind t (in_use r stays side i) v (watch_told l t v)) (using_watch l stays (until r side i) first)
      ∙ ap (λ (v : Watch). behind t (in_use r stays side i) (watch r side i) v) (sym (folded_more (watch_told l) (until r side i) t first.watch) ∙ ap (λ (us : List Told). folded (watch_told l) us first.watch) (sym told))

-- ---- along the places of a run

module _ (r : Run) (end : World) (honest : IsHonest r) (run : IsRun r end) (side : Side) (stays : ℕ → Bool) (kept : TellsStays r side stays) where
  -- an end uses no lesser one, and that one while it is open
  abbrev Uses : ℕ → World → Type 0
  Uses i w = let e : End = end_at side w in (in_use r stays side i ≤ e.ids.peer.active) × (e.closing.state ≡ states.Open → in_use r stays side i ≡ e.ids.peer.active)

  -- the first, before the first event
  uses_first : Uses zero r.start
  uses_first =
      let none : in_use r stays side zero ≡ 0 = ap (λ (us : List Told). (folded (using_told (lens_of r side) stays) us (first r side stays)).number) (told_none side r.events r.views (end_at side r.start).closing.state) in
      let made : (end_at side r.start).ids.peer.active ≡ 0 = ap (λ (e : End). e.ids.peer.active) (start_is r.start honest.start side) in
      (omega (arith, none, made), λ opened. none ∙ sym made)

  -- a call of its own
  module _ (i : ℕ) (call : Call) (a : Answer) (w next : World) (m : IsMade r i side call a w next) (leads : LeadsTo r (suc i) next) (before : Uses i w) where
    h : CallHolds All r i side call a w
    h = call_holds All all r end honest run i side call a w next (λ id uses. honest.ids side i id call a m.at uses) (run.codes (record { side = side; call = call }) (stands_in r.events i (record { side = side; call = call }) m.at.event)) m

    abbrev x : Party
    x = calling r i w side call h.sents

    abbrev y : Party
    y = party_at r i w (other_side side) h.theirs

    abbrev after : Party
    after = called x y.given call a

    c : Calls All x y call a
    c = whole All r i side call a w h

    -- the ends of the run are those
    left : end_at side next ≡ left_at r side w call a
    left = made_end r i side call a w next m

    active_before : x.end.ids.peer.active ≡ (end_at side w).ids.peer.active
    active_before = reads_either (λ (e : End). e.ids.peer.active ≡ (end_at side w).ids.peer.active) (control_at side w) (heard_at side w) call (end_at side w) refl refl

    active_behind : (end_at side next).ids.peer.active ≡ after.end.ids.peer.active
    active_behind = ap (λ (e : End). e.ids.peer.active) left

    state_before : x.end.closing.state ≡ (end_at side w).closing.state
    state_before = reads_state (control_at side w) (heard_at side w) call (end_at side w)

    state_behind : (end_at side next).closing.state ≡ after.end.closing.state
    state_behind = ap (λ (e : End). e.closing.state) left

    -- the state that is told
    told_state : x.end.closing.state ≡ state_at r side i
    told_state =
        let served = served_before r.answers i m.served in
        let at = placed All all r end honest run side i served in
        state_before ∙ ap (λ (v : World). (end_at side v).closing.state) (sym (one_behind r i at.world w served at.leads m.leads)) ∙ at.state

    abbrev t : Told
    t = told_of call a (state_at r side i)

    abbrev number : ℕ
    number = in_use r stays side i

    used_at : number ≤ x.end.ids.peer.active
    used_at = let low = before.0 in let same = active_before in omega (arith, low, same)

    used_open : x.end.closing.state ≡ states.Open → number ≡ x.end.ids.peer.active
    used_open opened = before.1 (sym state_before ∙ opened) ∙ sym active_before

    abbrev packets : List Packet
    packets = (came_to after y).took

    -- what the observer knows that was taken
    took_is_so : took r side (suc i) ≡ packets
    took_is_so = ap (λ (v : Watch). v.intake.took) h.seen_behind ∙ ap (λ (j : Intake). j.took) (watched_intake (lens x y) after.told (first_watch x.final x.began x.made.path.remote x.first_rtt x.initial_delay))

    -- what is used behind the call
    next_is_so : in_use r stays side (suc i) ≡ used_on (path_changes r side i) (stays (generation_at r side (suc i))) packets (used_behind a (state_at r side i) packets number)
    next_is_so = in_use_called r side stays i t (own_told r end run side i call a w next m)
        ∙ ap (λ (ps : List Packet). used_on (path_changes r side i) (stays (generation_at r side (suc i))) ps (used_behind a (state_at r side i) ps number)) took_is_so

    -- where these are told of the end behind the call
    behind_so : in_use r stays side (suc i) ≤ after.end.ids.peer.active → (after.end.closing.state ≡ states.Open → in_use r stays side (suc i) ≡ after.end.ids.peer.active) → Uses (suc i) next
    behind_so low opens = (
      (let same = active_behind in omega (arith, low, same)),
      λ opened. opens (sym state_behind ∙ opened) ∙ sym active_behind,
    )

    -- a call by which nothing comes leaves the path
    pub still : is_delivery call ≡ false → path_changes r side i ≡ false
    still apart =
        let l : Lens = lens_of r side in
        let more : watch r side (suc i) ≡ watch_told l t (watch r side i) =
        ap (λ (us : List Told). folded (watch_told l) us (first r side stays).watch) (own_told r end run side i call a w next m) ∙ folded_more (watch_told l) (until r side i) t (first r side stays).watch in
        ap (λ (v : Watch). has_changed (watch r side i) v) more
        ∙ ap (λ (route : Route). not (route.generation == generation_at r side i)) (quiet_stays l t (watch r side i) apart)
        ∙ ap (λ (b : Bool). not b) (eq-eqb (generation_at r side i) (generation_at r side i) refl)

    -- so the id in use changes only where the next is asked for
    quiet_next : is_delivery call ≡ false → in_use r stays side (suc i) ≡ used_behind a (state_at r side i) packets number
    quiet_next apart = next_is_so ∙ ap (λ (b : Bool). used_on b (stays (generation_at r side (suc i))) packets (used_behind a (state_at r side i) packets number)) (still apart)

    -- neither a delivery nor a call for the next id
    uses_apart : is_delivery call ≡ false → uses_next_id call ≡ false → Uses (suc i) next
    uses_apart apart other =
        let same : in_use r stays side (suc i) ≡ number = quiet_next apart ∙ others_use (state_at r side i) packets number x.policy x.end y.given call a other c.answer in
        let peer : after.end.ids.peer.active ≡ x.end.ids.peer.active = ap (λ (p : PeerIds). p.active) (peer_same x.policy x.end y.given call a apart other) in
        behind_so (let low = used_at in omega (arith, low, same, peer)) (λ opened. same ∙ used_open (was_open x.policy x.end y.given call a opened) ∙ sym peer)

    -- what is known of the ids of its peer
    knows : NextKnown x y
    knows = c.gives.1

  -- a call for the next id
  uses_next : (i : ℕ) (a : Answer) (w next : World) → IsMade r i side calls.UseNextId a w next → LeadsTo r (suc i) next → Uses i w → Uses (suc i) next
  uses_next i a w next m leads before =
      by_state (state_at r side i) refl a refl
    where
      z : Party
      z = x i calls.UseNextId a w next m leads before

      u : Party
      u = y i calls.UseNextId a w next m leads before

      ps : List Packet
      ps = packets i calls.UseNextId a w next m leads before

      n : ℕ
      n = in_use r stays side i

      to : in_use r stays side (suc i) ≡ used_behind a (state_at r side i) ps n
      to = quiet_next i calls.UseNextId a w next m leads before refl

      c_is : Calls All z u calls.UseNextId a
      c_is = c i calls.UseNextId a w next m leads before

      q : PeerIds
      q = z.end.ids.peer

      e : End
      e = (called z u.given calls.UseNextId a).end

      -- as behind that answer
      left_as : (b : Answer) → a ≡ b → e.ids.peer ≡ (end_on_next_id z.end b).ids.peer
      left_as b same = ap (λ (d : Answer). (end_on_next_id z.end d).ids.peer) same

      rises : z.end.ids.peer.active ≤ e.ids.peer.active
      rises = (reaches_call All (λ v t h. h.0.0.0) z u calls.UseNextId a c_is c_is.gives.1 c_is.takes.1).least

      low : n ≤ q.active
      low = used_at i calls.UseNextId a w next m leads before

      opens_before : e.closing.state ≡ states.Open → z.end.closing.state ≡ states.Open
      opens_before opened = was_open z.policy z.end u.given calls.UseNextId a opened

      state_told : z.end.closing.state ≡ state_at r side i
      state_told = told_state i calls.UseNextId a w next m leads before

      unused : (b : Answer) → a ≡ b → used_behind a (state_at r side i) ps n ≡ n → (end_on_next_id z.end b).ids.peer ≡ q → Uses (suc i) next
      unused b same none peer =
          let stays_so : e.ids.peer.active ≡ q.active = ap (λ (p : PeerIds). p.active) (left_as b same ∙ peer) in
          behind_so i calls.UseNextId a w next m leads before (let used : in_use r stays side (suc i) ≡ n = to ∙ none in omega (arith, low, used, stays_so))
          (λ opened. to ∙ none ∙ used_open i calls.UseNextId a w next m leads before (opens_before opened) ∙ sym stays_so)

      -- an end that isn't open uses none that the lists count
      not_open : (s : State) → state_at r side i ≡ s → (s ≡ states.Open → ⊥) → (done : _) → a ≡ answers.UseNextId (Ok done) → used_behind (answers.UseNextId (Ok done)) s ps n ≡ n → Uses (suc i) next
      not_open s is closed done same none =
          let used : in_use r stays side (suc i) ≡ n = to ∙ ap (λ (b : Answer). used_behind b (state_at r side i) ps n) same ∙ ap (λ (t : State). used_behind (answers.UseNextId (Ok done)) t ps n) is ∙ none in
          let up = rises in
          behind_so i calls.UseNextId a w next m leads before (omega (arith, low, used, up)) (λ opened. absurd (closed (sym is ∙ sym state_told ∙ opens_before opened)))

      by_state : (s : State) → state_at r side i ≡ s → (b : Answer) → a ≡ b → Uses (suc i) next
      by_state states.Open is (answers.UseNextId (Ok done)) same =
          let opened : z.end.closing.state ≡ states.Open = state_told ∙ is in
          let is_number : n ≡ q.active = used_open i calls.UseNextId a w next m leads before opened in
          let numbers : brought (came_to z u).took ≡ brought ps = ap (λ (j : Intake). brought j.took) (sym (came_same z u calls.UseNextId a refl)) in
          let used : in_use r stays side (suc i) ≡ e.ids.peer.active =
          to
          ∙ ap (λ (b : Answer). used_behind b (state_at r side i) ps n) same
          ∙ ap (λ (t : State). used_behind (answers.UseNextId (Ok done)) t ps n) is
          ∙ ap (λ (k : ℕ). next_in ps k) is_number
          ∙ ap (λ (ns : List ℕ). unwrap_or (next_of q.active ns) q.active) (sym numbers)
          ∙ sym (active_is (brought (came_to z u).took) q (c_is.gives.1.knows opened))
          ∙ sym (ap (λ (p : PeerIds). p.active) (left_as (answers.UseNextId (Ok done)) same ∙ next_peer z.end)) in
          behind_so i calls.UseNextId a w next m leads before (omega (arith, used)) (λ still_open. used)
      by_state states.Closing is (answers.UseNextId (Ok done)) same = not_open states.Closing is (λ opened. cc) done same refl
      by_state states.Drained is (answers.UseNextId (Ok done)) same = not_open states.Drained is (λ opened. cc) done same refl
      by_state states.Failed is (answers.UseNextId (Ok done)) same = not_open states.Failed is (λ opened. cc) done same refl
      by_state s is b same = unused b same (ap (λ (d : Answer). used_behind d (state_at r side i) ps n) same) refl

  -- a delivery
  module _ (i : ℕ) (delivery : Delivery) (a : Answer) (w next : World) (m : IsMade r i side (calls.Deliver delivery) a w next) (leads : LeadsTo r (suc i) next) (before : Uses i w) where
    abbrev call_is : Call
    call_is = calls.Deliver delivery

    abbrev z : Party
    z = x i call_is a w next m leads before

    abbrev u : Party
    u = y i call_is a w next m leads before

    abbrev e : End
    e = (called z u.given call_is a).end

    abbrev ps : List Packet
    ps = packets i call_is a w next m leads before

    abbrev n : ℕ
    n = in_use r stays side i

    c_is : Calls All z u call_is a
    c_is = c i call_is a w next m leads before

    leaves : AfterDelivery z.end e (came_to (called z u.given call_is a) u)
    leaves = delivery_leaves All (λ v t h. h.0.0.0) z u delivery a c_is c_is.gives.1 c_is.takes.1

    low : n ≤ z.end.ids.peer.active
    low = used_at i call_is a w next m leads before

    number_is : z.end.closing.state ≡ states.Open → n ≡ z.end.ids.peer.active
    number_is = used_open i call_is a w next m leads before

    opens_before : e.closing.state ≡ states.Open → z.end.closing.state ≡ states.Open
    opens_before opened = was_open z.policy z.end u.given call_is a opened

    -- the path changes as the run says
    moves_as : path_changes r side i ≡ not (e.path.generation == z.end.path.generation)
    moves_as = changes_at r end honest run side i w next m.served m.leads leads ∙ ap (λ (f : End). has_moved (end_at side w) f) (left i call_is a w next m leads before)

    -- that is, where it is another one
    agrees : path_changes r side i ≡ false → e.path.generation ≡ z.end.path.generation
    agrees is = eqb-true e.path.generation z.end.path.generation (not-false (e.path.generation == z.end.path.generation) (sym moves_as ∙ is))

    differs : path_changes r side i ≡ true → e.path.generation ≡ z.end.path.generation → ⊥
    differs is same =
        let equal : (e.path.generation == z.end.path.generation) ≡ true = eq-eqb e.path.generation z.end.path.generation same in
        let clash : true ≡ false = sym is ∙ moves_as ∙ ap (λ (b : Bool). not b) equal in
        cc

    -- only an open end changes its path
    opened_if : (e.path.generation ≡ z.end.path.generation → ⊥) → e.closing.state ≡ states.Open
    opened_if apart = go_state e.closing.state refl
      where
        go_state : (s : State) → e.closing.state ≡ s → e.closing.state ≡ states.Open
        go_state states.Open is = is
        go_state states.Closing is = absurd (apart (leaves.stays (λ opened. (let clash : states.Closing ≡ states.Open = sym is ∙ opened in cc))))
        go_state states.Drained is = absurd (apart (leaves.stays (λ opened. (let clash : states.Drained ≡ states.Open = sym is ∙ opened in cc))))
        go_state states.Failed is = absurd (apart (leaves.stays (λ opened. (let clash : states.Failed ≡ states.Open = sym is ∙ opened in cc))))

    told : path_changes r side i ≡ true → (stays (generation_at r side (suc i)) ≡ true) ↔ (e.ids.peer.active ≡ z.end.ids.peer.active)
    told changes = subst (λ (k : ℕ). (stays (generation_at r side (suc i)) ≡ true) ↔ (k ≡ z.end.ids.peer.active)) (active_behind i call_is a w next m leads before) (kept i w next m.served m.leads leads changes)

    uses_delivered : Uses (suc i) next
    uses_delivered = go (path_changes r side i) refl (stays (generation_at r side (suc i))) refl
      where
        to : in_use r stays side (suc i) ≡ used_on (path_changes r side i) (stays (generation_at r side (suc i))) ps n
        to = next_is_so i call_is a w next m leads before ∙ ap (λ (k : ℕ). used_on (path_changes r side i) (stays (generation_at r side (suc i))) ps k) (others_use (state_at r side i) ps n z.policy z.end u.given call_is a refl c_is.answer)

        settle : in_use r stays side (suc i) ≤ e.ids.peer.active → (e.closing.state ≡ states.Open → in_use r stays side (suc i) ≡ e.ids.peer.active) → Uses (suc i) next
        settle = behind_so i call_is a w next m leads before

        moved : (b : Bool) → path_changes r side i ≡ true → in_use r stays side (suc i) ≡ used_on true b ps n → stays (generation_at r side (suc i)) ≡ b → in_use r stays side (suc i) ≡ e.ids.peer.active
        moved true changes used kept_so = used ∙ number_is (opens_before (opened_if (differs changes))) ∙ sym ((told changes).0 kept_so)
        moved false changes used kept_so = elim (leaves.next (opened_if (differs changes))) [
          | inl same ↦ (let clash : true ≡ false = sym ((told changes).1 same) ∙ kept_so in cc)
          | inr is ↦ used ∙ ap (λ (k : ℕ). next_in ps k) (number_is (opens_before (opened_if (differs changes)))) ∙ sym is
        ]

        go : (changes : Bool) → path_changes r side i ≡ changes → (b : Bool) → stays (generation_at r side (suc i)) ≡ b → Uses (suc i) next
        go false is b kept_so =
            let used : in_use r stays side (suc i) ≡ n = to ∙ ap (λ (d : Bool). used_on d (stays (generation_at r side (suc i))) ps n) is in
            let rises = leaves.reaches.least in
            settle (omega (arith, low, used, rises)) (λ opened. used ∙ number_is (opens_before opened) ∙ sym (leaves.same opened (agrees is)))
        go true is b kept_so =
            let used : in_use r stays side (suc i) ≡ used_on true b ps n = to ∙ ap (λ (d : Bool). used_on d (stays (generation_at r side (suc i))) ps n) is ∙ ap (λ (d : Bool). used_on true d ps n) kept_so in
            let same : in_use r stays side (suc i) ≡ e.ids.peer.active = moved b is used kept_so in
            settle (omega (arith, same)) (λ opened. same)

    -- where the id stays though the path changes, the next one couldn't be used
    pub stays_refused : path_changes r side i ≡ true → stays (generation_at r side (suc i)) ≡ true → ((end_at side next).closing.state ≡ states.Open) × (next_id_answer (end_at side next) ≡ Ok tt → ⊥)
    stays_refused changes kept_so =
        let opened : e.closing.state ≡ states.Open = opened_if (differs changes) in (
          state_behind i call_is a w next m leads before ∙ opened,
          λ may. leaves.refused opened (differs changes) ((told changes).0 kept_so) (sym (same_answer e (left_at r side w call_is a) refl refl) ∙ sym (ap (λ (f : End). next_id_answer f) (left i call_is a w next m leads before)) ∙ may),
        )

  uses_own : (i : ℕ) (call : Call) (a : Answer) (w next : World) → IsMade r i side call a w next → LeadsTo r (suc i) next → Uses i w → Uses (suc i) next
  uses_own i calls.UseNextId a w next m leads before = uses_next i a w next m leads before
  uses_own i (calls.Deliver delivery) a w next m leads before = uses_delivered i delivery a w next m leads before
  uses_own i call a w next m leads before = uses_apart i call a w next m leads before refl refl

  uses_other : (i : ℕ) (event : RunEvent) (a : Answer) (w next : World) → slice_get r.events i ≡ Some event → same_side event.side side ≡ false → IsStep r.keys w event a next → until r side (suc i) ≡ until r side i → Uses i w → Uses (suc i) next
  uses_other i event a w next at other step told before =
      let same : in_use r stays side (suc i) ≡ in_use r stays side i = ap (λ (us : List Told). (folded (using_told (lens_of r side) stays) us (first r side stays)).number) told in
      let end_same : end_at side next ≡ end_at side w = (step_leaves side r.keys w next event a other step).end in
      let active : (end_at side next).ids.peer.active ≡ (end_at side w).ids.peer.active = ap (λ (e : End). e.ids.peer.active) end_same in (
        (let low = before.0 in omega (arith, low, same, active)),
        λ opened. same ∙ before.1 (sym (ap (λ (e : End). e.closing.state) end_same) ∙ opened) ∙ sym active,
      )

  -- at each place behind which there is a view, or the last one
  uses_within : (i : ℕ) (w : World) → i ≤ length r.views → AreServed r i → LeadsTo r i w → Uses i w
  uses_within = along r end run side Uses (record { first = uses_first; own = uses_own; other = uses_other })

  -- and behind them
  pub uses_at : (i : ℕ) (w : World) → AreServed r i → LeadsTo r i w → Uses i w
  uses_at i w served leads = elim (cases_lt (length r.views) i) [
    | inl past ↦ at_end (omega (arith, past))
    | inr within ↦ uses_within i w within served leads
  ]
    where
      told : List Answer → List Told
      told said = told_at side (end_at side r.start).closing.state r.events said r.views

      -- the run has come to its end
      ended : (k : ℕ) (v : World) → length r.views ≤ k → AreServed r k → LeadsTo r k v → end ≡ v
      ended k v past served_k leads_k =
          let at = placed All all r end honest run side k served_k in
          let many : length r.views ≡ length r.answers = as_many_views r.keys r.start end r.events r.answers r.views run.follows in
          subst (λ (vs : List View). Follows r.keys at.world (drop k r.events) [] vs end) (drop_of_length-le r.views past)
          (subst (λ (said : List Answer). Follows r.keys at.world (drop k r.events) said (drop k r.views) end) (drop_of_length-le r.answers (omega (arith, many, past))) at.goes_on)
          ∙ one_behind r k at.world v served_k at.leads leads_k

      at_end : length r.views ≤ i → Uses i w
      at_end past =
          let many : length r.views ≡ length r.answers = as_many_views r.keys r.start end r.events r.answers r.views run.follows in
          let same : take (length r.views) r.answers ≡ take i r.answers = take_all (length r.views) r.answers (omega (arith, many)) ∙ sym (take_all i r.answers (omega (arith, many, past))) in
          let served_last : AreServed r (length r.views) = subst (λ (said : List Answer). list_any fails said ≡ false) (sym same) served in
          let at = placed All all r end honest run side (length r.views) served_last in
          let there : at.world ≡ w = sym (ended (length r.views) at.world (omega arith) served_last at.leads) ∙ ended i w past served leads in
          subst (λ (said : List Answer). let used = (folded (using_told (lens_of r side) stays) (told said) (first r side stays)).number in let e : End = end_at side w in (used ≤ e.ids.peer.active) × (e.closing.state ≡ states.Open → used ≡ e.ids.peer.active)) same
          (subst (λ (v : World). Uses (length r.views) v) there (uses_within (length r.views) at.world (omega arith) served_last at.leads))

-- ---- at each place

-- it uses the one that the lists say, while it is open
pub in_use_is : (r : Run) (end : World) → IsHonest r → IsRun r end → (side : Side) (stays : ℕ → Bool) → TellsStays r side stays → (i : ℕ) (w : World) → AreServed r i → LeadsTo r i w → (end_at side w).closing.state ≡ states.Open → in_use r stays side i ≡ (end_at side w).ids.peer.active
in_use_is r end honest run side stays kept i w served leads opened = (uses_at r end honest run side stays kept i w served leads).1 opened

-- and no lesser one in any state
pub in_use_reaches : (r : Run) (end : World) → IsHonest r → IsRun r end → (side : Side) (stays : ℕ → Bool) → TellsStays r side stays → (i : ℕ) (w : World) → AreServed r i → LeadsTo r i w → in_use r stays side i ≤ (end_at side w).ids.peer.active
in_use_reaches r end honest run side stays kept i w served leads = (uses_at r end honest run side stays kept i w served leads).0
