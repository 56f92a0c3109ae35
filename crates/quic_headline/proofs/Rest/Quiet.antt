-- An end that rests has nothing left to do: nothing of it waits, nor is held back, and it waits for
-- nothing that asks for an acknowledgement.
use Rattle.std.proofs.Common.{◌≡◌, ℕ, zero, suc, ◌+◌, ◌*◌, ◌≤◌, List, [], ◌∷◌, take, Bool, true, false, ◌&&◌, ◌==◌, Option, Some, None, refl, sym, ap, ◌∙◌, subst, arith}
use Rattle.std.specs.Prelude.{slice_get, sum_by, if◌then◌else◌}
use Rattle.std.specs.Option.{is_some}
use Rattle.std.proofs.lemmas.Bool.{leb-true, or_parts, or_from}
use Rattle.std.proofs.lemmas.List.{append-nil}
use Rattle.quic_wire_core.specs.declared.stream_id.Side.{Side}
use Rattle.quic_wire_core.specs.declared.stream_id.Side.TheVariants.{Client, Server}
use Rattle.quic_wire_core.specs.StreamId.{other_side}
use Rattle.quic_time.specs.Timers.{each_timer}
use Rattle.quic_streams_parts.specs.Table.{Table}
use Rattle.quic_recovery_core.specs.PendingAcks.{can_send}
use Rattle.quic_congestion.specs.Congestion.{Told}
use Rattle.quic_machine.specs.declared.answers.State.TheVariants as states
use Rattle.quic_machine.specs.declared.run.View.{View}
use Rattle.quic_machine.specs.Parts.{current_mtu}
use Rattle.quic_machine.specs.Tracking.{TrackedPacket, asks_any}
use Rattle.quic_machine.specs.End.{End}
use Rattle.quic_machine.specs.Control.{flying, bytes_in_flight, is_window_full}
use Rattle.quic_machine.specs.Poll.{asks_to_go}
use Rattle.quic_machine.specs.Machine.{World, end_at, control_at, view_of}
use Rattle.quic_machine.specs.RunLaws.{one_run}
use Rattle.quic_headline.specs.Runs.{Run, LeadsTo, AreServed, state_in}
use Rattle.quic_headline.specs.Headline.{IsHonest, IsRun, LossTimerFollows}
use Rattle.quic_headline.specs.Moments.{timers_in}
use Rattle.quic_headline.specs.Polls.{GaveNothing, window_in}
use Rattle.quic_headline.specs.Rest.{validated_in, view_behind, poll_of_nothing, Rests, HaveRoom, HasNothingLeft, RestIsQuiet}
use Rattle.quic_headline.proofs.Packets.Group.{has_room}
use Rattle.quic_headline.proofs.Places.Parties.{Party}
use Rattle.quic_headline.proofs.Places.Moments.{state_shown}
use Rattle.quic_headline.proofs.Places.Placed.{party_at, Placed, placed, shown}
use Rattle.quic_headline.proofs.Places.Everything as everything
use Rattle.quic_headline.proofs.Places.Theorems.{ready}
use Rattle.quic_headline.proofs.Halves.Ready.{Ready}
use Rattle.quic_headline.proofs.Timers.Starts.{loss_timers_run}
use Rattle.quic_headline.proofs.Steps.Windows.{History, history}
use Rattle.quic_headline.proofs.Held.Behind.{met, window_shown, unblocked, none_due, held_there, window_at}
use Rattle.quic_headline.proofs.Held.Silent.{IsHeld, full, paced}
use Rattle.quic_headline.proofs.Rest.Between.{LastCall, last_call, served_sooner}
use Rattle.quic_headline.proofs.Rest.Sizes.{window_holds_two}

-- ---- nothing that asks is in flight

-- where no tracked packet asks, none is in flight
none_fly : (generation : ℕ) (ps : Table TrackedPacket) → asks_any ps ≡ false → flying generation ps ≡ []
none_fly generation [] none = refl
none_fly generation (p ∷ ps) none = (let both = or_parts p.1.asks (asks_any ps) none in go p.1.asks both.0 (none_fly generation ps both.1))
  where
    go : (b : Bool) → b ≡ false → flying generation ps ≡ [] → (if b && (p.1.generation == generation) then p ∷ flying generation ps else flying generation ps) ≡ []
    go true is rest = cc
    go false is rest = rest

-- nor are bytes
no_bytes : (e : End) → asks_any e.tracking.packets ≡ false → bytes_in_flight e ≡ 0
no_bytes e none = ap (λ (ps : Table TrackedPacket). sum_by (λ (p : ℕ × TrackedPacket). p.1.size) ps) (none_fly e.path.generation e.tracking.packets none)

-- ---- what the view shows

-- the view behind a place shows the ends there
shown_behind : (r : Run) (w : World) (i : ℕ) (v : View) → LeadsTo r i w → view_behind r i ≡ Some v → v ≡ view_of w
shown_behind r w zero v leads there = cc
shown_behind r w (suc i) v leads there = shown r w i v leads there

timers_shown : (side : Side) (w : World) → timers_in (view_of w) side ≡ each_timer (end_at side w).timers
timers_shown Client w = refl
timers_shown Server w = refl

validated_shown : (side : Side) (w : World) → validated_in (view_of w) side ≡ (end_at side w).path.validated
validated_shown Client w = refl
validated_shown Server w = refl

not_set : (o : Option ℕ) → Some o ≡ Some None → o ≡ None
not_set o is = cc

follows_at : (side : Side) (w : World) → LossTimerFollows w.client × LossTimerFollows w.server → LossTimerFollows (end_at side w)
follows_at Client w both = both.0
follows_at Server w both = both.1

-- ---- an end that rests

module _ (r : Run) (end : World) (honest : IsHonest r) (run : IsRun r end) (room : HaveRoom r.start) (side : Side) (i : ℕ) (w : World) (served : AreServed r i) (at : Rests r side i) (leads : LeadsTo r i w) where
  abbrev e : End
  e = end_at side w

  seen : at.view ≡ view_of w
  seen = shown_behind r w i at.view leads at.shown

  opened : e.closing.state ≡ states.Open
  opened = sym (ap (λ (v : View). state_in v side) seen ∙ state_shown side w) ∙ at.is_open

  timers : timers_in at.view side ≡ each_timer e.timers
  timers = ap (λ (v : View). timers_in v side) seen ∙ timers_shown side w

  no_loss_timer : e.timers.loss_detection ≡ None
  no_loss_timer = not_set e.timers.loss_detection (sym (ap (λ (ts : List (Option ℕ)). slice_get ts 0) timers) ∙ at.still.no_loss_timer)

  no_ack_timer : e.timers.max_ack_delay ≡ None
  no_ack_timer = not_set e.timers.max_ack_delay (sym (ap (λ (ts : List (Option ℕ)). slice_get ts 8) timers) ∙ at.still.no_ack_timer)

  no_pacing_timer : e.timers.pacing ≡ None
  no_pacing_timer = not_set e.timers.pacing (sym (ap (λ (ts : List (Option ℕ)). slice_get ts 6) timers) ∙ at.still.no_pacing_timer)

  -- no datagram that asks is waited for
  nothing_asks : asks_any e.tracking.packets ≡ false
  nothing_asks =
      let follows = loss_timers_run r.keys r.start w (take i r.events) (take i r.answers) (take i r.views) honest.start leads in
      sym (follows_at side w follows opened) ∙ ap (λ (o : Option ℕ). is_some o) no_loss_timer

  -- the poll that gave nothing
  abbrev found : LastCall i side (end_at side r.start).closing.state r.keys r.start w r.events r.answers r.views (poll_of_nothing at.now)
  found = last_call i side (end_at side r.start).closing.state r.keys r.start w r.events r.answers r.views at.front (poll_of_nothing at.now) leads at.last

  abbrev j : ℕ
  j = found.place

  abbrev there : World
  there = found.world

  -- it left the end as it is
  same : e ≡ end_at side there
  same = found.same.end

  gave : GaveNothing r side j at.now found.view
  gave = record {
    poll = record { event = found.event; answer = found.answer };
    shown = found.shown;
    opened = ap (λ (v : View). state_in v side) (shown r there j found.view found.leads found.shown) ∙ state_shown side there ∙ sym (ap (λ (x : End). x.closing.state) same) ∙ opened;
  }

  served_there : AreServed r (suc j)
  served_there = (let below = found.below in served_sooner i (suc j) r.answers (omega arith) served)

  -- its address was validated, so that what goes there has no limit
  unlimited : (met r side j at.now found.view there found.leads gave).path.blocked ≡ false
  unlimited = unblocked r side j at.now found.view there found.leads gave
      (ap (λ (x : End). x.path.validated) (sym same) ∙ sym (validated_shown side w) ∙ ap (λ (v : View). validated_in v side) (sym seen) ∙ at.validated)

  -- no acknowledgement was due
  no_ack_due : can_send e.acknowledging ≡ false
  no_ack_due = ap (λ (x : End). can_send x.acknowledging) same ∙ none_due r side j at.now found.view there found.leads gave unlimited

  -- the window is what the controller shows
  window_read : (end_at side there).path.window ≡ control_at side there []
  window_read =
      sym (window_at r side j at.now found.view there found.leads gave)
      ∙ ap (λ (v : View). window_in v side) (shown r there j found.view found.leads found.shown)
      ∙ window_shown side there

  -- it holds two datagrams
  window_is_wide : 2 * current_mtu e.path ≤ e.path.window
  window_is_wide =
      let h : History side r.keys r.start (take (suc j) r.events) (take (suc j) r.answers) there = history side r.keys r.start (take (suc j) r.events) (take (suc j) r.answers) (take (suc j) r.views) there found.leads served_there in
      let two = window_holds_two r honest room side (suc j) there h.told served_there h.was in
      let shows : control_at side there [] ≡ control_at side r.start h.told = h.shows [] ∙ ap (λ (ts : List Told). control_at side r.start ts) (append-nil h.told) in
      let reads = window_read in
      subst (λ (x : End). 2 * current_mtu x.path ≤ x.path.window) (sym same) (omega arith)

  -- datagrams have bytes
  size_is_some : 1200 ≤ current_mtu e.path
  size_is_some =
      let here : Placed (everything.All Ready ready) r end side i = placed (everything.All Ready ready) (everything.all Ready ready) r end honest run side i served in
      let x : Party = party_at r i here.world side here.sents in
      let y : Party = party_at r i here.world (other_side side) here.theirs in
      let is : here.world ≡ w = (one_run r.keys (take i r.answers) r.start (take i r.events) (take i r.views) (take i r.views) here.world w served here.leads leads).1 in
      subst (λ (v : World). 1200 ≤ current_mtu (end_at side v).path) is (has_room x y here.gives.0.0).1

  -- so neither window nor pacer holds anything back
  not_held : IsHeld (end_at side there) → ⊥
  not_held (full is) = absurd
      (let filled : is_window_full e ≡ true = ap is_window_full same ∙ is in
      let most = leb-true e.path.window (bytes_in_flight e + current_mtu e.path) filled in
      let none = no_bytes e nothing_asks in
      let wide = window_is_wide in
      let some = size_is_some in
      omega arith)
  not_held (paced moment set later) =
      let clash : Some moment ≡ None = sym set ∙ sym (ap (λ (x : End). x.timers.pacing) same) ∙ no_pacing_timer in
      cc

  -- and nothing is to go
  nothing_to_go : asks_to_go e ≡ false
  nothing_to_go = go (asks_to_go e) refl
    where
      go : (b : Bool) → asks_to_go e ≡ b → b ≡ false
      go true is = absurd (not_held (held_there r side j at.now found.view there found.leads gave unlimited (sym (ap asks_to_go same) ∙ is)))
      go false is = refl

  has_nothing_left : HasNothingLeft e
  has_nothing_left = record { is_open = opened; nothing_waits = or_from (can_send e.acknowledging) (asks_to_go e) no_ack_due nothing_to_go; nothing_asks = nothing_asks; no_ack_timer = no_ack_timer }

pub rest_is_quiet : (r : Run) (end : World) → IsHonest r → IsRun r end → RestIsQuiet r
rest_is_quiet r end honest run side i w served room at leads = has_nothing_left r end honest run room side i w served at leads
