-- Behind a poll that gave nothing and left its end open: what its end still has to give is held
-- back, as the view shows, or nothing more may go to its address.
use Rattle.std.proofs.Common.{◌≡◌, ℕ, zero, suc, ◌+◌, ◌*◌, ◌<◌, Bool, true, false, not, ◌&&◌, List, [], ◌∷◌, ◌++◌, take, Option, Some, None, Ok, Err, refl, sym, ap, ◌∙◌, subst, ◌⊎◌, inl, inr, arith}
use Rattle.std.specs.Prelude.{slice_get, nat_lt}
use Rattle.std.proofs.lemmas.Bool.{leb-true, ltb-true, lt-ltb, and_parts, both_ways}
use Rattle.quic_wire_core.specs.declared.stream_id.Side.{Side}
use Rattle.quic_wire_core.specs.declared.stream_id.Side.TheVariants.{Client, Server}
use Rattle.quic_wire_core.specs.StreamId.{other_side}
use Rattle.quic_recovery_core.specs.PendingAcks.{can_send}
use Rattle.quic_congestion.specs.Congestion.{Told}
use Rattle.quic_machine.specs.declared.answers.State.TheVariants as states
use Rattle.quic_machine.specs.declared.run.RunEvent.{RunEvent}
use Rattle.quic_machine.specs.declared.run.Call.{Call}
use Rattle.quic_machine.specs.declared.run.Call.TheVariants as calls
use Rattle.quic_machine.specs.declared.run.Answer.{Answer}
use Rattle.quic_machine.specs.declared.run.Answer.TheVariants as answers
use Rattle.quic_machine.specs.declared.run.View.{View}
use Rattle.quic_machine.specs.Parts.{Path, current_mtu}
use Rattle.quic_time.specs.Clocks.{saturated}
use Rattle.quic_machine.specs.Heard.{Heard}
use Rattle.quic_machine.specs.Validation.{is_blocked}
use Rattle.quic_machine.specs.Policy.{Policy}
use Rattle.quic_machine.specs.End.{End}
use Rattle.quic_machine.specs.Control.{Control, after_told, bytes_in_flight, is_window_full}
use Rattle.quic_machine.specs.Poll.{Polled, asks_to_go, rests, polled, told_polled}
use Rattle.quic_machine.specs.PollCases.{ready_at, ready_leaves}
use Rattle.quic_machine.specs.Machine.{World, Policies, IsStep, Follows, policy_at, end_at, control_at, heard_at, view_of}
use Rattle.quic_headline.specs.Runs.{Run, LeadsTo}
use Rattle.quic_headline.specs.Observer.{Watch, watch}
use Rattle.quic_headline.specs.Headline.{IsHonest}
use Rattle.quic_headline.specs.Polls.{window_in, mtu_in, pacing_timer, GaveNothing, bytes_flying, IsFull, IsPaced, IsHeldBack}
use Rattle.quic_headline.proofs.Packets.Group.{PacketsHold}
use Rattle.quic_headline.proofs.Packets.Sight.{Sight}
use Rattle.quic_headline.proofs.Places.Parties.{Party, with_shown, shown_at}
use Rattle.quic_headline.proofs.Places.Groups.{Way}
use Rattle.quic_headline.proofs.Places.Placed.{party_at, Placed, placed_less, shown, watch_is}
use Rattle.quic_headline.proofs.Timers.Watched.{timers_behind, open_behind}
use Rattle.quic_headline.proofs.Held.Flight.{bytes_at}
use Rattle.quic_headline.proofs.Held.Silent.{IsQuiet, quiet, quiet_tells, quiet_window, IsHeld, full, paced, stays_blocked, ready_size, rests_held, rests_none, rests_unprobed}
use Rattle.quic_headline.proofs.Packets.Searches.{ready_probes}

-- ---- the last step

-- What leads to some ends by one event more: how it leads to those before it, and that event.
pub record Last (k : Policies) (i : ℕ) (first end : World) (events : List RunEvent) (answers : List Answer) (views : List View) (event : RunEvent) (a : Answer) : Type 0 where
  pub before : World
  pub leads : Follows k first (take i events) (take i answers) (take i views) before
  pub step : IsStep k before event a end

-- what stands in one place is the same
some_same : {X : Type 0} (x y : X) → Some x ≡ Some y → x ≡ y
some_same x y is = cc

none_there : {X : Type 0} (x : X) → ◌≡◌ {A = Option X} None (Some x) → ⊥
none_there x is = cc

pub last_step : (k : Policies) (i : ℕ) (w end : World) (events : List RunEvent) (answers : List Answer) (views : List View) (event : RunEvent) (a : Answer) → slice_get events i ≡ Some event → slice_get answers i ≡ Some a
    → Follows k w (take (suc i) events) (take (suc i) answers) (take (suc i) views) end → Last k i w end events answers views event a
last_step k i w end [] answers views event a at said f = absurd (none_there event at)
last_step k i w end (e ∷ events) [] views event a at said f = absurd (none_there a said)
last_step k i w end (e ∷ events) (b ∷ answers) [] event a at said f = absurd f
last_step k zero w end (e ∷ events) (b ∷ answers) (v ∷ views) event a at said f = record {
  before = w;
  leads = refl;
  step = subst (λ (x : RunEvent). IsStep k w x a end) (some_same e event at) (subst (λ (x : Answer). IsStep k w e x end) (some_same b a said) (subst (λ (u : World). IsStep k w e b u) (sym f.3) f.1));
}
last_step k (suc i) w end (e ∷ events) (b ∷ answers) (v ∷ views) event a at said f =
    let rest = last_step k i f.0 end events answers views event a at said f.3 in
    record { before = rest.before; leads = (f.0, f.1, f.2, rest.leads); step = rest.step }

-- ---- what an end counted

-- Nothing more may go to the address of an end, by what it counted: it isn't validated, and with
-- one more datagram more bytes would have gone than three times those that came.
pub record IsBlocked (e : End) (h : Heard) : Type 0 where
  pub unvalidated : e.path.validated ≡ false
  pub full : saturated (3 * h.received) < h.sent + current_mtu e.path

is_not : (b : Bool) → not b ≡ true → b ≡ false
is_not true is = cc
is_not false is = refl

blocked_by : (e : End) (h : Heard) → is_blocked e h ≡ true → IsBlocked e h
blocked_by e h is =
    let both = and_parts (not e.path.validated) (nat_lt (saturated (3 * h.received)) (h.sent + current_mtu e.path)) is in
    record { unvalidated = is_not e.path.validated both.0; full = ltb-true (saturated (3 * h.received)) (h.sent + current_mtu e.path) both.1 }

-- ---- what a view shows

-- the window that a controller shows
pub window_shown : (side : Side) (w : World) → window_in (view_of w) side ≡ control_at side w []
window_shown Client w = refl
window_shown Server w = refl

-- and how many bytes a datagram has
mtu_shown : (side : Side) (w : World) → mtu_in (view_of w) side ≡ current_mtu (end_at side w).path
mtu_shown Client w = refl
mtu_shown Server w = refl

-- a poll that gave nothing was answered so by the machine
none_answered : (r : Polled) → (answers.Poll (Ok None) ≡ answers.Poll r.answer) ⊎ (answers.Poll (Ok None) ≡ answers.Poll (Err (record {}))) → r.answer ≡ Ok None
none_answered r (inl is) = cc
none_answered r (inr is) = cc

module _ (r : Run) (side : Side) (i now : ℕ) (v : View) (w : World) (leads : LeadsTo r (suc i) w) (g : GaveNothing r side i now v) where
  abbrev call : Call
  call = calls.Poll now

  abbrev pub last : Last r.keys i r.start w r.events r.answers r.views (record { side = side; call = call }) (answers.Poll (Ok None))
  last = last_step r.keys i r.start w r.events r.answers r.views (record { side = side; call = call }) (answers.Poll (Ok None)) g.poll.event g.poll.answer leads

  -- the end as it was polled, which had read the window that its controller showed
  abbrev pub met : End
  met = with_shown (end_at side last.before) (shown_at side last.before)

  abbrev policy : Policy
  policy = policy_at side r.keys

  -- the end is open
  pub open_now : (end_at side w).closing.state ≡ states.Open
  open_now = open_behind r w i v side leads g.shown g.opened

  left : end_at side w ≡ (polled policy met now).end
  left = last.step.end

  pub still : IsQuiet policy met now
  still = quiet policy met now (none_answered (polled policy met now) last.step.answer) (sym (ap (λ (e : End). e.closing.state) left) ∙ open_now)

  -- it rests
  pub at_rest : end_at side w ≡ rests (ready_at met now)
  at_rest = left ∙ still.leaves

  -- whether the address was validated as the end was polled
  validated_before : (end_at side last.before).path.validated ≡ (end_at side w).path.validated
  validated_before = ap (λ (e : End). e.path.validated) (sym (ready_leaves met now)) ∙ ap (λ (e : End). e.path.validated) (sym at_rest)

  -- at a validated address nothing is counted
  pub unblocked : (end_at side w).path.validated ≡ true → met.path.blocked ≡ false
  unblocked valid =
      let e : End = end_at side last.before in
      let h : Heard = heard_at side last.before in
      ap (λ (b : Bool). not b && nat_lt (saturated (3 * h.received)) (h.sent + current_mtu e.path)) (validated_before ∙ valid)

  -- where nothing more may go, the end has counted as much
  pub blocked_there : met.path.blocked ≡ true → IsBlocked (end_at side w) (heard_at side w)
  blocked_there is =
      let e : End = end_at side last.before in
      let h : Heard = heard_at side last.before in
      let reads : IsBlocked e h = blocked_by e h is in
      let path : (end_at side w).path ≡ record met.path { app_limited = true } = ap (λ (x : End). x.path) at_rest ∙ stays_blocked met now is in
      let size : current_mtu (end_at side w).path ≡ current_mtu e.path = ap current_mtu path in
      let counts : heard_at side w ≡ h = last.step.heard in
      let full = reads.full in
      record {
        unvalidated = ap (λ (q : Path). q.validated) path ∙ reads.unvalidated;
        full = subst (λ (c : Heard). saturated (3 * c.received) < c.sent + current_mtu (end_at side w).path) (sym counts) (subst (λ (n : ℕ). saturated (3 * h.received) < h.sent + n) (sym size) full);
      }

  -- and where more may, the end has counted less
  pub unblocked_there : met.path.blocked ≡ false → IsBlocked (end_at side w) (heard_at side w) → ⊥
  unblocked_there free is =
      let e : End = end_at side last.before in
      let h : Heard = heard_at side last.before in
      let counts : heard_at side w ≡ h = last.step.heard in
      let size : current_mtu (end_at side w).path ≡ current_mtu e.path = ap (λ (x : End). x.path.discovery.size) at_rest ∙ ready_size met now free in
      let full : saturated (3 * h.received) < h.sent + current_mtu e.path =
      subst (λ (n : ℕ). saturated (3 * h.received) < h.sent + n) size (subst (λ (c : Heard). saturated (3 * c.received) < c.sent + current_mtu (end_at side w).path) counts is.full) in
      let blocked : is_blocked e h ≡ true =
      ap (λ (b : Bool). not b && nat_lt (saturated (3 * h.received)) (h.sent + current_mtu e.path)) (validated_before ∙ is.unvalidated) ∙ lt-ltb (saturated (3 * h.received)) (h.sent + current_mtu e.path) full in
      both_ways (is_blocked e h) free blocked

  -- where more may go, no probe of losses waits
  pub none_probed : met.path.blocked ≡ false → (end_at side w).tracking.probes ≡ 0
  none_probed free = ap (λ (e : End). e.tracking.probes) at_rest ∙ ready_probes met now ∙ rests_unprobed met now free still.none

  -- nor is an acknowledgement due
  pub none_due : met.path.blocked ≡ false → can_send (end_at side w).acknowledging ≡ false
  none_due free = ap (λ (e : End). can_send e.acknowledging) at_rest ∙ rests_none met now free still.none

  -- the view shows the window that it read
  pub window_at : window_in v side ≡ (end_at side w).path.window
  window_at =
      let told : control_at side w ≡ after_told (control_at side last.before) (told_polled policy met now) = last.step.control in
      let shows : control_at side w [] ≡ control_at side last.before [] = ap (λ (c : Control). c []) told ∙ ap (λ (ts : List Told). control_at side last.before (ts ++ [])) (quiet_tells policy met now still) in
      let read : (end_at side w).path.window ≡ control_at side last.before [] = ap (λ (e : End). e.path.window) left ∙ quiet_window policy met now still in
      ap (λ (u : View). window_in u side) (shown r w i v leads g.shown) ∙ window_shown side w ∙ shows ∙ sym read

  -- how many bytes a datagram has
  pub mtu_at : mtu_in v side ≡ current_mtu (end_at side w).path
  mtu_at = ap (λ (u : View). mtu_in u side) (shown r w i v leads g.shown) ∙ mtu_shown side w

  -- and the timer of its pacer
  pub pacing_at : pacing_timer v side ≡ Some (end_at side w).timers.pacing
  pacing_at = ap (λ (ts : List (Option ℕ)). slice_get ts 6) (timers_behind r w i v side leads g.shown)

  -- and what it has to give is held back
  pub held_there : met.path.blocked ≡ false → asks_to_go (end_at side w) ≡ true → IsHeld (end_at side w)
  held_there free asks = subst IsHeld (sym at_rest) (rests_held met now free still.none (ap asks_to_go (sym at_rest) ∙ asks))

-- ---- at a place

-- What it rests on there.
pub record SaysWhatFlies (G : Way) : Type 1 where
  pub packets : (x y : Party) → G x y → PacketsHold x y
  pub sight : (x y : Party) → G x y → Sight x y

module _ (G : Way) (b : SaysWhatFlies G) (r : Run) (end : World) (honest : IsHonest r) (side : Side) (i now : ℕ) (v : View) (at : Placed G r end side (suc i)) (g : GaveNothing r side i now v) where
  abbrev x : Party
  x = party_at r (suc i) at.world side at.sents

  abbrev y : Party
  y = party_at r (suc i) at.world (other_side side) at.theirs

  opened : x.end.closing.state ≡ states.Open
  opened = open_now r side i now v at.world at.leads g

  abbrev seen : Placed Sight r end side (suc i)
  seen = placed_less G Sight r end side (suc i) b.sight at

  -- the end has as many bytes in flight as its observer counts
  when_full : is_window_full x.end ≡ true → IsFull r side (suc i) v
  when_full is =
      let bytes : bytes_in_flight x.end ≡ bytes_flying r side (suc i) = bytes_at r end honest side (suc i) seen opened in
      let window : window_in v side ≡ x.end.path.window = window_at r side i now v at.world at.leads g in
      let size : mtu_in v side ≡ current_mtu x.end.path = mtu_at r side i now v at.world at.leads g in
      let most = leb-true x.end.path.window (bytes_in_flight x.end + current_mtu x.end.path) is in
      omega arith

  -- the clock of the end is its observer's
  when_paced : (moment : ℕ) → x.end.timers.pacing ≡ Some moment → x.end.closing.clock < moment → IsPaced r side (suc i) v
  when_paced moment set later =
      let clock : (watch r side (suc i)).clock ≡ x.end.closing.clock = ap (λ (w : Watch). w.clock) (watch_is r honest at.world (suc i) side at.sents at.theirs) ∙ ((b.sight x y at.gives).watched.flight opened).tells.clock in
      record { moment = moment; shown = pacing_at r side i now v at.world at.leads g ∙ ap (λ (o : Option ℕ). Some o) set; later = omega arith }

  -- window or pacer hold back what its end has to give, where no probe of losses waits, or nothing
  -- more may go to its address
  pub held_back : (x.end.tracking.probes ≡ 0 → asks_to_go x.end ≡ true) → IsHeldBack r side (suc i) v ⊎ IsBlocked x.end (heard_at side at.world)
  held_back asks = go (met r side i now v at.world at.leads g).path.blocked refl
    where
      held : IsHeld x.end → IsHeldBack r side (suc i) v
      held (full is) = inl (when_full is)
      held (paced moment set later) = inr (when_paced moment set later)

      go : (b : Bool) → (met r side i now v at.world at.leads g).path.blocked ≡ b → IsHeldBack r side (suc i) v ⊎ IsBlocked x.end (heard_at side at.world)
      go true is = inr (blocked_there r side i now v at.world at.leads g is)
      go false free = inl (held (held_there r side i now v at.world at.leads g free (asks (none_probed r side i now v at.world at.leads g free))))
