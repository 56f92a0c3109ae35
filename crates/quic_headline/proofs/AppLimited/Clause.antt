-- At each place of an honest run an open end counts as having nothing more to send only as its last
-- poll lets it; and so its controller is told.
use Rattle.std.proofs.Common.{◌≡◌, ℕ, zero, suc, ◌+◌, ◌<◌, ◌≤◌, Bool, true, false, not, ◌&&◌, List, [], ◌∷◌, length, Option, Some, None, Result, Ok, refl, sym, ap, ◌∙◌, subst, ◌⊎◌, inl, inr, arith}
use Rattle.std.specs.Prelude.{slice_get, nat_lt}
use Rattle.std.proofs.lemmas.Bool.{and_right, both_ways, leb-true, ltb-true, ltb-false}
use Rattle.std.proofs.lemmas.Option.{same_Some, slice_get_within}
use Rattle.quic_wire_core.specs.declared.stream_id.Side.{Side}
use Rattle.quic_wire_core.specs.declared.stream_id.Side.TheVariants.{Client, Server}
use Rattle.quic_wire_core.specs.StreamId.{other_side}
use Rattle.quic_machine.specs.declared.answers.State.TheVariants as states
use Rattle.quic_machine.specs.declared.answers.Failed.{Failed}
use Rattle.quic_machine.specs.declared.answers.Transmit.{Transmit}
use Rattle.quic_machine.specs.declared.run.RunEvent.{RunEvent}
use Rattle.quic_machine.specs.declared.run.Call.{Call}
use Rattle.quic_machine.specs.declared.run.Call.TheVariants as calls
use Rattle.quic_machine.specs.declared.run.Answer.{Answer}
use Rattle.quic_machine.specs.declared.run.Answer.TheVariants as answers
use Rattle.quic_machine.specs.declared.run.View.{View}
use Rattle.quic_machine.specs.Policy.{Policy}
use Rattle.quic_machine.specs.Opens.{own_id_length}
use Rattle.quic_machine.specs.Closing.{ticked}
use Rattle.quic_machine.specs.Parts.{current_mtu}
use Rattle.quic_machine.specs.End.{End, with_closing, closed_by}
use Rattle.quic_machine.specs.Control.{bytes_in_flight, is_window_full}
use Rattle.quic_machine.specs.Poll.{Polled, asks_to_go, is_held, rests, polled}
use Rattle.quic_machine.specs.PollCases.{ready_at, draft_at, by_poll_to}
use Rattle.quic_machine.specs.CallCases.{is_poll}
use Rattle.quic_machine.specs.Machine.{World, after_call, end_at, given_by, policy_at}
use Rattle.quic_headline.proofs.Packets.Closes.{by_closes}
use Rattle.quic_headline.specs.Runs.{Run, In, same_side, state_in, LeadsTo, AreServed}
use Rattle.quic_headline.specs.Headline.{IsHonest, IsRun, IsAt}
use Rattle.quic_headline.specs.Polls.{window_in, mtu_in, pacing_timer, bytes_flying, IsMade, GaveNothing, IsFull, IsLimited}
use Rattle.quic_headline.proofs.Packets.Quiet.{HaveHeardNothing}
use Rattle.quic_headline.specs.AppLimited.{WasPolled, HasToGo, MayCount}
use Rattle.quic_headline.specs.Telling.{ControllersAreTold}
use Rattle.quic_headline.proofs.Packets.Group.{has_room}
use Rattle.quic_headline.proofs.Packets.Probes.{by_going}
use Rattle.quic_headline.proofs.Packets.Sight.{Sight}
use Rattle.quic_headline.proofs.Places.Parties.{Party, with_shown, shown_at}
use Rattle.quic_headline.proofs.Places.Moments.{state_shown}
use Rattle.quic_headline.proofs.Places.Placed.{party_at, Placed, placed, placed_less, shown as placed_view}
use Rattle.quic_headline.proofs.Places.Steps.{poll_answer}
use Rattle.quic_headline.proofs.Places.Everything as everything
use Rattle.quic_headline.proofs.Places.Theorems.{ready}
use Rattle.quic_headline.proofs.Halves.Ready.{Ready}
use Rattle.quic_headline.proofs.Held.Flight.{bytes_at}
use Rattle.quic_headline.proofs.Held.Silent.{IsQuiet, quiet, rests_unprobed}
use Rattle.quic_headline.proofs.Packets.Searches.{ready_probes}
use Rattle.quic_headline.proofs.Held.Behind.{last_step, last as last_poll, met, blocked_there, unblocked_there, window_at, mtu_at}
use Rattle.quic_headline.proofs.Held.Bytes.{when_blocked, blocked_back}
use Rattle.quic_headline.proofs.Held.Messages.{short_waits}
use Rattle.quic_headline.proofs.Held.Clause.{Shortly, shortly, heard_first, message_asks, what_asks}
use Rattle.quic_headline.proofs.Messages.Lists.{waiting_is}
use Rattle.quic_headline.proofs.Rest.Between.{step_leaves}
use Rattle.quic_headline.proofs.Sizes.Moves.{did_there}
use Rattle.quic_headline.proofs.Steps.Made.{one_behind, served_before, made_served, left_at, made_end}
use Rattle.quic_headline.proofs.Steps.Probing.{same_answer}
use Rattle.quic_headline.proofs.Timers.Still.{was_open}
use Rattle.quic_headline.proofs.Timers.Watched.{Observed, timers_behind}
use Rattle.quic_headline.proofs.Marking.Clause.{marked_at}
use Rattle.quic_headline.proofs.AppLimited.Rests.{IsResting, paced, full, idle, resting, blocked_rests}
use Rattle.quic_headline.proofs.Packets.EndMoves.{Cause, cause_of, IsPoll}
use Rattle.quic_headline.proofs.Packets.EndMoves as moves
use Rattle.quic_headline.proofs.Packets.ByMoves.{no_poll, behind_call}

-- ---- any call but a poll

-- an end counts as having nothing more to send, or doesn't, as before
abbrev SameCount : End → End → Type 0
SameCount e f = f.path.app_limited ≡ e.path.app_limited

same_count : (e : End) (by : Cause) → (IsPoll by → ⊥) → moves.Keeps by (SameCount e)
same_count e by other (moves.limits limited) x may i = absurd (other may)
same_count e by other (moves.went g) x may i = absurd (other may)
same_count e by other m x may i = i

count_stays : (p : Policy) (e : End) (theirs : List (List ℕ)) (call : Call) (a : Answer) → is_poll call ≡ false → SameCount e (after_call p e theirs call a)
count_stays p e theirs call a other = behind_call (SameCount e) p e theirs call a (same_count e (cause_of call) (no_poll call other)) refl

-- ---- a poll

-- one that gives a datagram, and leaves its end open, leaves it so that it counts as having more
gave_more : (p : Policy) (e : End) (now : ℕ) (transmit : Transmit) → (polled p e now).answer ≡ Ok (Some transmit) → (polled p e now).end.closing.state ≡ states.Open → (polled p e now).end.path.app_limited ≡ false
gave_more p e now transmit = by_poll_to p e now (λ (q : Polled). q.answer ≡ Ok (Some transmit) → q.end.closing.state ≡ states.Open → q.end.path.app_limited ≡ false) (record {
  silent = λ is still. cc;
  failed = λ is still. cc;
  nothing = λ opened none is still. cc;
  repeats = λ shut. by_closes p (with_closing e (ticked e.closing now)) (λ (q : Polled). q.answer ≡ Ok (Some transmit) → q.end.closing.state ≡ states.Open → q.end.path.app_limited ≡ false) (λ is still. cc) (λ f goes is still. let clash : states.Closing ≡ states.Open = sym shut ∙ still in cc);
  closes = λ reason bound. by_closes p (closed_by reason (ready_at e now).end) (λ (q : Polled). q.answer ≡ Ok (Some transmit) → q.end.closing.state ≡ states.Open → q.end.path.app_limited ≡ false) (λ is still. cc) (λ f goes is still. cc);
  gives = λ opened may some is still. by_going (λ (x : End). x.path.app_limited ≡ false) p (draft_at e now) (λ pacing. refl);
})

-- ---- places

-- whether an event is a poll of an end
abbrev polls : Side → RunEvent → Bool
polls side event = same_side event.side side && is_poll event.call

own_poll : (side : Side) (now : ℕ) → polls side (record { side = side; call = calls.Poll now }) ≡ true
own_poll Client now = refl
own_poll Server now = refl

-- a place behind which there is one more lies before that, or is it
nearer : (place i : ℕ) → place < suc i → (place < i) ⊎ (place ≡ i)
nearer place i under = go (nat_lt place i) refl
  where
    go : (b : Bool) → nat_lt place i ≡ b → (place < i) ⊎ (place ≡ i)
    go true is = inl (ltb-true place i is)
    go false is = inr (let least = ltb-false place i is in omega arith)

-- where one end isn't polled, its last poll is the last one before
module _ (r : Run) (side : Side) (i : ℕ) (event : RunEvent) (there : slice_get r.events i ≡ Some event) (other : polls side event ≡ false) where
  not_here : (now : ℕ) (a : Answer) → IsAt r i side (calls.Poll now) a → ⊥
  not_here now a at = both_ways (polls side event) other (ap (polls side) (same_Some event (record { side = side; call = calls.Poll now }) (sym there ∙ at.event)) ∙ own_poll side now)

  earlier : (place now : ℕ) (a : Answer) → WasPolled r side (suc i) place now a → WasPolled r side i place now a
  earlier place now a p = record { below = below; poll = p.poll; last = λ other later b above under at. p.last other later b above (omega arith) at }
    where
      not_there : place ≡ i → ⊥
      not_there is = not_here now a (subst (λ (n : ℕ). IsAt r n side (calls.Poll now) a) is p.poll)

      below : place < i
      below = go p.below
        where
          go : place < suc i → place < i
          go under = elim (nearer place i under) [ inl less ↦ less | inr is ↦ absurd (not_there is) ]

  counts_still : (limited : Bool) → MayCount r side i limited → MayCount r side (suc i) limited
  counts_still limited c = record {
    gave = λ place now transmit p. c.gave place now transmit (earlier place now _ p);
    paced = λ place now moment v p. c.paced place now moment v (earlier place now _ p);
    full = λ place now v p. c.full place now v (earlier place now _ p);
    limits = λ place now v p. c.limits place now v (earlier place now _ p);
    idle = λ place now v p. c.idle place now v (earlier place now _ p);
  }

-- where it is, that is its last poll
module _ (r : Run) (side : Side) (i now : ℕ) (a : Answer) (at : IsAt r i side (calls.Poll now) a) where
  -- it was answered so
  this_one : (place later : ℕ) (b : Answer) → WasPolled r side (suc i) place later b → (place ≡ i) × (a ≡ b)
  this_one place later b p = go (nearer place i p.below)
    where
      go : (place < i) ⊎ (place ≡ i) → (place ≡ i) × (a ≡ b)
      go (inl less) = absurd (p.last i now a less (omega arith) at)
      go (inr is) = (is, same_Some a b (sym at.answer ∙ (subst (λ (n : ℕ). IsAt r n side (calls.Poll later) b) is p.poll).answer))

-- one of so many stands there
slice_get_there : {X : Type 0} (xs : List X) (i : ℕ) → suc i ≤ length xs → (x : X) × (slice_get xs i ≡ Some x)
slice_get_there [] i within = absurd (omega arith)
slice_get_there (x ∷ xs) zero within = (x, refl)
slice_get_there (x ∷ xs) (suc i) within = slice_get_there xs i (omega arith)

-- two answers to a poll that are one are one
one_answer : (x y : Result (Option Transmit) Failed) → answers.Poll x ≡ answers.Poll y → x ≡ y
one_answer x y is = sym (same_answer x y is)

module _ (r : Run) (end : World) (honest : IsHonest r) (run : IsRun r end) (quiet_first : HaveHeardNothing r.start) where
  -- ---- behind a poll

  module _ (i : ℕ) (side : Side) (now : ℕ) (a : Answer) (v : View) (w next : World) (m : IsMade r i side (calls.Poll now) a w next) (leads : LeadsTo r (suc i) next) (there : slice_get r.views i ≡ Some v) (still : (end_at side next).closing.state ≡ states.Open) where
    abbrev e : End
    e = with_shown (end_at side w) (shown_at side w)

    abbrev p : Policy
    p = policy_at side r.keys

    abbrev f : End
    f = end_at side next

    left : f ≡ (polled p e now).end
    left = made_end r i side (calls.Poll now) a w next m

    said : a ≡ answers.Poll (polled p e now).answer
    said = poll_answer p e now a m.step.answer (made_served r i side (calls.Poll now) a w next m)

    shown : pacing_timer v side ≡ Some f.timers.pacing
    shown = ap (λ (ts : List (Option ℕ)). slice_get ts 6) (timers_behind r next i v side leads there)

    -- the view shows it open
    seen_open : state_in v side ≡ states.Open
    seen_open = ap (λ (u : View). state_in u side) (placed_view r next i v leads there) ∙ state_shown side next ∙ still

    -- it gave a datagram
    gave_one : (transmit : Transmit) → a ≡ answers.Poll (Ok (Some transmit)) → f.path.app_limited ≡ false
    gave_one transmit is = ap (λ (x : End). x.path.app_limited) left ∙ gave_more p e now transmit (one_answer (polled p e now).answer (Ok (Some transmit)) (sym said ∙ is)) (sym (ap (λ (x : End). x.closing.state) left) ∙ still)

    -- it gave nothing
    module _ (is : a ≡ answers.Poll (Ok None)) where
      rested : IsQuiet p e now
      rested = quiet p e now (one_answer (polled p e now).answer (Ok None) (sym said ∙ is)) (sym (ap (λ (x : End). x.closing.state) left) ∙ still)

      at_rest : f ≡ rests (ready_at e now)
      at_rest = left ∙ rested.leaves

      limited_is : f.path.app_limited ≡ not (is_held (ready_at e now).leaving)
      limited_is = ap (λ (x : End). x.path.app_limited) at_rest

      gave : GaveNothing r side i now v
      gave = record { poll = record { event = m.at.event; answer = m.at.answer ∙ ap (λ (b : Answer). Some b) is }; shown = there; opened = seen_open }

      bytes : bytes_in_flight f ≡ bytes_flying r side (suc i)
      bytes =
          let at = placed_less Shortly Sight r end side (suc i) (λ x y h. h.0.1) (placed Shortly shortly r end honest run side (suc i) m.served) in
          let same : at.world ≡ next = one_behind r (suc i) at.world next m.served at.leads leads in
          subst (λ (u : World). bytes_in_flight (end_at side u) ≡ bytes_flying r side (suc i)) same
          (bytes_at r end honest side (suc i) at (ap (λ (u : World). (end_at side u).closing.state) same ∙ still))

      -- where it's full, the view has no room
      no_room : is_window_full f ≡ true → IsFull r side (suc i) v
      no_room is_full =
          let flying = bytes in
          let window : window_in v side ≡ f.path.window = window_at r side i now v next leads gave in
          let size : mtu_in v side ≡ current_mtu f.path = mtu_at r side i now v next leads gave in
          let most = leb-true f.path.window (bytes_in_flight f + current_mtu f.path) is_full in
          omega (arith, flying, window, size, most)

      -- where more may go, no probe of losses waits
      none_probed : e.path.blocked ≡ false → f.tracking.probes ≡ 0
      none_probed free = ap (λ (x : End). x.tracking.probes) at_rest ∙ ready_probes e now ∙ rests_unprobed e now free rested.none

      -- what is to go asks then
      asks : f.tracking.probes ≡ 0 → HasToGo r side (suc i) → asks_to_go f ≡ true
      asks none (inl stream) = what_asks r end honest run side (suc i) stream.0 next m.served leads still stream.1
      asks none (inr message) =
          let at = placed Shortly shortly r end honest run side (suc i) m.served in
          let same : at.world ≡ next = one_behind r (suc i) at.world next m.served at.leads leads in
          let x : Party = party_at r (suc i) at.world side at.sents in
          let y : Party = party_at r (suc i) at.world (other_side side) at.theirs in
          let place = slice_get_within r.views i v there in
          let among : In message.0 (end_at side at.world).messages.queues.outgoing = subst (In message.0) (waiting_is r end honest run side (suc i) at.world (omega (arith, place)) m.served at.leads) message.1 in
          let packets = at.gives.0.0.0 in
          let eight : length x.end.ids.peer.id ≡ own_id_length = packets.long.peer.used in
          subst (λ (u : World). asks_to_go (end_at side u) ≡ true) same (message_asks x.end (short_waits x.end message.0 (ap (λ (u : World). (end_at side u).tracking.probes) same ∙ none) (has_room x y packets) eight at.gives.1.short among))

      -- its timer is set to a moment, and isn't
      set_and_not : (moment : ℕ) (o : Option ℕ) → pacing_timer v side ≡ Some (Some moment) → f.timers.pacing ≡ o → o ≡ Some moment
      set_and_not moment o set timer = sym timer ∙ same_Some f.timers.pacing (Some moment) (sym shown ∙ set)

      -- the world before is that of the poll
      before_is : (last_poll r side i now v next leads gave).before ≡ w
      before_is = one_behind r i (last_poll r side i now v next leads gave).before w (served_before r.answers i m.served) (last_poll r side i now v next leads gave).leads m.leads

      reads : (b : Bool) → e.path.blocked ≡ b → (met r side i now v next leads gave).path.blocked ≡ b
      reads b is_read = subst (λ (u : World). (with_shown (end_at side u) (shown_at side u)).path.blocked ≡ b) (sym before_is) is_read

      all_hold : (by : Side) (j : ℕ) → AreServed r j → Placed Observed r end by j
      all_hold by j served = placed_less Shortly Observed r end by j (λ x y h. (h.0.0.0, h.0.1)) (placed Shortly shortly r end honest run by j served)

      -- datagrams have bytes
      sized : 0 < current_mtu f.path
      sized =
          let at = placed Shortly shortly r end honest run side (suc i) m.served in
          let same : at.world ≡ next = one_behind r (suc i) at.world next m.served at.leads leads in
          let x : Party = party_at r (suc i) at.world side at.sents in
          let y : Party = party_at r (suc i) at.world (other_side side) at.theirs in
          let long : 1200 ≤ current_mtu x.end.path = (has_room x y at.gives.0.0.0).1 in
          subst (λ (u : World). 0 < current_mtu (end_at side u).path) same (omega (arith, long))

      -- nothing more might go by what the end read exactly where so it is by the lists
      limits_there : e.path.blocked ≡ true → IsLimited r side (suc i) v
      limits_there blocked = when_blocked r end honest run all_hold side (heard_first side r.start quiet_first) i now v next m.served leads gave (blocked_there r side i now v next leads gave (reads true blocked))

      no_limit_there : e.path.blocked ≡ false → IsLimited r side (suc i) v → ⊥
      no_limit_there free limited =
          unblocked_there r side i now v next leads gave (reads false free)
          (blocked_back r end honest run all_hold side (heard_first side r.start quiet_first) i now v next m.served leads gave sized limited)

      -- the end rests then with nothing more to send
      counts_blocked : e.path.blocked ≡ true → f.path.app_limited ≡ true
      counts_blocked blocked = limited_is ∙ ap not (blocked_rests e now blocked).1

      paced_rests : (moment : ℕ) → pacing_timer v side ≡ Some (Some moment) → IsResting (ready_at e now) → f.path.app_limited ≡ false
      paced_rests moment set (paced later timer held) = limited_is ∙ ap not held
      paced_rests moment set (full none filled held) = limited_is ∙ ap not held
      paced_rests moment set (idle none silent free) = (let clash : ◌≡◌ {A = Option ℕ} None (Some moment) = set_and_not moment None set (ap (λ (x : End). x.timers.pacing) at_rest ∙ none) in cc)

      when_paced : (moment : ℕ) → pacing_timer v side ≡ Some (Some moment) → f.path.app_limited ≡ false
      when_paced moment set = go e.path.blocked refl
        where
          go : (b : Bool) → e.path.blocked ≡ b → f.path.app_limited ≡ false
          go true blocked = (let clash : ◌≡◌ {A = Option ℕ} None (Some moment) = set_and_not moment None set (ap (λ (x : End). x.timers.pacing) at_rest ∙ (blocked_rests e now blocked).0) in cc)
          go false free = paced_rests moment set (resting e now free rested.none)

      full_rests : f.tracking.probes ≡ 0 → HasToGo r side (suc i) → IsResting (ready_at e now) → f.path.app_limited ≡ false
      full_rests unprobed to_go (paced later timer held) = limited_is ∙ ap not held
      full_rests unprobed to_go (full none filled held) = limited_is ∙ ap not held
      full_rests unprobed to_go (idle none silent free) = absurd (both_ways (asks_to_go f) (ap asks_to_go at_rest ∙ silent) (asks unprobed to_go))

      when_full : HasToGo r side (suc i) → (IsLimited r side (suc i) v → ⊥) → f.path.app_limited ≡ false
      when_full to_go unlimited = go e.path.blocked refl
        where
          go : (b : Bool) → e.path.blocked ≡ b → f.path.app_limited ≡ false
          go true blocked = absurd (unlimited (limits_there blocked))
          go false free = full_rests (none_probed free) to_go (resting e now free rested.none)

      idle_rests : pacing_timer v side ≡ Some None → bytes_flying r side (suc i) + mtu_in v side < window_in v side → IsResting (ready_at e now) → f.path.app_limited ≡ true
      idle_rests unset room (paced later timer held) =
          (let clash : ◌≡◌ {A = Option ℕ} None (Some later) = sym (same_Some f.timers.pacing None (sym shown ∙ unset)) ∙ ap (λ (x : End). x.timers.pacing) at_rest ∙ timer in cc)
      idle_rests unset room (full none filled held) = (let most : window_in v side ≤ bytes_flying r side (suc i) + mtu_in v side = no_room (ap is_window_full at_rest ∙ filled) in absurd (omega (arith, most, room)))
      idle_rests unset room (idle none silent free) = limited_is ∙ ap not free

      when_idle : pacing_timer v side ≡ Some None → bytes_flying r side (suc i) + mtu_in v side < window_in v side → f.path.app_limited ≡ true
      when_idle unset room = go e.path.blocked refl
        where
          go : (b : Bool) → e.path.blocked ≡ b → f.path.app_limited ≡ true
          go true blocked = counts_blocked blocked
          go false free = idle_rests unset room (resting e now free rested.none)

      when_limited : IsLimited r side (suc i) v → f.path.app_limited ≡ true
      when_limited limited = go e.path.blocked refl
        where
          go : (b : Bool) → e.path.blocked ≡ b → f.path.app_limited ≡ true
          go true blocked = counts_blocked blocked
          go false free = absurd (no_limit_there free limited)

    -- so it counts as the poll lets it
    poll_counts : MayCount r side (suc i) f.path.app_limited
    poll_counts = record {
      gave = λ place later transmit was. gave_one transmit (this_one r side i now a m.at place later _ was).1;
      paced = λ place later moment u was seen set. (
          let here = this_one r side i now a m.at place later _ was in
          when_paced here.1 moment (subst (λ (x : View). pacing_timer x side ≡ Some (Some moment)) (one_view place u here.0 seen) set));
      full = λ place later u was seen filled to_go unlimited. (
          let here = this_one r side i now a m.at place later _ was in
          let same : u ≡ v = one_view place u here.0 seen in
          when_full here.1 (subst (λ (n : ℕ). HasToGo r side (suc n)) here.0 to_go)
          (λ limited. unlimited (subst (λ (x : View). IsLimited r side (suc place) x) (sym same) (subst (λ (n : ℕ). IsLimited r side (suc n) v) (sym here.0) limited))));
      limits = λ place later u was seen limited. (
          let here = this_one r side i now a m.at place later _ was in
          let same : u ≡ v = one_view place u here.0 seen in
          when_limited here.1 (subst (λ (n : ℕ). IsLimited r side (suc n) v) here.0 (subst (λ (x : View). IsLimited r side (suc place) x) same limited)));
      idle = λ place later u was seen unset room. (
          let here = this_one r side i now a m.at place later _ was in
          let same : u ≡ v = one_view place u here.0 seen in
          when_idle here.1 (subst (λ (x : View). pacing_timer x side ≡ Some None) same unset)
          (subst (λ (n : ℕ). bytes_flying r side (suc n) + mtu_in v side < window_in v side) here.0 (subst (λ (x : View). bytes_flying r side (suc place) + mtu_in x side < window_in x side) same room)));
    }
      where
        one_view : (place : ℕ) (u : View) → place ≡ i → slice_get r.views place ≡ Some u → u ≡ v
        one_view place u is seen = same_Some u v (sym seen ∙ ap (λ (n : ℕ). slice_get r.views n) is ∙ there)

  -- ---- at each place

  abbrev Counts : Side → ℕ → World → Type 0
  Counts side i w = (end_at side w).closing.state ≡ states.Open → MayCount r side i (end_at side w).path.app_limited

  -- a call of its own
  own_next : (side : Side) (call : Call) (a : Answer) (i : ℕ) (v : View) (w next : World) → IsMade r i side call a w next → LeadsTo r (suc i) next → slice_get r.views i ≡ Some v → Counts side i w → Counts side (suc i) next
  own_next side (calls.Poll now) a i v w next m leads there before still = poll_counts i side now a v w next m leads there still
  own_next side call a i v w next m leads there before still =
      let made : end_at side next ≡ left_at r side w call a = made_end r i side call a w next m in
      let opened : (end_at side w).closing.state ≡ states.Open = was_open (policy_at side r.keys) (end_at side w) (given_by (other_side side) w) call a (sym (ap (λ (z : End). z.closing.state) made) ∙ still) in
      subst (λ (b : Bool). MayCount r side (suc i) b) (sym (ap (λ (z : End). z.path.app_limited) made ∙ count_stays (policy_at side r.keys) (end_at side w) (given_by (other_side side) w) call a refl))
      (counts_still r side i (record { side = side; call = call }) m.at.event (no_poll side call refl) (end_at side w).path.app_limited (before opened))
    where
      no_poll : (side : Side) (call : Call) → is_poll call ≡ false → polls side (record { side = side; call = call }) ≡ false
      no_poll side call is = and_right (same_side side side) (is_poll call) is

  at_next : (side by : Side) (call : Call) (a : Answer) (i : ℕ) (v : View) (w next : World) → IsMade r i by call a w next → LeadsTo r (suc i) next → slice_get r.views i ≡ Some v → Counts side i w → Counts side (suc i) next
  at_next Client Client call a i v w next m leads there before still = own_next Client call a i v w next m leads there before still
  at_next Server Server call a i v w next m leads there before still = own_next Server call a i v w next m leads there before still
  at_next Client Server call a i v w next m leads there before still =
      let stays : next.client ≡ w.client = (step_leaves Client r.keys w next (record { side = Server; call = call }) a refl m.step).end in
      subst (λ (z : End). MayCount r Client (suc i) z.path.app_limited) (sym stays)
      (counts_still r Client i (record { side = Server; call = call }) m.at.event refl w.client.path.app_limited (before (sym (ap (λ (z : End). z.closing.state) stays) ∙ still)))
  at_next Server Client call a i v w next m leads there before still =
      let stays : next.server ≡ w.server = (step_leaves Server r.keys w next (record { side = Client; call = call }) a refl m.step).end in
      subst (λ (z : End). MayCount r Server (suc i) z.path.app_limited) (sym stays)
      (counts_still r Server i (record { side = Client; call = call }) m.at.event refl w.server.path.app_limited (before (sym (ap (λ (z : End). z.closing.state) stays) ∙ still)))

  -- behind the first so many answers, each of which has a view behind it
  counts_at : (i : ℕ) (side : Side) (w : World) → i ≤ length r.views → LeadsTo r i w → AreServed r i → Counts side i w
  counts_at zero side w within leads served opened = record {
    gave = λ place now transmit p. absurd (none p.below);
    paced = λ place now moment v p. absurd (none p.below);
    full = λ place now v p. absurd (none p.below);
    limits = λ place now v p. absurd (none p.below);
    idle = λ place now v p. absurd (none p.below);
  }
    where
      none : {n : ℕ} → n < 0 → ⊥
      none less = omega arith
  counts_at (suc i) side w within leads served opened =
      let found = slice_get_there r.views i within in
      let did = did_there i r.keys r.start end r.events r.answers r.views found.0 run.follows found.1 in
      let last = last_step r.keys i r.start w r.events r.answers r.views did.event did.answer did.at_event did.at_answer leads in
      at_next side did.event.side did.event.call did.answer i found.0 last.before w (record { at = record { event = did.at_event; answer = did.at_answer }; leads = last.leads; step = last.step; served = served }) leads found.1
      (counts_at i side last.before (omega (arith, within)) last.leads (served_before r.answers i served)) opened

-- ---- the clause

pub controllers_are_told : (r : Run) (end : World) → IsHonest r → IsRun r end → HaveHeardNothing r.start → ControllersAreTold r
controllers_are_told r end honest run quiet_first = everything.controllers_are_told Ready ready r end honest run (λ i side w within leads served opened. counts_at r end honest run quiet_first i side w within leads served opened)
    (λ i side w within leads served. marked_at r end honest run side i w within served leads)
