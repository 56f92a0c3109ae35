-- An end closes for being idle only where its idle timer had expired: the view before showed it set
-- to a moment that had come.
use Rattle.std.proofs.Common.{◌≡◌, ℕ, zero, suc, ◌+◌, ◌≤◌, max, Bool, true, false, not, ◌||◌, ◌==◌, length, take, List, [], ◌∷◌, ◌++◌, slice_get, Option, Some, None, Result, Ok, Err, ◌⊎◌, inl, inr, refl, sym, ap, ◌∙◌, subst, arith}
use Rattle.std.specs.Prelude.{if◌then◌else◌}
use Rattle.std.specs.List.{list_any}
use Rattle.std.proofs.lemmas.Bool.{leb-true, lt-ltb, or_parts, or_from}
use Rattle.std.proofs.lemmas.List.{append-nil}
use Rattle.quic_wire_core.specs.declared.shared.EcnCodepoint.{EcnCodepoint}
use Rattle.quic_wire_core.specs.declared.stream_id.Side.{Side}
use Rattle.quic_wire_core.specs.declared.stream_id.Side.TheVariants.{Client, Server}
use Rattle.quic_wire_core.specs.StreamId.{other_side}
use Rattle.quic_wire.specs.Items.{items}
use Rattle.quic_wire.specs.Value.{FrameValue}
use Rattle.quic_wire.specs.declared.frame.InvalidFrame.{InvalidFrame}
use Rattle.quic_packet.specs.Header.{key_phase, reserved_bits}
use Rattle.quic_packet.specs.Datagram.{Opening}
use Rattle.quic_recovery_core.specs.Duplicates.{is_duplicate}
use Rattle.quic_spaces.specs.Numbers.{expected, can_number, number_opened}
use Rattle.quic_time.specs.Timers.{has_come, each_timer}
use Rattle.quic_machine.specs.Arrival.{Arrival, delivered_by}
use Rattle.quic_machine.specs.declared.answers.State.{State}
use Rattle.quic_machine.specs.declared.answers.State.TheVariants as states
use Rattle.quic_machine.specs.declared.answers.DropReason.{DropReason}
use Rattle.quic_machine.specs.declared.answers.DropReason.TheVariants as drops
use Rattle.quic_machine.specs.declared.answers.LostReason.{LostReason}
use Rattle.quic_machine.specs.declared.answers.LostReason.TheVariants as reasons
use Rattle.quic_machine.specs.declared.run.RunEvent.{RunEvent}
use Rattle.quic_machine.specs.declared.run.Call.{Call}
use Rattle.quic_machine.specs.declared.run.Call.TheVariants as calls
use Rattle.quic_machine.specs.declared.run.Delivery.{Delivery}
use Rattle.quic_machine.specs.declared.run.Answer.{Answer}
use Rattle.quic_machine.specs.declared.run.Answer.TheVariants as answers
use Rattle.quic_machine.specs.declared.run.View.{View}
use Rattle.quic_machine.specs.Policy.{Policy}
use Rattle.quic_machine.specs.Closing.{Closing, ticked}
use Rattle.quic_machine.specs.Control.{Control}
use Rattle.quic_machine.specs.Heard.{Heard}
use Rattle.quic_machine.specs.Validation.{is_blocked, with_blocked}
use Rattle.quic_machine.specs.End.{End, with_closing, with_numbers, with_window, closed_by}
use Rattle.quic_machine.specs.Opens.{head, in_phase, opens_behind}
use Rattle.quic_machine.specs.Receive.{Fault, broke, too_many_pieces, closed_by_peer, reason_of, violation, is_empty, asks_in, is_urged, take_frame, take_items, take_payload, dropped, ends_as, by_state, opened_to, opened_as, opening, headed, Outcome, received_in, received, is_read, items_taken, drawn_if, with_ids_drawn, has_migrated, unopened_in}
use Rattle.quic_machine.specs.Poll.{Polled, may_seal, polled}
use Rattle.quic_machine.specs.Timeouts.{loss_judged, timed_out, timed_out_in}
use Rattle.quic_machine.specs.Machine.{World, Policies, IsStep, IsAnswer, IsDelivered, IsLeft, Follows, policy_at, end_at, view_of, end_left, after_call, after_delivered, reads_window, says_last, gave, fails}
use Rattle.quic_machine.specs.RunLaws.{one_run}
use Rattle.quic_machine.specs.FrameCases.{Settling, named, acked_keeps, losses_keep, frame_keeps, frame_leaves, items_keep, apart_leaves}
use Rattle.quic_machine.specs.Steps as steps
use Rattle.quic_machine.specs.LeaveCases.{Expired, by_timers, by_expiry}
use Rattle.quic_machine.specs.LeaveCases as expiring
use Rattle.quic_machine.specs.PollCases.{at_poll, by_poll, composes}
use Rattle.quic_machine.specs.CallCases.{Plain, is_poll, is_delivery, is_timeout, may_draw, by_plain_call}
use Rattle.quic_machine.specs.CallCases as cases
use Rattle.quic_headline.specs.Runs.{Run, Told, Intake, given_of, until, told_by, folded, handed, is_again, is_refused, packet_of, and_told, and_opened, and_handed, came_open}
use Rattle.quic_headline.specs.Observer.{Terms, Watch, Lens, lens_of, has_opened, moment_of, clock_behind, watch_sent, watch_given, is_timely, watch_moment, watch_came, watch_moved, watch_told, watch_from, watch}
use Rattle.quic_headline.specs.Moments.{timers_in}
use Rattle.quic_headline.specs.Isolated.{is_new}
use Rattle.quic_headline.specs.Headline.{IsHonest, IsRun, IsAt}
use Rattle.quic_headline.specs.Causes.{reason_in, WasIdle, IdleExpired}
use Rattle.quic_headline.specs.Rest.{view_behind}
use Rattle.quic_headline.proofs.Packets.Apart.{by_waits, by_next_id}
use Rattle.quic_headline.proofs.Packets.Closes.{by_closes}
use Rattle.quic_headline.proofs.Packets.Heard.{by_taken}
use Rattle.quic_headline.proofs.Packets.Moved.{by_migrated_if}
use Rattle.quic_headline.proofs.Packets.Probes.{may_leave}
use Rattle.quic_headline.proofs.Packets.ByKey.{came_open_is}
use Rattle.quic_headline.proofs.Packets.Intakes.{folded_more}
use Rattle.quic_headline.proofs.Packets.Window.{is_duplicate-is}
use Rattle.quic_headline.proofs.Places.Moments.{Grown, Moment, moment, last_view}
use Rattle.quic_headline.proofs.Places.Placed.{start_is}
use Rattle.quic_headline.proofs.Timers.Still.{was_open}
use Rattle.quic_headline.proofs.Isolated.Recalling.{Keeps, call_keeps, first_get, again_before}
use Rattle.quic_headline.proofs.Causes.Why.{Cause, was, applies, bound, refuses, exhausts, idles, left_why}

-- ---- the clock of an end

module _ (e : End) (now : ℕ) where
  -- it has come to this moment at most
  abbrev Timely : End → Type 0
  Timely x = x.closing.clock ≤ max e.closing.clock now

  settling : Settling Timely
  settling (steps.known n) x i = i
  settling s x i = i

  frame_timely : (f : FrameValue) (x : End) → Timely x → Timely (take_frame f x).end
  frame_timely = frame_keeps Timely (record {
    ack = λ rises a x i. acked_keeps Timely settling rises a (named a x) i;
    on_streams = λ f x on i. frame_leaves Timely f x on (λ t. i);
    apart = λ f x is i. apart_leaves Timely f x is (λ c. i) (λ c most. i);
    message = λ m x i. i;
  })

  payload_timely : (first : ℕ) (is : List (Result FrameValue InvalidFrame)) (x : End) → Timely x → Timely (take_payload first is x).end
  payload_timely first is x i = go (not (reserved_bits first == 0) || is_empty is)
    where
      go : (b : Bool) → Timely (if b then record { end = x; fault = Some violation } else take_items is x).end
      go true = i
      go false = items_keep Timely frame_timely is x i

  ends_timely : (fault : Option Fault) (asking urged : Bool) (n : ℕ) (mark : Option EcnCodepoint) (x : End) → Timely x → Timely (ends_as fault asking urged n mark x).end
  ends_timely None asking urged n mark x i = by_taken Timely n asking urged mark x (λ idle alive. i)
  ends_timely (Some (closed_by_peer close)) asking urged n mark x i = i
  ends_timely (Some (broke error)) asking urged n mark x i = i
  ends_timely (Some too_many_pieces) asking urged n mark x i = i

  same_time : e.closing.clock ≤ max e.closing.clock now
  same_time = omega arith

  state_timely : (s : State) (o : Opening) (arrival : Arrival) → arrival.now ≡ now → Timely (by_state s o arrival (with_numbers e (number_opened e.numbers o.number))).end
  state_timely states.Open o arrival is =
      let begins : End = with_closing (with_numbers e (number_opened e.numbers o.number)) (ticked e.closing arrival.now) in
      let asks = asks_in (items o.payload) in
      let within = items_taken o arrival e in
      let taken = take_payload o.first within begins in
      ends_timely taken.fault asks (is_urged arrival.mark asks within begins) o.number arrival.mark taken.end (payload_timely o.first within begins (here arrival.now is))
    where
      here : (n : ℕ) → n ≡ now → max e.closing.clock n ≤ max e.closing.clock now
      here n same = omega arith
  state_timely states.Closing o arrival is = same_time
  state_timely states.Drained o arrival is = same_time
  state_timely states.Failed o arrival is = same_time

  drawn_timely : (b : Bool) (p : Policy) (x : End) → Timely x → Timely (drawn_if b p x)
  drawn_timely true p x i = i
  drawn_timely false p x i = i

  unopened_timely : (s : State) (b : Bool) (arrival : Arrival) → arrival.now ≡ now → Timely (unopened_in s b arrival e).end
  unopened_timely states.Open true arrival is = here arrival.now is
    where
      here : (n : ℕ) → n ≡ now → max e.closing.clock n ≤ max e.closing.clock now
      here n same = omega arith
  unopened_timely states.Open false arrival is = same_time
  unopened_timely states.Closing b arrival is = same_time
  unopened_timely states.Drained b arrival is = same_time
  unopened_timely states.Failed b arrival is = same_time

  opened_timely : (o : Opening) (arrival : Arrival) → arrival.now ≡ now → Timely (opened_to o arrival e).end
  opened_timely o arrival is = go (key_phase o.first) (is_duplicate e.numbers.opened o.number)
    where
      go : (phase again : Bool) → Timely (if phase then dropped drops.KeyPhase e else (if again then dropped drops.Duplicate e else by_state e.closing.state o arrival (with_numbers e (number_opened e.numbers o.number)))).end
      go true again = same_time
      go false true = same_time
      go false false = state_timely e.closing.state o arrival is

  packet_timely : (o : Option Opening) (p : Policy) (arrival : Arrival) → arrival.now ≡ now → Timely (opened_as o p arrival e).end
  packet_timely None p arrival is = unopened_timely e.closing.state arrival.last arrival is
  packet_timely (Some o) p arrival is =
      let out = with_ids_drawn p (opened_to o arrival e) in
      let timely = drawn_timely (is_read (opened_to o arrival e).answer) p (opened_to o arrival e).end (opened_timely o arrival is) in
      by_migrated_if Timely p o arrival.remote out.end (λ c. timely) (λ c most. timely) (has_migrated o arrival.remote e out) timely

  headed_timely : (r : Result (List ℕ) DropReason) (p : Policy) (arrival : Arrival) (d : List ℕ) → arrival.now ≡ now → Timely (headed r p e arrival d).end
  headed_timely (Err error) p arrival d is = same_time
  headed_timely (Ok id) p arrival d is = packet_timely (opening p e d) p arrival is

  -- ---- a poll and a moment

  polled_timely : (p : Policy) → Timely (polled p e now).end
  polled_timely p = by_poll p e now (λ (q : Polled). Timely q.end) (record {
    silent = same_time;
    failed = same_time;
    nothing = λ c. ticks;
    repeats = λ closing. by_closes p (with_closing e (ticked e.closing now)) (λ (q : Polled). Timely q.end) ticks (λ f goes. ticks);
    closes = λ reason c limit. by_closes p (closed_by reason (at_poll e now c)) (λ (q : Polled). Timely q.end) ticks (λ f goes. ticks);
    gives = λ leaving c left still may ready some.
        let x : End = at_poll e now c in
        subst (λ (z : Closing). z.clock ≤ max e.closing.clock now) (sym (composes leaving x (may_leave e now leaving x ready)).closing) ticks;
  })
    where
      ticks : max e.closing.clock now ≤ max e.closing.clock now
      ticks = omega arith

  each_timely : (s : Expired) (x : End) → Timely x → Timely (expiring.after s x)
  each_timely expiring.of_acks x i = i
  each_timely s x i = i

  judged_timely : (o : Option ℕ) (x : End) → Timely x → Timely (loss_judged o x)
  judged_timely None x i = i
  judged_timely (Some moment) x i = losses_keep Timely settling x i

  timed_timely : (p : Policy) → Timely (timed_out p e now).end
  timed_timely p = by_expiry p e now Timely same_time (λ b. by_waits Timely b (with_closing e (ticked e.closing now)) ticks ticks)
      (λ expiry. by_timers p.words Timely Timely judged_timely each_timely (λ f i. i) (λ f i. i) expiry (with_closing e (ticked e.closing now)) ticks)
    where
      ticks : max e.closing.clock now ≤ max e.closing.clock now
      ticks = omega arith

-- any other call leaves it, where the end stays open
module _ (e : End) where
  abbrev SameClock : End → Type 0
  SameClock x = x.closing.state ≡ states.Open → x.closing.clock ≡ e.closing.clock

  pub clock_stays : (p : Policy) (theirs : List (List ℕ)) (call : Call) (a : Answer) → may_draw call ≡ false → SameClock (after_call p e theirs call a)
  clock_stays p theirs call a other = by_plain_call p e theirs SameClock call a keep
    where
      none : (b c d : Bool) → (b || (c || d)) ≡ false → (b ≡ false) × ((c ≡ false) × (d ≡ false))
      none false false false is = (refl, (refl, refl))
      none true c d is = cc
      none false true d is = cc
      none false false true is = cc

      parts : (is_poll call ≡ false) × ((is_delivery call ≡ false) × (is_timeout call ≡ false))
      parts = none (is_poll call) (is_delivery call) (is_timeout call) other

      keep : Plain p e call SameClock
      keep (cases.times now expiry) may = let clash : ◌≡◌ {A = Bool} true false = sym may ∙ parts.1.1 in cc
      keep (cases.polls now) may = let clash : ◌≡◌ {A = Bool} true false = sym may ∙ parts.0 in cc
      keep (cases.hears arrival d) may = let clash : ◌≡◌ {A = Bool} true false = sym may ∙ parts.1.0 in cc
      keep (cases.closes reason f now) may = λ opened. cc
      keep (cases.waits now b) may = let clash : ◌≡◌ {A = Bool} true false = sym may ∙ parts.1.1 in cc
      keep (cases.changes_id b) may = by_next_id SameClock e b (λ opened. refl) (λ c opened. refl) (λ c most opened. refl)
      keep c may = λ opened. refl

-- ---- a delivery of what by the lists is nothing new

module _ (p : Policy) (e : End) (arrival : Arrival) (i : Intake) (k : Keeps e i) where
  -- it leaves the clock of an end that stays open
  abbrev Same : End → Type 0
  Same x = x.closing.state ≡ states.Open → x.closing.clock ≡ e.closing.clock

  old_unopened : (s : State) (b : Bool) → Same (unopened_in s b arrival e).end
  old_unopened states.Open true opened = cc
  old_unopened states.Open false opened = refl
  old_unopened states.Closing b opened = refl
  old_unopened states.Drained b opened = refl
  old_unopened states.Failed b opened = refl

  old_drawn : (o : Opening) → is_new (in_phase (Some o)) i.opened ≡ false → Same (with_ids_drawn p (opened_to o arrival e)).end
  old_drawn o = go (key_phase o.first)
    where
      new : Outcome
      new = by_state e.closing.state o arrival (with_numbers e (number_opened e.numbers o.number))

      twice_known : is_again o.number i.opened ≡ true → is_duplicate e.numbers.opened o.number ≡ true
      twice_known is = is_duplicate-is (k.further ++ i.opened) e.numbers.opened o.number k.noted ∙ again_before o.number k.further i.opened is

      tested : (twice again : Bool) → (again ≡ true → twice ≡ true) → not again ≡ false → (let made = if twice then dropped drops.Duplicate e else new in Same (drawn_if (is_read made.answer) p made.end))
      tested true again same old opened = refl
      tested false true same old opened = let clash : ◌≡◌ {A = Bool} false true = same refl in cc
      tested false false same old opened = cc

      go : (phase : Bool) → is_new (if phase then None else Some o) i.opened ≡ false → (let made = if phase then dropped drops.KeyPhase e else (if is_duplicate e.numbers.opened o.number then dropped drops.Duplicate e else new) in Same (drawn_if (is_read made.answer) p made.end))
      go true old opened = refl
      go false old opened = tested (is_duplicate e.numbers.opened o.number) (is_again o.number i.opened) twice_known old opened

  old_opened : (o : Opening) → is_new (in_phase (Some o)) i.opened ≡ false → Same (opened_as (Some o) p arrival e).end
  old_opened o old =
      let out = with_ids_drawn p (opened_to o arrival e) in
      by_migrated_if Same p o arrival.remote out.end (λ c. old_drawn o old) (λ c most. old_drawn o old) (has_migrated o arrival.remote e out) (old_drawn o old)

  old_packet : (o : Option Opening) → is_new (in_phase o) i.opened ≡ false → Same (opened_as o p arrival e).end
  old_packet None old = old_unopened e.closing.state arrival.last
  old_packet (Some o) old = old_opened o old

  old_headed : (r : Result (List ℕ) DropReason) (d : List ℕ) → is_new (opens_behind r p (expected e.numbers) d) i.opened ≡ false → Same (headed r p e arrival d).end
  old_headed (Err error) d old opened = refl
  old_headed (Ok id) d old opened = old_packet (opening p e d) old opened

-- ---- the observer's clock

sent_clock : (taker : Policy) (ds : List (List ℕ)) (w : Watch) → ((watch_sent taker ds w).clock ≡ w.clock) × ((watch_sent taker ds w).intake ≡ w.intake)
sent_clock taker [] w = (refl, refl)
sent_clock taker (d ∷ ds) w = (refl, refl)

given_clock : (b : Bool) (l : Lens) (w : Watch) → ((watch_given b l w).clock ≡ w.clock) × ((watch_given b l w).intake ≡ w.intake)
given_clock true l w = sent_clock l.taker w.left w
given_clock false l w = (refl, refl)

moment_clock : (b : Bool) (t : Terms) (w : Watch) → ((watch_moment b t w).clock ≡ w.clock) × ((watch_moment b t w).intake ≡ w.intake)
moment_clock true t w = (refl, refl)
moment_clock false t w = (refl, refl)

module _ (l : Lens) (t : Told) (w : Watch) where
  abbrev after_it : Intake
  after_it = and_told l.own l.peer_gave t w.intake

  abbrev came_then : Watch
  came_then = watch_came l.terms after_it (clock_behind w.clock (moment_of t.state (has_opened w.intake after_it) t.call)) (watch_moved l.serves after_it t.call w)

  pub told_clock : (watch_told l t w).clock ≡ clock_behind w.clock (moment_of t.state (has_opened w.intake after_it) t.call)
  told_clock = (given_clock (gave t.answer) l (watch_moment (is_timely t.state t.call) l.terms came_then)).0 ∙ (moment_clock (is_timely t.state t.call) l.terms came_then).0

  pub told_intake : (watch_told l t w).intake ≡ after_it
  told_intake = (given_clock (gave t.answer) l (watch_moment (is_timely t.state t.call) l.terms came_then)).1 ∙ (moment_clock (is_timely t.state t.call) l.terms came_then).1

-- it never steps back
grows_clock : (c : ℕ) (o : Option ℕ) → c ≤ clock_behind c o
grows_clock c None = omega arith
grows_clock c (Some now) = omega arith

-- a poll and a timeout tell it their moment, and so does a delivery that opens
poll_moment : (b : Bool) (now : ℕ) → moment_of states.Open b (calls.Poll now) ≡ Some now
poll_moment true now = refl
poll_moment false now = refl

timeout_moment : (b : Bool) (now : ℕ) → moment_of states.Open b (calls.Timeout now) ≡ Some now
timeout_moment true now = refl
timeout_moment false now = refl

new_opened : (o : Option Opening) (a : Answer) (i : Intake) → is_new o i.opened ≡ true → has_opened i (and_opened o a i) ≡ true
new_opened None a i new = cc
new_opened (Some o) a i new = go (is_again o.number i.opened) new
  where
    go : (b : Bool) → not b ≡ true → has_opened i (if b then i else record {
      opened = o.number ∷ i.opened;
      took = (if is_refused a then i.took else packet_of o ∷ i.took);
      part = (if is_refused a then Some (packet_of o) else i.part);
    }) ≡ true
    go true is = cc
    go false is = lt-ltb (length i.opened) (length (o.number ∷ i.opened)) (omega arith)

-- ---- a step

-- an end recalls what came, and its clock isn't ahead of the observer's while it is open
record Knows (e : End) (w : Watch) : Type 0 where
  keeps : Keeps e w.intake
  ticks : e.closing.state ≡ states.Open → e.closing.clock ≤ w.clock

within : (x c m now : ℕ) → x ≤ max c now → c ≤ m → x ≤ max m now
within x c m now up below = omega arith

module _ (p : Policy) (control : Control) (heard : Heard) (e : End) (theirs rest final : List (List ℕ)) (i : Intake) (c : ℕ) (first : theirs ++ rest ≡ final) (k : Keeps e i) (below : e.closing.clock ≤ c) where
  abbrev Below : Call → Answer → Type 0
  Below call a = (end_left p control heard e theirs call a).closing.state ≡ states.Open
      → (end_left p control heard e theirs call a).closing.clock ≤ clock_behind c (moment_of states.Open (has_opened i (and_handed states.Open (handed final call a) p a i)) call)

  -- where the clock stays, or comes to a moment that the observer is told
  stays_below : (x : ℕ) (o : Option ℕ) → x ≡ e.closing.clock → x ≤ clock_behind c o
  stays_below x o same = let up = grows_clock c o in omega arith

  comes_below : (x now : ℕ) (o : Option ℕ) → o ≡ Some now → x ≤ max e.closing.clock now → x ≤ clock_behind c o
  comes_below x now o is up = subst (λ (m : Option ℕ). x ≤ clock_behind c m) (sym is) (within x e.closing.clock c now up below)

  arrives_below : (o : Option (List ℕ)) (delivery : Delivery) (a : Answer) → e.closing.state ≡ states.Open → slice_get theirs delivery.index ≡ o → IsDelivered p e delivery o a → fails a ≡ false
      → (after_delivered p e (delivered_by (says_last a) delivery) o).closing.state ≡ states.Open
      → (after_delivered p e (delivered_by (says_last a) delivery) o).closing.clock ≤ clock_behind c (moment_of states.Open (has_opened i (and_handed states.Open (handed final (calls.Deliver delivery) a) p a i)) (calls.Deliver delivery))
  arrives_below None delivery a here at is served opened = stays_below e.closing.clock _ refl
  arrives_below (Some d) delivery a here at (inr is) served opened = let clash : ◌≡◌ {A = Bool} true false = sym (ap fails is) ∙ served in cc
  arrives_below (Some d) delivery a here at (inl is) served opened = subst (λ (h : Option (List ℕ)). made.closing.clock ≤ clock_behind c (moment_of states.Open (has_opened i (and_handed states.Open h p a i)) (calls.Deliver delivery))) (sym there) (go (is_new (came_open p i.took a d) i.opened) refl)
    where
      arrival : Arrival
      arrival = delivered_by (says_last a) delivery

      header : Result (List ℕ) DropReason
      header = head e arrival.remote d

      made : End
      made = (received p e arrival d).end

      there : handed final (calls.Deliver delivery) a ≡ Some d
      there = subst (λ (b : Answer). handed final (calls.Deliver delivery) b ≡ Some d) (sym is) (first_get theirs rest final delivery.index d first at)

      -- an open end reads what its header says
      reads : received p e arrival d ≡ headed header p e arrival d
      reads = ap (λ (s : State). received_in s p e arrival d) here

      opens : came_open p i.took a d ≡ opens_behind header p (expected e.numbers) d
      opens = ap (λ (b : Answer). came_open p i.took b d) (is ∙ ap (λ (x : Outcome). answers.Deliver x.answer) reads) ∙ came_open_is p e arrival d i.took k.expected

      go : (new : Bool) → is_new (came_open p i.took a d) i.opened ≡ new → made.closing.clock ≤ clock_behind c (moment_of states.Open (has_opened i (and_handed states.Open (Some d) p a i)) (calls.Deliver delivery))
      go true new =
          comes_below made.closing.clock delivery.now _ (ap (λ (b : Bool). moment_of states.Open b (calls.Deliver delivery)) (new_opened (came_open p i.took a d) a i new))
          (subst (λ (x : Outcome). x.end.closing.clock ≤ max e.closing.clock delivery.now) (sym reads) (headed_timely e delivery.now header p arrival d refl))
      go false old =
          stays_below made.closing.clock _ (subst (λ (x : Outcome). x.end.closing.state ≡ states.Open → x.end.closing.clock ≡ e.closing.clock) (sym reads)
          (old_headed p e arrival i k header d (ap (λ (o : Option Opening). is_new o i.opened) (sym opens) ∙ old)) opened)

  -- the moment that the observer is told
  abbrev seen : Call → Answer → Bool
  seen call a = has_opened i (and_handed states.Open (handed final call a) p a i)

  pub call_below : (call : Call) (a : Answer) → e.closing.state ≡ states.Open → IsAnswer p (reads_window control heard call e) theirs call a → fails a ≡ false → Below call a
  call_below (calls.Poll now) a here is served opened = comes_below _ now (moment_of states.Open (seen (calls.Poll now) a) (calls.Poll now)) (poll_moment (seen (calls.Poll now) a) now) (polled_timely (with_blocked (with_window e (control [])) (is_blocked e heard)) now p)
  call_below (calls.Timeout now) a here is served opened = comes_below _ now (moment_of states.Open (seen (calls.Timeout now) a) (calls.Timeout now)) (timeout_moment (seen (calls.Timeout now) a) now) (timed_timely e now p)
  call_below (calls.Deliver delivery) a here is served opened = arrives_below (slice_get theirs delivery.index) delivery a here refl is served opened
  call_below call a here is served opened = stays_below _ (moment_of states.Open (seen call a) call) (clock_stays e p theirs call a refl opened)

-- an end that is open behind a call was open before it, whatever a poll reads
pub left_open : (p : Policy) (control : Control) (heard : Heard) (e : End) (theirs : List (List ℕ)) (call : Call) (a : Answer) → (end_left p control heard e theirs call a).closing.state ≡ states.Open → e.closing.state ≡ states.Open
left_open p control heard e theirs (calls.Poll now) a opened = was_open p (with_blocked (with_window e (control [])) (is_blocked e heard)) theirs (calls.Poll now) a opened
left_open p control heard e theirs call a opened = was_open p e theirs call a opened

-- what an end knows behind a call
knows_step : (l : Lens) (control : Control) (heard : Heard) (e next : End) (theirs rest : List (List ℕ)) (call : Call) (a : Answer) (w : Watch) → theirs ++ rest ≡ l.peer_gave → fails a ≡ false
    → IsAnswer l.own (reads_window control heard call e) theirs call a → next ≡ end_left l.own control heard e theirs call a → Knows e w → Knows next (watch_told l (record { call = call; answer = a; state = e.closing.state }) w)
knows_step l control heard e next theirs rest call a w first served is left k = subst (λ (x : End). Knows x (watch_told l t w)) (sym left) (record {
  keeps = subst (λ (j : Intake). Keeps made j) (sym (told_intake l t w)) (call_keeps l.own control heard e theirs rest l.peer_gave call a w.intake first served is k.keeps);
  ticks = λ opened. subst (λ (n : ℕ). made.closing.clock ≤ n) (sym (told_clock l t w)) (ticks opened (left_open l.own control heard e theirs call a opened));
})
  where
    t : Told
    t = record { call = call; answer = a; state = e.closing.state }

    made : End
    made = end_left l.own control heard e theirs call a

    ticks : made.closing.state ≡ states.Open → e.closing.state ≡ states.Open
        → made.closing.clock ≤ clock_behind w.clock (moment_of e.closing.state (has_opened w.intake (and_handed e.closing.state (handed l.peer_gave call a) l.own a w.intake)) call)
    ticks opened here =
        subst (λ (s : State). made.closing.clock ≤ clock_behind w.clock (moment_of s (has_opened w.intake (and_handed s (handed l.peer_gave call a) l.own a w.intake)) call)) (sym here)
        (call_below l.own control heard e theirs rest l.peer_gave w.intake w.clock first k.keeps (k.ticks here) call a here is served opened)

-- ---- both ends

module _ (r : Run) (end : World) (honest : IsHonest r) (run : IsRun r end) where
  -- what the observer of an end knows once these calls were told
  abbrev watched : Side → List Told → Watch
  watched side told = folded (watch_told (lens_of r side)) told (watch_from (end_at side r.start) (given_of r side))

  abbrev BothKnow : World → List Told → List Told → Type 0
  BothKnow w client server = Knows w.client (watched Client client) × Knows w.server (watched Server server)

  -- the end at which a call is made
  acting : (side : Side) (control : Control) (heard : Heard) (e next : End) (theirs rest : List (List ℕ)) (call : Call) (a : Answer) (told : List Told) → fails a ≡ false → theirs ++ rest ≡ given_of r (other_side side)
      → IsAnswer (policy_at side r.keys) (reads_window control heard call e) theirs call a → IsLeft (fails a) (policy_at side r.keys) control heard e theirs call a next → Knows e (watched side told)
      → Knows next (watched side (told ++ record { call = call; answer = a; state = e.closing.state } ∷ []))
  acting side control heard e next theirs rest call a told served first is left k =
      let t : Told = record { call = call; answer = a; state = e.closing.state } in
      subst (λ (w : Watch). Knows next w) (sym (folded_more (watch_told (lens_of r side)) told t (watch_from (end_at side r.start) (given_of r side))))
      (knows_step (lens_of r side) control heard e next theirs rest call a (watched side told) first served is (subst (λ (b : Bool). IsLeft b (policy_at side r.keys) control heard e theirs call a next) served left) k)

  -- the other end
  resting : (side : Side) (e next : End) (told : List Told) → next ≡ e → Knows e (watched side told) → Knows next (watched side (told ++ []))
  resting side e next told same k = subst (λ (x : End). Knows x (watched side (told ++ []))) (sym same) (subst (λ (ts : List Told). Knows e (watched side ts)) (sym (append-nil told)) k)

  step_knows : (w next : World) (event : RunEvent) (a : Answer) (client server : List Told) → BothKnow w client server → Unit {0} → IsStep r.keys w event a next → fails a ≡ false → Grown w end → Grown next end
      → BothKnow next (client ++ told_by Client w.client.closing.state event a) (server ++ told_by Server w.server.closing.state event a)
  step_knows w next event a client server both any step served before behind = go event.side event.call step
    where
      go : (side : Side) (call : Call) → IsStep r.keys w (record { side = side; call = call }) a next
          → BothKnow next (client ++ told_by Client w.client.closing.state (record { side = side; call = call }) a) (server ++ told_by Server w.server.closing.state (record { side = side; call = call }) a)
      go Client call s = (
        acting Client w.client_control w.client_heard w.client next.client w.from_server before.server.0 call a client served (before.server.1 ∙ sym run.from_server) s.answer s.end both.0,
        resting Server w.server next.server server (ap (λ (v : World). v.server) s.others) both.1,
      )
      go Server call s = (
        resting Client w.client next.client client (ap (λ (v : World). v.client) s.others) both.0,
        acting Server w.server_control w.server_heard w.server next.server w.from_client before.client.0 call a server served (before.client.1 ∙ sym run.from_client) s.answer s.end both.1,
      )

  first_knows : (side : Side) → Knows (end_at side r.start) (watched side [])
  first_knows side = subst (λ (e : End). Knows e (watch_from e (given_of r side))) (sym (start_is r.start honest.start side)) (record { keeps = record { seen = λ is. refl; further = []; noted = refl; expected = refl }; ticks = λ opened. omega arith })

  abbrev Place : ℕ → Type 0
  Place i = Moment r.keys end (λ event a client server. Unit {0}) BothKnow step_knows r.start i r.events r.answers r.views (until r Client i) (until r Server i)

  place_at : (i : ℕ) → list_any fails (take i r.answers) ≡ false → Place i
  place_at i served = moment r.keys end (λ event a client server. Unit {0}) BothKnow step_knows i r.start r.events r.answers r.views [] [] (first_knows Client, first_knows Server) (λ j event a at_event at_answer. tt) run.follows served

  knows_at : (side : Side) (i : ℕ) (w : World) → BothKnow w (until r Client i) (until r Server i) → Knows (end_at side w) (watch r side i)
  knows_at Client i w both = both.0
  knows_at Server i w both = both.1

-- ---- where a reason is seen first

-- the reason that the view before a place shows, or the one there was
abbrev reason_behind : Side → Option LostReason → ℕ → List View → Option LostReason
reason_behind side o zero views = o
reason_behind side o (suc i) [] = o
reason_behind side o (suc i) (v ∷ views) = reason_behind side (reason_in v side) i views

is_idle : (o : Option LostReason) → (o ≡ Some reasons.Idle) ⊎ (o ≡ Some reasons.Idle → ⊥)
is_idle (Some reasons.Idle) = inl refl
is_idle (Some reason) = inr (λ is. cc)
is_idle None = inr (λ is. cc)

-- what stands there is one
value_or : {X : Type 0} → X → Option X → X
value_or x None = x
value_or x (Some y) = y

some_same : {X : Type 0} (x y : X) → Some x ≡ Some y → x ≡ y
unfolding value_or
some_same x y is = ap (value_or x) is

record First (side : Side) (o : Option LostReason) (views : List View) (place : ℕ) : Type 0 where
  earlier : ℕ
  up_to : earlier ≤ place
  view : View
  there : slice_get views earlier ≡ Some view
  is : reason_in view side ≡ Some reasons.Idle
  not_before : reason_behind side o earlier views ≡ Some reasons.Idle → ⊥

first_seen : (side : Side) (o : Option LostReason) (views : List View) (place : ℕ) (view : View) → (o ≡ Some reasons.Idle → ⊥) → slice_get views place ≡ Some view → reason_in view side ≡ Some reasons.Idle → First side o views place
first_seen side o [] place view fresh at is = cc
first_seen side o (v ∷ views) place view fresh at is = go place at (is_idle (reason_in v side)) (λ n there later. first_seen side (reason_in v side) views n view later there is)
  where
    go : (n : ℕ) → slice_get (v ∷ views) n ≡ Some view → (reason_in v side ≡ Some reasons.Idle) ⊎ (reason_in v side ≡ Some reasons.Idle → ⊥)
        → ((m : ℕ) → slice_get views m ≡ Some view → (reason_in v side ≡ Some reasons.Idle → ⊥) → First side (reason_in v side) views m) → First side o (v ∷ views) n
    go n there (inl now) more = record { earlier = 0; up_to = omega arith; view = v; there = refl; is = now; not_before = fresh }
    go zero there (inr later) more = absurd (later (ap (λ (x : View). reason_in x side) (some_same v view there) ∙ is))
    go (suc n) there (inr later) more =
        let rest = more n there later in
        record { earlier = suc rest.earlier; up_to = (let below = rest.up_to in omega arith); view = rest.view; there = rest.there; is = rest.is; not_before = rest.not_before }

reason_seen : (side : Side) (w : World) → reason_in (view_of w) side ≡ (end_at side w).closing.reason
reason_seen Client w = refl
reason_seen Server w = refl

-- the reason of an end at a place is the one that is shown before it
reason_there : (k : Policies) (side : Side) (i : ℕ) (w end : World) (events : List RunEvent) (answers : List Answer) (views : List View) → Follows k w (take i events) (take i answers) (take i views) end
    → reason_behind side (end_at side w).closing.reason i views ≡ (end_at side end).closing.reason
reason_there k side zero w end events answers views f = ap (λ (v : World). (end_at side v).closing.reason) (sym f)
reason_there k side (suc i) w end [] [] [] f = ap (λ (v : World). (end_at side v).closing.reason) (sym f)
reason_there k side (suc i) w end (e ∷ events) [] [] f = ap (λ (v : World). (end_at side v).closing.reason) (sym f)
reason_there k side (suc i) w end [] [] (v ∷ views) f = absurd f
reason_there k side (suc i) w end (e ∷ events) [] (v ∷ views) f = absurd f
reason_there k side (suc i) w end [] (a ∷ answers) views f = absurd f
reason_there k side (suc i) w end (e ∷ events) (a ∷ answers) [] f = absurd f
reason_there k side (suc i) w end (e ∷ events) (a ∷ answers) (v ∷ views) f =
    ap (λ (o : Option LostReason). reason_behind side o i views) (ap (λ (u : View). reason_in u side) f.2 ∙ reason_seen side f.0) ∙ reason_there k side i f.0 end events answers views f.3

-- ---- the event at a place

-- Behind each view there is one, with its answer, and a step that leads to what the view shows:
-- what follows of that is so.
there_at : (k : Policies) (w end : World) (events : List RunEvent) (told : List Answer) (views : List View) → Follows k w events told views end → (j : ℕ) (v : View) → slice_get views j ≡ Some v → (P : Type 0)
    → ((before next : World) (event : RunEvent) (a : Answer) → Follows k w (take j events) (take j told) (take j views) before → slice_get events j ≡ Some event → slice_get told j ≡ Some a → IsStep k before event a next → v ≡ view_of next → P) → P
there_at k w end events told [] f j v at P go_on = cc
there_at k w end [] [] (u ∷ views) f j v at P go_on = absurd f
there_at k w end (e ∷ events) [] (u ∷ views) f j v at P go_on = absurd f
there_at k w end [] (a ∷ told) (u ∷ views) f j v at P go_on = absurd f
there_at k w end (e ∷ events) (a ∷ told) (u ∷ views) f zero v at P go_on = let same : u ≡ v = cc in go_on w f.0 e a refl refl refl f.1 (sym same ∙ f.2)
there_at k w end (e ∷ events) (a ∷ told) (u ∷ views) f (suc j) v at P go_on =
    there_at k f.0 end events told views f.3 j v at P (λ before next event b came at_event at_answer step seen. go_on before next event b (f.0, f.1, f.2, came) at_event at_answer step seen)

-- the first so many are served where more are
served_less : (answers : List Answer) (i j : ℕ) → i ≤ j → list_any fails (take j answers) ≡ false → list_any fails (take i answers) ≡ false
served_less answers zero j less served = refl
served_less [] (suc i) j less served = refl
served_less (b ∷ answers) (suc i) zero less served = absurd (omega arith)
served_less (b ∷ answers) (suc i) (suc j) less served =
    let both = or_parts (fails b) (list_any fails (take j answers)) served in
    or_from (fails b) (list_any fails (take i answers)) both.0 (served_less answers i j (omega arith) both.1)

-- what stands before a place
before_there : {X : Type 0} (xs : List X) (j : ℕ) (x : X) → slice_get xs (suc j) ≡ Some x → (y : X) × (slice_get xs j ≡ Some y)
before_there [] j x at = cc
before_there (y ∷ xs) zero x at = (y, refl)
before_there (y ∷ xs) (suc j) x at = before_there xs j x at

-- ---- a step that lets an end be idle

-- the moment that is handled at an open end, up to which its idle timer has come
record Idles (e : End) (call : Call) (a : Answer) : Type 0 where
  now : ℕ
  called : call ≡ calls.Timeout now
  answered : a ≡ answers.Timeout (Ok tt)
  was_open : e.closing.state ≡ states.Open
  come : has_come e.timers.idle (max e.closing.clock now) ≡ true

refused_not : (f : Fault) → reason_of f ≡ reasons.Idle → ⊥
refused_not (broke error) is = cc
refused_not too_many_pieces is = cc
refused_not (closed_by_peer close) is = cc

bounds_not : (numbered sealed : Bool) → (if not numbered then Some reasons.NumberLimit else (if not sealed then Some reasons.KeyLimit else None)) ≡ Some reasons.Idle → ⊥
bounds_not false sealed is = cc
bounds_not true false is = cc
bounds_not true true is = cc

timeout_said : (p : Policy) (e : End) (now : ℕ) (a : Answer) → (a ≡ answers.Timeout (timed_out p e now).answer) ⊎ (a ≡ answers.Timeout (Err (record {}))) → fails a ≡ false → e.closing.state ≡ states.Open → a ≡ answers.Timeout (Ok tt)
timeout_said p e now a (inl is) served here = subst (λ (s : State). a ≡ answers.Timeout (timed_out_in s p e now).answer) here is
timeout_said p e now a (inr is) served here = let clash : ◌≡◌ {A = Bool} true false = sym (ap fails is) ∙ served in cc

idle_of : (p : Policy) (control : Control) (heard : Heard) (e : End) (theirs : List (List ℕ)) (call : Call) (a : Answer) → IsAnswer p (reads_window control heard call e) theirs call a → fails a ≡ false → (e.closing.reason ≡ Some reasons.Idle → ⊥)
    → Cause p e call a reasons.Idle → Idles e call a
idle_of p control heard e theirs call a is served fresh (was old) = absurd (fresh old)
idle_of p control heard e theirs call a is served fresh (applies close same here for) = cc
idle_of p control heard e theirs call a is served fresh (bound here limit) = absurd (bounds_not (can_number e.numbers) (may_seal p e) limit)
idle_of p control heard e theirs call a is served fresh (refuses f for) = absurd (refused_not f for)
idle_of p control heard e theirs call a is served fresh (exhausts here last for) = cc
idle_of p control heard e theirs call a is served fresh (idles now same here come for) = record {
  now = now;
  called = same;
  answered = timeout_said p e now a (subst (λ (c : Call). IsAnswer p (reads_window control heard c e) theirs c a) same is) served here;
  was_open = here;
  come = come;
}

-- at the side of the end
step_idles : (k : Policies) (w next : World) (event : RunEvent) (a : Answer) (side : Side) → fails a ≡ false → IsStep k w event a next → ((end_at side w).closing.reason ≡ Some reasons.Idle → ⊥) → (end_at side next).closing.reason ≡ Some reasons.Idle
    → (event.side ≡ side) × Idles (end_at side w) event.call a
step_idles k w next event a side served step fresh shown = go event.side event.call side step fresh shown
  where
    acting : (p : Policy) (control : Control) (heard : Heard) (e x : End) (theirs : List (List ℕ)) (call : Call) → IsAnswer p (reads_window control heard call e) theirs call a → IsLeft (fails a) p control heard e theirs call a x
        → (e.closing.reason ≡ Some reasons.Idle → ⊥) → x.closing.reason ≡ Some reasons.Idle → Idles e call a
    acting p control heard e x theirs call is left new seen =
        let same : x ≡ end_left p control heard e theirs call a = subst (λ (b : Bool). IsLeft b p control heard e theirs call a x) served left in
        idle_of p control heard e theirs call a is served new (left_why p control heard e theirs call a reasons.Idle (sym (ap (λ (y : End). y.closing.reason) same) ∙ seen))

    go : (at : Side) (call : Call) (side : Side) → IsStep k w (record { side = at; call = call }) a next → ((end_at side w).closing.reason ≡ Some reasons.Idle → ⊥) → (end_at side next).closing.reason ≡ Some reasons.Idle
        → (at ≡ side) × Idles (end_at side w) call a
    go Client call Client s new seen = (refl, acting k.client w.client_control w.client_heard w.client next.client w.from_server call s.answer s.end new seen)
    go Server call Server s new seen = (refl, acting k.server w.server_control w.server_heard w.server next.server w.from_client call s.answer s.end new seen)
    go Client call Server s new seen = absurd (new (sym (ap (λ (v : World). v.server.closing.reason) s.others) ∙ seen))
    go Server call Client s new seen = absurd (new (sym (ap (λ (v : World). v.client.closing.reason) s.others) ∙ seen))

-- ---- the clause

timers_shown : (side : Side) (w : World) → timers_in (view_of w) side ≡ each_timer (end_at side w).timers
timers_shown Client w = refl
timers_shown Server w = refl

come_moment : (o : Option ℕ) (clock : ℕ) → has_come o clock ≡ true → (moment : ℕ) × ((o ≡ Some moment) × (moment ≤ clock))
come_moment None clock come = cc
come_moment (Some moment) clock come = (moment, (refl, leb-true moment clock come))

pub idle_expired : (r : Run) (end : World) → IsHonest r → IsRun r end → IdleExpired r
idle_expired r end honest run side place shows = there_at r.keys r.start end r.events r.answers r.views run.follows f.earlier f.view f.there (WasIdle r side place) at_event
  where
    fresh : (end_at side r.start).closing.reason ≡ Some reasons.Idle → ⊥
    fresh is = let clash : ◌≡◌ {A = Option LostReason} None (Some reasons.Idle) = sym (ap (λ (e : End). e.closing.reason) (start_is r.start honest.start side)) ∙ is in cc

    f : First side (end_at side r.start).closing.reason r.views place
    f = first_seen side (end_at side r.start).closing.reason r.views place shows.view fresh shows.there shows.is

    within_run : (suc f.earlier ≤ place + 1) × (f.earlier ≤ place + 1)
    within_run = let below = f.up_to in (omega arith, omega arith)

    -- the end there
    p : Place r end honest run f.earlier
    p = place_at r end honest run f.earlier (served_less r.answers f.earlier (place + 1) within_run.1 shows.served)

    w : World
    w = p.world

    e : End
    e = end_at side w

    not_yet : e.closing.reason ≡ Some reasons.Idle → ⊥
    not_yet is = f.not_before (reason_there r.keys side f.earlier r.start w r.events r.answers r.views p.came ∙ is)

    knows : Knows e (watch r side f.earlier)
    knows = knows_at r end honest run side f.earlier w p.holds

    served_there : (answers : List Answer) (i : ℕ) (a : Answer) → list_any fails (take (suc i) answers) ≡ false → slice_get answers i ≡ Some a → fails a ≡ false
    served_there [] i a served at = cc
    served_there (b ∷ answers) zero a served at = let same : b ≡ a = cc in ap fails (sym same) ∙ (or_parts (fails b) false served).0
    served_there (b ∷ answers) (suc i) a served at = served_there answers i a (or_parts (fails b) (list_any fails (take (suc i) answers)) served).1 at

    -- the view before it
    shown_before : (j : ℕ) → f.earlier ≡ j → (moment now : ℕ) (call : Call) (a : Answer) → IsAt r f.earlier side (calls.Timeout now) (answers.Timeout (Ok tt)) → e.timers.idle ≡ Some moment → moment ≤ max (watch r side f.earlier).clock now → WasIdle r side place
    shown_before zero is moment now call a at set due =
        let start : w ≡ r.start = subst (λ (j : ℕ). Follows r.keys r.start (take j r.events) (take j r.answers) (take j r.views) w) is p.came in
        let clash : ◌≡◌ {A = Option ℕ} None (Some moment) = sym (ap (λ (x : End). x.timers.idle) (start_is r.start honest.start side)) ∙ ap (λ (v : World). (end_at side v).timers.idle) (sym start) ∙ set in
        cc
    shown_before (suc j) is moment now call a at set due =
        let view = before_there r.views j f.view (subst (λ (n : ℕ). slice_get r.views n ≡ Some f.view) is f.there) in
        let seen : view.0 ≡ view_of w = last_view r.keys j r.start w r.events r.answers r.views view.0 (subst (λ (n : ℕ). Follows r.keys r.start (take n r.events) (take n r.answers) (take n r.views) w) is p.came) view.1 in
        record {
          earlier = f.earlier;
          up_to = f.up_to;
          now = now;
          called = at;
          view = view.0;
          before = ap (λ (n : ℕ). view_behind r n) is ∙ view.1;
          moment = moment;
          set = ap (λ (ts : List (Option ℕ)). slice_get ts 1) (ap (λ (v : View). timers_in v side) seen ∙ timers_shown side w) ∙ ap (λ (o : Option ℕ). Some o) set;
          due = due;
        }

    at_event : (before next : World) (event : RunEvent) (a : Answer) → Follows r.keys r.start (take f.earlier r.events) (take f.earlier r.answers) (take f.earlier r.views) before → slice_get r.events f.earlier ≡ Some event → slice_get r.answers f.earlier ≡ Some a
        → IsStep r.keys before event a next → f.view ≡ view_of next → WasIdle r side place
    at_event before next event a came event_there answer_there made seen =
        let same : before ≡ w = (one_run r.keys (take f.earlier r.answers) r.start (take f.earlier r.events) (take f.earlier r.views) (take f.earlier r.views) before w (served_less r.answers f.earlier (place + 1) within_run.1 shows.served) came p.came).1 in
        let step : IsStep r.keys w event a next = subst (λ (x : World). IsStep r.keys x event a next) same made in
        let served : fails a ≡ false = served_there r.answers f.earlier a (served_less r.answers (suc f.earlier) (place + 1) within_run.0 shows.served) answer_there in
        let shown : (end_at side next).closing.reason ≡ Some reasons.Idle = sym (reason_seen side next) ∙ ap (λ (v : View). reason_in v side) (sym seen) ∙ f.is in
        let idle = step_idles r.keys w next event a side served step not_yet shown in
        let i = idle.1 in
        let moment = come_moment e.timers.idle (max e.closing.clock i.now) i.come in
        let ticks = knows.ticks i.was_open in
        let up = moment.1.1 in
        shown_before f.earlier refl moment.0 i.now event.call a (record {
          event = event_there ∙ ap (λ (s : Side). Some (record { side = s; call = event.call })) idle.0 ∙ ap (λ (c : Call). Some (record { side = side; call = c })) i.called;
          answer = answer_there ∙ ap (λ (b : Answer). Some b) i.answered;
        }) moment.1.0 (omega arith)
