-- An end is closed by its application only where that closed it while it was open.
use Rattle.std.proofs.Common.{◌≡◌, ℕ, zero, suc, ◌≤◌, Bool, true, false, not, ◌||◌, ◌==◌, List, [], ◌∷◌, slice_get, Option, Some, None, Result, Ok, Err, ◌⊎◌, inl, inr, refl, sym, ap, ◌∙◌, subst, arith}
use Rattle.std.specs.Prelude.{if◌then◌else◌}
use Rattle.quic_wire_core.specs.declared.shared.EcnCodepoint.{EcnCodepoint}
use Rattle.quic_wire_core.specs.declared.stream_id.Side.{Side}
use Rattle.quic_wire_core.specs.declared.stream_id.Side.TheVariants.{Client, Server}
use Rattle.quic_wire.specs.Items.{items}
use Rattle.quic_wire.specs.Value.{FrameValue}
use Rattle.quic_wire.specs.declared.frame.InvalidFrame.{InvalidFrame}
use Rattle.quic_packet.specs.Header.{key_phase, reserved_bits}
use Rattle.quic_packet.specs.Datagram.{Opening}
use Rattle.quic_recovery_core.specs.Duplicates.{is_duplicate}
use Rattle.quic_spaces.specs.Numbers.{can_number, number_opened}
use Rattle.quic_machine.specs.Arrival.{Arrival, delivered_by}
use Rattle.quic_machine.specs.declared.answers.State.{State}
use Rattle.quic_machine.specs.declared.answers.State.TheVariants as states
use Rattle.quic_machine.specs.declared.answers.DropReason.{DropReason}
use Rattle.quic_machine.specs.declared.answers.DropReason.TheVariants as drops
use Rattle.quic_machine.specs.declared.answers.LostReason.{LostReason}
use Rattle.quic_machine.specs.declared.answers.LostReason.TheVariants as reasons
use Rattle.quic_machine.specs.declared.run.RunEvent.{RunEvent}
use Rattle.quic_machine.specs.declared.run.CloseCall.{CloseCall}
use Rattle.quic_machine.specs.declared.run.Call.{Call}
use Rattle.quic_machine.specs.declared.run.Call.TheVariants as calls
use Rattle.quic_machine.specs.declared.run.Answer.{Answer}
use Rattle.quic_machine.specs.declared.run.Answer.TheVariants as answers
use Rattle.quic_machine.specs.declared.run.View.{View}
use Rattle.quic_machine.specs.Policy.{Policy}
use Rattle.quic_machine.specs.Closing.{Closing, ticked}
use Rattle.quic_machine.specs.Heard.{Heard}
use Rattle.quic_machine.specs.Validation.{is_blocked, with_blocked}
use Rattle.quic_machine.specs.Control.{Control}
use Rattle.quic_machine.specs.End.{End, with_closing, with_numbers, with_window, closed_by}
use Rattle.quic_machine.specs.Opens.{head}
use Rattle.quic_machine.specs.Receive.{Fault, broke, too_many_pieces, closed_by_peer, violation, is_empty, asks_in, is_urged, take_frame, take_items, take_payload, dropped, ends_as, by_state, opened_to, opened_as, opening, headed, received_in, is_read, items_taken, drawn_if, with_ids_drawn, has_migrated, unopened_in}
use Rattle.quic_machine.specs.Poll.{Polled, bounds, may_seal, polled}
use Rattle.quic_machine.specs.Calls.{closed_in}
use Rattle.quic_machine.specs.CallCases.{by_done}
use Rattle.quic_machine.specs.Machine.{World, Policies, IsLeft, IsStep, IsAnswer, end_at, view_of, after_call, after_delivered, end_left, reads_window, says_last, fails, Follows}
use Rattle.quic_machine.specs.FrameCases.{Settling, named, acked_keeps, losses_keep, frame_keeps, frame_leaves, items_keep, apart_leaves}
use Rattle.quic_machine.specs.InjectionCases.{by_injection}
use Rattle.quic_machine.specs.Steps as steps
use Rattle.quic_machine.specs.LeaveCases.{by_expiry, by_expired, by_event}
use Rattle.quic_machine.specs.PollCases.{at_poll, by_poll, composes}
use Rattle.quic_headline.specs.Runs.{Run, state_in, state_behind}
use Rattle.quic_headline.specs.Headline.{IsHonest, IsRun}
use Rattle.quic_headline.specs.Causes.{reason_in, ApplicationClosed}
use Rattle.quic_headline.proofs.Packets.Apart.{by_waits, by_next_id}
use Rattle.quic_headline.proofs.Packets.Closes.{by_closes}
use Rattle.quic_headline.proofs.Packets.Heard.{by_taken}
use Rattle.quic_headline.proofs.Packets.Moved.{by_migrated_if}
use Rattle.quic_headline.proofs.Packets.Probes.{may_leave}
use Rattle.quic_headline.proofs.Places.Placed.{start_is}

-- where an end is closed by its application, another was
abbrev Had : End → End → Type 0
Had e f = f.closing.reason ≡ Some reasons.Application → e.closing.reason ≡ Some reasons.Application

-- ---- a datagram

settling : (e : End) → Settling (Had e)
settling e (steps.known n) f i = i
settling e s f i = i

module _ (e : End) where
  frame_had : (f : FrameValue) (x : End) → Had e x → Had e (take_frame f x).end
  frame_had = frame_keeps (Had e) (record {
    ack = λ rises a x i. acked_keeps (Had e) (settling e) rises a (named a x) i;
    on_streams = λ f x on i. frame_leaves (Had e) f x on (λ t. i);
    apart = λ f x is i. apart_leaves (Had e) f x is (λ c. i) (λ c most. i);
    message = λ m x i. i;
  })

  payload_had : (first : ℕ) (is : List (Result FrameValue InvalidFrame)) (x : End) → Had e x → Had e (take_payload first is x).end
  payload_had first is x i = go (not (reserved_bits first == 0) || is_empty is)
    where
      go : (b : Bool) → Had e (if b then record { end = x; fault = Some violation } else take_items is x).end
      go true = i
      go false = items_keep (Had e) frame_had is x i

  -- none of these is the application's
  ends_had : (fault : Option Fault) (asking urged : Bool) (n : ℕ) (mark : Option EcnCodepoint) (x : End) → Had e x → Had e (ends_as fault asking urged n mark x).end
  ends_had None asking urged n mark x i is = by_taken (Had e) n asking urged mark x (λ idle alive. i) is
  ends_had (Some (closed_by_peer close)) asking urged n mark x i is = cc
  ends_had (Some (broke error)) asking urged n mark x i is = cc
  ends_had (Some too_many_pieces) asking urged n mark x i is = cc

  state_had : (s : State) (o : Opening) (arrival : Arrival) (x : End) → Had e x → Had e (by_state s o arrival x).end
  state_had states.Open o arrival x i =
      let begins : End = with_closing x (ticked x.closing arrival.now) in
      let asks = asks_in (items o.payload) in
      let within = items_taken o arrival x in
      let taken = take_payload o.first within begins in
      ends_had taken.fault asks (is_urged arrival.mark asks within begins) o.number arrival.mark taken.end (payload_had o.first within begins i)
  state_had states.Closing o arrival x i = i
  state_had states.Drained o arrival x i = i
  state_had states.Failed o arrival x i = i

  drawn_had : (b : Bool) (p : Policy) (x : End) → Had e x → Had e (drawn_if b p x)
  drawn_had true p x i = i
  drawn_had false p x i = i

  unopened_had : (s : State) (b : Bool) (arrival : Arrival) → Had e (unopened_in s b arrival e).end
  unopened_had states.Open true arrival is = cc
  unopened_had states.Open false arrival is = is
  unopened_had states.Closing b arrival is = is
  unopened_had states.Drained b arrival is = is
  unopened_had states.Failed b arrival is = is

  opened_had : (o : Opening) (arrival : Arrival) → Had e (opened_to o arrival e).end
  opened_had o arrival = go (key_phase o.first) (is_duplicate e.numbers.opened o.number)
    where
      noted : End
      noted = with_numbers e (number_opened e.numbers o.number)

      go : (phase again : Bool) → Had e (if phase then dropped drops.KeyPhase e else (if again then dropped drops.Duplicate e else by_state e.closing.state o arrival noted)).end
      go true again is = is
      go false true is = is
      go false false is = state_had e.closing.state o arrival noted (λ same. same) is

  packet_had : (o : Option Opening) (p : Policy) (arrival : Arrival) → Had e (opened_as o p arrival e).end
  packet_had None p arrival = unopened_had e.closing.state arrival.last arrival
  packet_had (Some o) p arrival =
      let out = with_ids_drawn p (opened_to o arrival e) in
      let left = drawn_had (is_read (opened_to o arrival e).answer) p (opened_to o arrival e).end (opened_had o arrival) in
      by_migrated_if (Had e) p o arrival.remote out.end (λ c. left) (λ c most. left) (has_migrated o arrival.remote e out) left

  headed_had : (r : Result (List ℕ) DropReason) (p : Policy) (arrival : Arrival) (d : List ℕ) → Had e (headed r p e arrival d).end
  headed_had (Err error) p arrival d is = is
  headed_had (Ok id) p arrival d is = packet_had (opening p e d) p arrival is

  received_had : (s : State) (p : Policy) (arrival : Arrival) (d : List ℕ) → Had e (received_in s p e arrival d).end
  received_had states.Failed p arrival d is = is
  received_had states.Drained p arrival d is = is
  received_had states.Open p arrival d is = headed_had (head e arrival.remote d) p arrival d is
  received_had states.Closing p arrival d is = headed_had (head e arrival.remote d) p arrival d is

  delivered_had : (o : Option (List ℕ)) (p : Policy) (arrival : Arrival) → Had e (after_delivered p e arrival o)
  delivered_had None p arrival is = is
  delivered_had (Some d) p arrival is = received_had e.closing.state p arrival d is

  -- ---- a poll

  -- numbers or the key are used up: that isn't the application's
  bounded : (p : Policy) (reason : LostReason) → bounds p e ≡ Some reason → reason ≡ reasons.Application → ⊥
  bounded p reason is same = go (can_number e.numbers) (may_seal p e) (is ∙ ap (λ (x : LostReason). Some x) same)
    where
      go : (numbered sealed : Bool) → (if not numbered then Some reasons.NumberLimit else (if not sealed then Some reasons.KeyLimit else None)) ≡ Some reasons.Application → ⊥
      go false sealed is = cc
      go true false is = cc
      go true true is = cc

  polled_had : (p : Policy) (now : ℕ) → Had e (polled p e now).end
  polled_had p now = by_poll p e now (λ (q : Polled). Had e q.end) (record {
    silent = λ is. is;
    failed = λ is. is;
    nothing = λ c is. is;
    repeats = λ closing. by_closes p (with_closing e (ticked e.closing now)) (λ (q : Polled). Had e q.end) (λ is. is) (λ f goes is. is);
    closes = λ reason c bound. by_closes p (closed_by reason (at_poll e now c)) (λ (q : Polled). Had e q.end) (shuts reason bound) (λ f goes. shuts reason bound);
    gives = λ leaving c left still may ready some is.
        let x : End = at_poll e now c in
        sym (ap (λ (z : Closing). z.reason) (composes leaving x (may_leave e now leaving x ready)).closing) ∙ is;
  })
    where
      shuts : (reason : LostReason) → bounds p e ≡ Some reason → Some reason ≡ Some reasons.Application → e.closing.reason ≡ Some reasons.Application
      shuts reason bound is = let same : reason ≡ reasons.Application = cc in absurd (bounded p reason bound same)

  -- ---- a timeout

  timed_had : (p : Policy) (now : ℕ) → Had e (after_call p e [] (calls.Timeout now) (answers.Timeout (Ok tt)))
  timed_had p now = by_expiry p e now (Had e) (λ is. is) (λ b. by_waits (Had e) b (with_closing e (ticked e.closing now)) (λ is. is) (λ is. is))
      (by_expired p.words e now (Had e) (λ acks tracking timers waits asked runs packets is. is) (λ acks timers waits asked runs. losses_keep (Had e) (settling e) (with_closing e (ticked e.closing now)) (λ is. is)) (λ x j is. cc))

-- ---- any call

-- the application closes an end that is open
record Closes (e : End) (call : Call) : Type 0 where
  close : CloseCall
  is : call ≡ calls.Close close
  was_open : e.closing.state ≡ states.Open

-- an end is closed by its application behind a call where it was before, or the call closes it
call_had : (p : Policy) (e : End) (theirs : List (List ℕ)) (call : Call) (a : Answer) → (after_call p e theirs call a).closing.reason ≡ Some reasons.Application → (e.closing.reason ≡ Some reasons.Application) ⊎ Closes e call
call_had p e theirs (calls.Close close) a is = go e.closing.state refl is
  where
    go : (s : State) → e.closing.state ≡ s → (closed_in s close.now close.error_code close.reason e).closing.reason ≡ Some reasons.Application → (e.closing.reason ≡ Some reasons.Application) ⊎ Closes e (calls.Close close)
    go states.Open here is = inr (record { close = close; is = refl; was_open = here })
    go states.Closing here is = inl is
    go states.Drained here is = inl is
    go states.Failed here is = inl is
call_had p e theirs calls.UseNextId a is = inl (by_next_id (Had e) e a (λ same. same) (λ c same. same) (λ c most same. same) is)
call_had p e theirs calls.HandshakeDone a is = inl (by_done (Had e) e a (λ same. same) (λ same. same) is)
call_had p e theirs (calls.Poll now) a is = inl (polled_had e p now is)
call_had p e theirs (calls.Timeout now) a is = inl (timed_had e p now is)
call_had p e theirs (calls.Deliver delivery) a is = inl (delivered_had e (slice_get theirs delivery.index) p (delivered_by (says_last a) delivery) is)
call_had p e theirs (calls.Inject injection) a is = inl (by_injection p e (says_last a) injection (Had e) (λ same. same) (λ now same. cc) is)
call_had p e theirs calls.Event a is = inl (by_event e (Had e) (λ same. same) (λ same. same) (λ told same. same) is)
call_had p e theirs call a is = inl is

-- whatever a poll reads
left_had : (p : Policy) (control : Control) (heard : Heard) (e : End) (theirs : List (List ℕ)) (call : Call) (a : Answer) → (end_left p control heard e theirs call a).closing.reason ≡ Some reasons.Application
    → (e.closing.reason ≡ Some reasons.Application) ⊎ Closes e call
left_had p control heard e theirs (calls.Poll now) a is = inl (polled_had (with_blocked (with_window e (control [])) (is_blocked e heard)) p now is)
left_had p control heard e theirs call a is = call_had p e theirs call a is

-- of an end that fails there is no reason
stopped_had : (b : Bool) (p : Policy) (control : Control) (heard : Heard) (e next : End) (theirs : List (List ℕ)) (call : Call) (a : Answer) → IsLeft b p control heard e theirs call a next → next.closing.reason ≡ Some reasons.Application
    → (e.closing.reason ≡ Some reasons.Application) ⊎ Closes e call
stopped_had true p control heard e next theirs call a left is = let clash : ◌≡◌ {A = Option LostReason} None (Some reasons.Application) = sym left.1 ∙ is in cc
stopped_had false p control heard e next theirs call a left is = left_had p control heard e theirs call a (sym (ap (λ (x : End). x.closing.reason) left) ∙ is)

-- ---- an event

-- at this end, which is open
record ClosesAt (side : Side) (w : World) (event : RunEvent) (a : Answer) : Type 0 where
  close : CloseCall
  event_is : event ≡ record { side = side; call = calls.Close close }
  answer_is : a ≡ answers.Close
  was_open : (end_at side w).closing.state ≡ states.Open

step_had : (k : Policies) (w next : World) (event : RunEvent) (a : Answer) (side : Side) → IsStep k w event a next → (end_at side next).closing.reason ≡ Some reasons.Application
    → ((end_at side w).closing.reason ≡ Some reasons.Application) ⊎ ClosesAt side w event a
step_had k w next event a side step is = go event.side event.call side step is
  where
    answered : (p : Policy) (e : End) (theirs : List (List ℕ)) (call : Call) (close : CloseCall) → call ≡ calls.Close close → (control : Control) (heard : Heard) → IsAnswer p (reads_window control heard call e) theirs call a → a ≡ answers.Close
    answered p e theirs call close same control heard says = subst (λ (c : Call). IsAnswer p (reads_window control heard c e) theirs c a) same says

    go : (at : Side) (call : Call) (side : Side) → IsStep k w (record { side = at; call = call }) a next → (end_at side next).closing.reason ≡ Some reasons.Application
        → ((end_at side w).closing.reason ≡ Some reasons.Application) ⊎ ClosesAt side w (record { side = at; call = call }) a
    go Client call Client s shown = elim (stopped_had (fails a) k.client w.client_control w.client_heard w.client next.client w.from_server call a s.end shown) [
      | inl was ↦ inl was
      | inr c ↦ inr (record { close = c.close; event_is = ap (λ (x : Call). record { side = Client; call = x }) c.is; answer_is = answered k.client w.client w.from_server call c.close c.is w.client_control w.client_heard s.answer; was_open = c.was_open })
    ]
    go Server call Server s shown = elim (stopped_had (fails a) k.server w.server_control w.server_heard w.server next.server w.from_client call a s.end shown) [
      | inl was ↦ inl was
      | inr c ↦ inr (record { close = c.close; event_is = ap (λ (x : Call). record { side = Server; call = x }) c.is; answer_is = answered k.server w.server w.from_client call c.close c.is w.server_control w.server_heard s.answer; was_open = c.was_open })
    ]
    go Client call Server s shown = inl (sym (ap (λ (v : World). v.server.closing.reason) s.others) ∙ shown)
    go Server call Client s shown = inl (sym (ap (λ (v : World). v.client.closing.reason) s.others) ∙ shown)

-- ---- a run

-- among these events, up to this place, the application closed the end
record Found (side : Side) (state : State) (events : List RunEvent) (told : List Answer) (views : List View) (place : ℕ) : Type 0 where
  earlier : ℕ
  up_to : earlier ≤ place
  close : CloseCall
  event : slice_get events earlier ≡ Some (record { side = side; call = calls.Close close })
  answer : slice_get told earlier ≡ Some answers.Close
  was_open : state_behind side state earlier views ≡ states.Open

is_application : (o : Option LostReason) → (o ≡ Some reasons.Application) ⊎ (o ≡ Some reasons.Application → ⊥)
is_application (Some reasons.Application) = inl refl
is_application (Some reason) = inr (λ is. cc)
is_application None = inr (λ is. cc)

reason_seen : (side : Side) (w : World) → reason_in (view_of w) side ≡ (end_at side w).closing.reason
reason_seen Client w = refl
reason_seen Server w = refl

state_seen : (side : Side) (w : World) → state_in (view_of w) side ≡ (end_at side w).closing.state
state_seen Client w = refl
state_seen Server w = refl

find : (k : Policies) (w end : World) (events : List RunEvent) (told : List Answer) (views : List View) → Follows k w events told views end → (side : Side) → ((end_at side w).closing.reason ≡ Some reasons.Application → ⊥)
    → (place : ℕ) (view : View) → slice_get views place ≡ Some view → reason_in view side ≡ Some reasons.Application → Found side (end_at side w).closing.state events told views place
find k w end events told [] f side none place view at shown = cc
find k w end [] [] (v ∷ views) f side none place view at shown = absurd f
find k w end (e ∷ events) [] (v ∷ views) f side none place view at shown = absurd f
find k w end [] (a ∷ told) (v ∷ views) f side none place view at shown = absurd f
find k w end (e ∷ events) (a ∷ told) (v ∷ views) f side none place view at shown = go place at (is_application (end_at side f.0).closing.reason) (λ n there later. find k f.0 end events told views f.3 side later n view there shown)
  where
    -- this event closes it
    now : (n : ℕ) → (end_at side f.0).closing.reason ≡ Some reasons.Application → Found side (end_at side w).closing.state (e ∷ events) (a ∷ told) (v ∷ views) n
    now n is = elim (step_had k w f.0 e a side f.1 is) [
      | inl was ↦ absurd (none was)
      | inr c ↦ record { earlier = 0; up_to = omega arith; close = c.close; event = ap (λ (x : RunEvent). Some x) c.event_is; answer = ap (λ (x : Answer). Some x) c.answer_is; was_open = c.was_open }
    ]

    go : (n : ℕ) → slice_get (v ∷ views) n ≡ Some view → ((end_at side f.0).closing.reason ≡ Some reasons.Application) ⊎ ((end_at side f.0).closing.reason ≡ Some reasons.Application → ⊥)
        → ((m : ℕ) → slice_get views m ≡ Some view → ((end_at side f.0).closing.reason ≡ Some reasons.Application → ⊥) → Found side (end_at side f.0).closing.state events told views m)
        → Found side (end_at side w).closing.state (e ∷ events) (a ∷ told) (v ∷ views) n
    go n there (inl is) more = now n is
    go zero there (inr not_yet) more =
        let same : v ≡ view = cc in
        now zero (sym (reason_seen side f.0) ∙ ap (λ (x : View). reason_in x side) (sym f.2) ∙ ap (λ (x : View). reason_in x side) same ∙ shown)
    go (suc n) there (inr not_yet) more =
        let later = more n there not_yet in
        let seen : state_in v side ≡ (end_at side f.0).closing.state = ap (λ (x : View). state_in x side) f.2 ∙ state_seen side f.0 in
        record {
          earlier = suc later.earlier;
          up_to = (let below = later.up_to in omega arith);
          close = later.close;
          event = later.event;
          answer = later.answer;
          was_open = ap (λ (s : State). state_behind side s later.earlier views) seen ∙ later.was_open;
        }

-- ends begin open
pub application_closed : (r : Run) (end : World) → IsHonest r → IsRun r end → ApplicationClosed r
application_closed r end honest run side place shows =
    let found = find r.keys r.start end r.events r.answers r.views run.follows side fresh place shows.view shows.there shows.is in
    record { earlier = found.earlier; up_to = found.up_to; close = found.close; called = record { event = found.event; answer = found.answer }; was_open = found.was_open }
  where
    fresh : (end_at side r.start).closing.reason ≡ Some reasons.Application → ⊥
    fresh is = let clash : ◌≡◌ {A = Option LostReason} None (Some reasons.Application) = sym (ap (λ (e : End). e.closing.reason) (start_is r.start honest.start side)) ∙ is in cc
