-- Why an end isn't open any more behind a call: it was so before, or the call says what for.
use Rattle.std.proofs.Common.{◌≡◌, ℕ, Bool, true, false, not, ◌||◌, ◌==◌, List, [], slice_get, Option, Some, None, Result, Ok, Err, refl, sym, ap, ◌∙◌, subst}
use Rattle.std.specs.Prelude.{if◌then◌else◌}
use Rattle.quic_wire_core.specs.declared.shared.EcnCodepoint.{EcnCodepoint}
use Rattle.quic_wire.specs.Items.{items}
use Rattle.quic_wire.specs.Value.{FrameValue}
use Rattle.quic_wire.specs.declared.frame.InvalidFrame.{InvalidFrame}
use Rattle.quic_packet.specs.Header.{key_phase, reserved_bits}
use Rattle.quic_packet.specs.Datagram.{Opening}
use Rattle.quic_recovery_core.specs.Duplicates.{is_duplicate}
use Rattle.quic_spaces.specs.Numbers.{Numbers, number_opened}
use Rattle.quic_time.specs.Timers.{Timers, has_come}
use Rattle.quic_machine.specs.Arrival.{Arrival, delivered_by, injected_by}
use Rattle.quic_machine.specs.declared.answers.State.{State}
use Rattle.quic_machine.specs.declared.answers.State.TheVariants as states
use Rattle.quic_machine.specs.declared.answers.DropReason.{DropReason}
use Rattle.quic_machine.specs.declared.answers.DropReason.TheVariants as drops
use Rattle.quic_machine.specs.declared.answers.LostReason.{LostReason}
use Rattle.quic_machine.specs.declared.answers.LostReason.TheVariants as reasons
use Rattle.quic_machine.specs.declared.run.CloseCall.{CloseCall}
use Rattle.quic_machine.specs.declared.run.Call.{Call}
use Rattle.quic_machine.specs.declared.run.Call.TheVariants as calls
use Rattle.quic_machine.specs.declared.run.Answer.{Answer}
use Rattle.quic_machine.specs.Policy.{Policy}
use Rattle.quic_machine.specs.Closing.{Closing, ticked}
use Rattle.quic_machine.specs.Heard.{Heard}
use Rattle.quic_machine.specs.Validation.{is_blocked, with_blocked}
use Rattle.quic_machine.specs.Control.{Control}
use Rattle.quic_machine.specs.End.{End, with_closing, with_numbers, with_window, closed_by}
use Rattle.quic_machine.specs.Opens.{head, would_open}
use Rattle.quic_machine.specs.Receive.{Fault, broke, too_many_pieces, closed_by_peer, reason_of, violation, is_empty, asks_in, is_urged, take_frame, take_items, take_payload, dropped, ends_as, by_state, opened_to, opened_as, opening, headed, received_in, is_read, items_taken, drawn_if, with_ids_drawn, has_migrated, unopened_in}
use Rattle.quic_machine.specs.Poll.{Polled, bounds, polled, polled_in}
use Rattle.quic_machine.specs.Timeouts.{Expiry, expiry_at, loss_judged, loss_expired, unless_idle, timed_out_in}
use Rattle.quic_machine.specs.Calls.{closed_in}
use Rattle.quic_machine.specs.CallCases.{by_done}
use Rattle.quic_machine.specs.Machine.{after_call, after_delivered, after_injected_if, end_left, says_last}
use Rattle.quic_machine.specs.FrameCases.{Settling, named, acked_keeps, losses_keep, frame_keeps, frame_leaves, items_keep, apart_leaves}
use Rattle.quic_machine.specs.Steps as steps
use Rattle.quic_machine.specs.LeaveCases.{Expired, by_busy, by_event}
use Rattle.quic_machine.specs.LeaveCases as expiring
use Rattle.quic_machine.specs.PollCases.{at_poll, by_poll, composes}
use Rattle.quic_headline.proofs.Packets.Apart.{by_waits, by_next_id}
use Rattle.quic_headline.proofs.Packets.Closes.{by_closes}
use Rattle.quic_headline.proofs.Packets.Heard.{by_taken}
use Rattle.quic_headline.proofs.Packets.Moved.{by_migrated_if}
use Rattle.quic_headline.proofs.Packets.Probes.{may_leave}

-- what makes a call leave an end that isn't open for a reason
pub data Cause (p : Policy) (e : End) (call : Call) (a : Answer) (why : LostReason) : Type 0 where
  -- it wasn't before
  was : e.closing.reason ≡ Some why → Cause p e call a why
  -- its application closes it while it is open
  applies : (close : CloseCall) → call ≡ calls.Close close → e.closing.state ≡ states.Open → why ≡ reasons.Application → Cause p e call a why
  -- a poll of an open end finds that numbers or the key are used up
  bound : e.closing.state ≡ states.Open → bounds p e ≡ Some why → Cause p e call a why
  -- a packet is refused, or the peer closes
  refuses : (f : Fault) → reason_of f ≡ why → Cause p e call a why
  -- the last packet came that may not open, while it was open
  exhausts : e.closing.state ≡ states.Open → says_last a ≡ true → why ≡ reasons.KeyLimit → Cause p e call a why
  -- at an open end the idle timer expires
  idles : (now : ℕ) → call ≡ calls.Timeout now → e.closing.state ≡ states.Open → has_come e.timers.idle (ticked e.closing now).clock ≡ true → why ≡ reasons.Idle → Cause p e call a why

same_reason : (x y : LostReason) → Some x ≡ Some y → x ≡ y
same_reason x y is = cc

module _ (p : Policy) (e : End) (call : Call) (a : Answer) (why : LostReason) where
  -- where an end isn't open for this reason, that has a cause
  abbrev HasCause : End → Type 0
  HasCause x = x.closing.reason ≡ Some why → Cause p e call a why

  -- ---- a datagram

  settling : Settling HasCause
  settling (steps.known n) x i = i
  settling s x i = i

  frame_why : (f : FrameValue) (x : End) → HasCause x → HasCause (take_frame f x).end
  frame_why = frame_keeps HasCause (record {
    ack = λ rises a x i. acked_keeps HasCause settling rises a (named a x) i;
    on_streams = λ f x on i. frame_leaves HasCause f x on (λ t. i);
    apart = λ f x is i. apart_leaves HasCause f x is (λ c. i) (λ c most. i);
    message = λ m x i. i;
  })

  payload_why : (first : ℕ) (is : List (Result FrameValue InvalidFrame)) (x : End) → HasCause x → HasCause (take_payload first is x).end
  payload_why first is x i = go (not (reserved_bits first == 0) || is_empty is)
    where
      go : (b : Bool) → HasCause (if b then record { end = x; fault = Some violation } else take_items is x).end
      go true = i
      go false = items_keep HasCause frame_why is x i

  faults : (f : Fault) → Some (reason_of f) ≡ Some why → Cause p e call a why
  faults f is = refuses f (same_reason (reason_of f) why is)

  ends_why : (fault : Option Fault) (asking urged : Bool) (n : ℕ) (mark : Option EcnCodepoint) (x : End) → HasCause x → HasCause (ends_as fault asking urged n mark x).end
  ends_why None asking urged n mark x i is = by_taken HasCause n asking urged mark x (λ idle alive. i) is
  ends_why (Some (closed_by_peer close)) asking urged n mark x i is = faults (closed_by_peer close) is
  ends_why (Some (broke error)) asking urged n mark x i is = faults (broke error) is
  ends_why (Some too_many_pieces) asking urged n mark x i is = faults too_many_pieces is

  state_why : (s : State) (o : Opening) (arrival : Arrival) (x : End) → HasCause x → HasCause (by_state s o arrival x).end
  state_why states.Open o arrival x i =
      let begins : End = with_closing x (ticked x.closing arrival.now) in
      let asks = asks_in (items o.payload) in
      let within = items_taken o arrival x in
      let taken = take_payload o.first within begins in
      ends_why taken.fault asks (is_urged arrival.mark asks within begins) o.number arrival.mark taken.end (payload_why o.first within begins i)
  state_why states.Closing o arrival x i = i
  state_why states.Drained o arrival x i = i
  state_why states.Failed o arrival x i = i

  drawn_why : (b : Bool) (q : Policy) (x : End) → HasCause x → HasCause (drawn_if b q x)
  drawn_why true q x i = i
  drawn_why false q x i = i

  -- the last that may not open
  unopened_why : (s : State) (b : Bool) (arrival : Arrival) → e.closing.state ≡ s → b ≡ says_last a → HasCause (unopened_in s b arrival e).end
  unopened_why states.Open true arrival here last is = exhausts here (sym last) (sym (same_reason reasons.KeyLimit why is))
  unopened_why states.Open false arrival here last is = was is
  unopened_why states.Closing b arrival here last is = was is
  unopened_why states.Drained b arrival here last is = was is
  unopened_why states.Failed b arrival here last is = was is

  opened_why : (o : Opening) (arrival : Arrival) → HasCause (opened_to o arrival e).end
  opened_why o arrival = go (key_phase o.first) (is_duplicate e.numbers.opened o.number)
    where
      noted : End
      noted = with_numbers e (number_opened e.numbers o.number)

      go : (phase again : Bool) → HasCause (if phase then dropped drops.KeyPhase e else (if again then dropped drops.Duplicate e else by_state e.closing.state o arrival noted)).end
      go true again is = was is
      go false true is = was is
      go false false is = state_why e.closing.state o arrival noted (λ same. was same) is

  packet_why : (o : Option Opening) (q : Policy) (arrival : Arrival) → arrival.last ≡ says_last a → HasCause (opened_as o q arrival e).end
  packet_why None q arrival last = unopened_why e.closing.state arrival.last arrival refl last
  packet_why (Some o) q arrival last =
      let out = with_ids_drawn q (opened_to o arrival e) in
      let left = drawn_why (is_read (opened_to o arrival e).answer) q (opened_to o arrival e).end (opened_why o arrival) in
      by_migrated_if HasCause q o arrival.remote out.end (λ c. left) (λ c most. left) (has_migrated o arrival.remote e out) left

  headed_why : (r : Result (List ℕ) DropReason) (q : Policy) (arrival : Arrival) (d : List ℕ) → arrival.last ≡ says_last a → HasCause (headed r q e arrival d).end
  headed_why (Err error) q arrival d last is = was is
  headed_why (Ok id) q arrival d last is = packet_why (opening q e d) q arrival last is

  received_why : (s : State) (q : Policy) (arrival : Arrival) (d : List ℕ) → arrival.last ≡ says_last a → HasCause (received_in s q e arrival d).end
  received_why states.Failed q arrival d last is = was is
  received_why states.Drained q arrival d last is = was is
  received_why states.Open q arrival d last is = headed_why (head e arrival.remote d) q arrival d last is
  received_why states.Closing q arrival d last is = headed_why (head e arrival.remote d) q arrival d last is

  delivered_why : (o : Option (List ℕ)) (q : Policy) (arrival : Arrival) → arrival.last ≡ says_last a → HasCause (after_delivered q e arrival o)
  delivered_why None q arrival last is = was is
  delivered_why (Some d) q arrival last is = received_why e.closing.state q arrival d last is

  -- ---- a poll

  polled_why : (now : ℕ) → HasCause (polled p e now).end
  polled_why now = go e.closing.state refl
    where
      shuts : (reason : LostReason) → e.closing.state ≡ states.Open → bounds p e ≡ Some reason → Some reason ≡ Some why → Cause p e call a why
      shuts reason here limit is = bound here (limit ∙ is)

      go : (s : State) → e.closing.state ≡ s → HasCause (polled_in s p e now).end
      go states.Open here = subst (λ (s : State). HasCause (polled_in s p e now).end) here (by_poll p e now (λ (q : Polled). HasCause q.end) (record {
        silent = λ is. was is;
        failed = λ is. was is;
        nothing = λ c is. was is;
        repeats = λ closing. by_closes p (with_closing e (ticked e.closing now)) (λ (q : Polled). HasCause q.end) (λ is. was is) (λ f goes is. was is);
        closes = λ reason c limit. by_closes p (closed_by reason (at_poll e now c)) (λ (q : Polled). HasCause q.end) (shuts reason here limit) (λ f goes. shuts reason here limit);
        gives = λ leaving c left still may ready some is.
            let x : End = at_poll e now c in
            was (sym (ap (λ (z : Closing). z.reason) (composes leaving x (may_leave e now leaving x ready)).closing) ∙ is);
      }))
      go states.Closing here = by_closes p (with_closing e (ticked e.closing now)) (λ (q : Polled). HasCause q.end) (λ is. was is) (λ f goes is. was is)
      go states.Drained here = λ is. was is
      go states.Failed here = λ is. was is

  -- ---- a timeout

  each_why : (s : Expired) (x : End) → HasCause x → HasCause (expiring.after s x)
  each_why expiring.of_acks x i = i
  each_why s x i = i

  judged_why : (o : Option ℕ) (x : End) → HasCause x → HasCause (loss_judged o x)
  judged_why None x i = i
  judged_why (Some moment) x i = losses_keep HasCause settling x i

  timed_why : (now : ℕ) → call ≡ calls.Timeout now → (s : State) → e.closing.state ≡ s → HasCause (timed_out_in s p e now).end
  timed_why now is states.Open here = idle x.idle refl
    where
      begun : End
      begun = with_closing e (ticked e.closing now)

      x : Expiry
      x = expiry_at begun.closing.clock begun.timers

      lost : (b : Bool) → HasCause (loss_expired b begun)
      lost true = judged_why begun.tracking.loss_time begun (λ same. was same)
      lost false = λ same. was same

      idle : (b : Bool) → x.idle ≡ b → HasCause (unless_idle b p.words x (loss_expired x.loss begun))
      idle true come shown = idles now is here come (sym (same_reason reasons.Idle why shown))
      idle false come shown = by_busy p.words HasCause HasCause each_why (λ f i. i) x (loss_expired x.loss begun) (lost x.loss) shown
  timed_why now is states.Closing here = by_waits HasCause (has_come e.timers.close (ticked e.closing now).clock) (with_closing e (ticked e.closing now)) (λ same. was same) (λ same. was same)
  timed_why now is states.Drained here = λ same. was same
  timed_why now is states.Failed here = λ same. was same

-- ---- any call

pub call_why : (p : Policy) (e : End) (theirs : List (List ℕ)) (call : Call) (a : Answer) (why : LostReason) → (after_call p e theirs call a).closing.reason ≡ Some why → Cause p e call a why
call_why p e theirs (calls.Close close) a why = go e.closing.state refl
  where
    go : (s : State) → e.closing.state ≡ s → (closed_in s close.now close.error_code close.reason e).closing.reason ≡ Some why → Cause p e (calls.Close close) a why
    go states.Open here is = applies close refl here (sym (same_reason reasons.Application why is))
    go states.Closing here is = was is
    go states.Drained here is = was is
    go states.Failed here is = was is
call_why p e theirs calls.UseNextId a why = by_next_id (HasCause p e calls.UseNextId a why) e a (λ is. was is) (λ c is. was is) (λ c most is. was is)
call_why p e theirs calls.HandshakeDone a why = by_done (HasCause p e calls.HandshakeDone a why) e a (λ is. was is) (λ is. was is)
call_why p e theirs (calls.Poll now) a why = polled_why p e (calls.Poll now) a why now
call_why p e theirs (calls.Timeout now) a why = timed_why p e (calls.Timeout now) a why now refl e.closing.state refl
call_why p e theirs (calls.Deliver delivery) a why = delivered_why p e (calls.Deliver delivery) a why (slice_get theirs delivery.index) p (delivered_by (says_last a) delivery) refl
call_why p e theirs (calls.Inject injection) a why = go (would_open p e injection.remote injection.bytes)
  where
    go : (b : Bool) → (after_injected_if b (says_last a) p e injection).closing.reason ≡ Some why → Cause p e (calls.Inject injection) a why
    go true is = was is
    go false is = received_why p e (calls.Inject injection) a why e.closing.state p (injected_by (says_last a) injection) injection.bytes refl is
call_why p e theirs calls.Event a why = by_event e (HasCause p e calls.Event a why) (λ is. was is) (λ is. was is) (λ told is. was is)
call_why p e theirs call a why = λ is. was is

-- whatever a poll reads
same_cause : (p : Policy) (e x : End) (call : Call) (a : Answer) (why : LostReason) → x.closing ≡ e.closing → x.timers ≡ e.timers → x.numbers ≡ e.numbers → Cause p x call a why → Cause p e call a why
same_cause p e x call a why closing timers numbers (was is) = was (sym (ap (λ (c : Closing). c.reason) closing) ∙ is)
same_cause p e x call a why closing timers numbers (applies close is here for) = applies close is (sym (ap (λ (c : Closing). c.state) closing) ∙ here) for
same_cause p e x call a why closing timers numbers (bound here is) = bound (sym (ap (λ (c : Closing). c.state) closing) ∙ here) (ap (λ (n : Numbers). bounds p (record e { numbers = n })) (sym numbers) ∙ is)
same_cause p e x call a why closing timers numbers (refuses f is) = refuses f is
same_cause p e x call a why closing timers numbers (exhausts here last for) = exhausts (sym (ap (λ (c : Closing). c.state) closing) ∙ here) last for
same_cause p e x call a why closing timers numbers (idles now is here come for) =
    idles now is (sym (ap (λ (c : Closing). c.state) closing) ∙ here) (ap (λ (c : Closing). has_come e.timers.idle (ticked c now).clock) (sym closing) ∙ ap (λ (t : Timers). has_come t.idle (ticked x.closing now).clock) (sym timers) ∙ come) for

pub left_why : (p : Policy) (control : Control) (heard : Heard) (e : End) (theirs : List (List ℕ)) (call : Call) (a : Answer) (why : LostReason) → (end_left p control heard e theirs call a).closing.reason ≡ Some why → Cause p e call a why
left_why p control heard e theirs (calls.Poll now) a why is =
    let x : End = with_blocked (with_window e (control [])) (is_blocked e heard) in
    same_cause p e x (calls.Poll now) a why refl refl refl (call_why p x theirs (calls.Poll now) a why is)
left_why p control heard e theirs call a why is = call_why p e theirs call a why is
