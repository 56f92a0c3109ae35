-- What a call makes of whether its end is open, whatever its peer sends: it stays so, or the call
-- says what for.
use Rattle.std.proofs.Common.{◌≡◌, ◌⊎◌, ◌≤◌, ◌+◌, ℕ, Bool, true, false, max, List, [], ◌∷◌, Option, Some, None, Result, Ok, Err, refl, sym, ap, ◌∙◌, subst, inl, inr}
use Rattle.std.specs.Prelude.{slice_get, if◌then◌else◌, not, ◌==◌, ◌||◌}
use Rattle.std.specs.Option.{is_some}
use Rattle.std.proofs.lemmas.Bool.{leb-true, ltb-false}
use Rattle.quic_wire_core.specs.declared.shared.EcnCodepoint.{EcnCodepoint}
use Rattle.quic_wire.specs.Value.{FrameValue, connection_close, application_close}
use Rattle.quic_wire.specs.Items.{items}
use Rattle.quic_wire.specs.Close.{CloseValue}
use Rattle.quic_wire.specs.declared.frame.InvalidFrame.{InvalidFrame}
use Rattle.quic_packet.specs.Header.{key_phase, reserved_bits}
use Rattle.quic_packet.specs.Datagram.{Opening}
use Rattle.quic_recovery_core.specs.Duplicates.{is_duplicate}
use Rattle.quic_spaces.specs.Numbers.{can_number, cut_against, expected, number_opened}
use Rattle.quic_time.specs.Timers.{has_come}
use Rattle.quic_machine.specs.Arrival.{Arrival, delivered_by, injected_by}
use Rattle.quic_machine.specs.declared.answers.State.{State}
use Rattle.quic_machine.specs.declared.answers.State.TheVariants as states
use Rattle.quic_machine.specs.declared.answers.DropReason.{DropReason}
use Rattle.quic_machine.specs.declared.answers.DropReason.TheVariants as drops
use Rattle.quic_machine.specs.declared.answers.LostReason.{LostReason}
use Rattle.quic_machine.specs.declared.answers.LostReason.TheVariants as reasons
use Rattle.quic_machine.specs.declared.answers.Received.TheVariants as receives
use Rattle.quic_machine.specs.declared.run.CloseCall.{CloseCall}
use Rattle.quic_machine.specs.declared.run.Call.{Call}
use Rattle.quic_machine.specs.declared.run.Call.TheVariants as calls
use Rattle.quic_machine.specs.declared.run.Delivery.{Delivery}
use Rattle.quic_machine.specs.declared.run.Injection.{Injection}
use Rattle.quic_machine.specs.declared.run.Answer.{Answer}
use Rattle.quic_machine.specs.declared.run.Answer.TheVariants as answers
use Rattle.quic_machine.specs.Policy.{Policy}
use Rattle.quic_machine.specs.Closing.{Closing, ticked}
use Rattle.quic_machine.specs.Ids.{known}
use Rattle.quic_machine.specs.Opens.{in_phase, head, opens_behind, opens, would_open}
use Rattle.quic_machine.specs.Migration.{items_at, is_there}
use Rattle.quic_machine.specs.Calls.{closed_in}
use Rattle.quic_machine.specs.End.{End, with_closing, with_numbers}
use Rattle.quic_machine.specs.Receive.{Fault, broke, too_many_pieces, closed_by_peer, violation, is_empty, asks_in, is_urged, take_frame, unless_fault, take_items, take_payload, Outcome, dropped, ends_as, by_state, opened_to, opened_as, opening, unopened_in, headed, received_in, received, is_read, items_taken, drawn_if, with_ids_drawn, has_migrated, with_migration}
use Rattle.quic_machine.specs.Poll.{Polled, gives_datagram, datagram_of, bounds, may_seal, polled}
use Rattle.quic_machine.specs.Timeouts.{TimedOut, Expiry, expiry_at, loss_judged, loss_expired, after_busy, unless_idle, close_expired, timed_out_in, timed_out}
use Rattle.quic_machine.specs.CallCases.{by_done}
use Rattle.quic_machine.specs.Machine.{IsAnswer, IsDelivered, says_last, injected_if, after_injected_if, after_delivered, after_call, fails}
use Rattle.quic_machine.specs.DraftLaws.{IsClose}
use Rattle.quic_machine.specs.LeaveCases.{Expired, by_busy, by_event}
use Rattle.quic_machine.specs.LeaveCases as expiring
use Rattle.quic_machine.specs.FrameCases.{Settling, named, begun, acked_keeps, losses_keep, frame_keeps, frame_leaves, items_keep, apart_leaves}
use Rattle.quic_machine.specs.Steps as steps
use Rattle.quic_machine.specs.PollCases.{ready_at, ready_leaves, draft_at, may_leave_at, composes}
use Rattle.quic_headline.specs.Runs.{In, frames_of}
use Rattle.quic_headline.specs.Causes.{AreUsedUp, seals_kept, internal_error}
use Rattle.quic_headline.specs.Closes.{IsToldAs}
use Rattle.quic_headline.specs.LoneCloses.{Expires, PeerCloses, Polls, IsRefused, aead_limit_reached}
use Rattle.quic_headline.proofs.Packets.Apart.{by_next_id}
use Rattle.quic_headline.proofs.Packets.Moved.{by_migrated_if, by_migration}
use Rattle.quic_headline.proofs.Packets.Elsewhere.{among_taken}
use Rattle.quic_headline.proofs.Packets.Owing.{closing_frame}
use Rattle.quic_headline.proofs.Packets.Probes.{by_going}
use Rattle.quic_headline.proofs.Packets.Sends.{by_sends}
use Rattle.quic_headline.proofs.Places.Steps.{poll_answer, timeout_answer}
use Rattle.quic_headline.proofs.Causes.Closing.{used_up}
use Rattle.quic_headline.proofs.Alone.Taking.{opened_by_key, opens_to}

-- ---- what it may make of it

-- what a call does for which an end closes, or is drained, by the reason: of a limit of refusals it
-- is said only that it is answered so
abbrev pub ClosesAt : Policy → List (List ℕ) → LostReason → End → Call → Answer → Type 0
ClosesAt p theirs reasons.Application e call a = (close : CloseCall) × (call ≡ calls.Close close)
ClosesAt p theirs (reasons.Peer close) e call a = PeerCloses p theirs close call a
ClosesAt p theirs reasons.Pieces e call a = a ≡ answers.Deliver (receives.Closed internal_error)
ClosesAt p theirs reasons.Idle e call a = Expires e.timers.idle e.closing.clock call a
ClosesAt p theirs reasons.KeyLimit e call a = (Polls call × (p.seals ≤ e.numbers.sealed + seals_kept)) ⊎ IsRefused aead_limit_reached a
ClosesAt p theirs reasons.NumberLimit e call a = Polls call × AreUsedUp e.numbers.next (cut_against e.numbers)
ClosesAt p theirs (reasons.Transport error) e call a = a ≡ answers.Deliver (receives.Closed error)

-- the reasons for which an end is drained at once
abbrev pub DrainsAtOnce : LostReason → Type 0
DrainsAtOnce (reasons.Peer close) = Unit {0}
DrainsAtOnce reasons.Idle = Unit {0}
DrainsAtOnce why = ⊥

pub data Shut (p : Policy) (theirs : List (List ℕ)) (e : End) (call : Call) (a : Answer) (c : Closing) : Type 0 where
  -- it stays as it was
  stays : c.state ≡ e.closing.state → c.reason ≡ e.closing.reason → Shut p theirs e call a c
  -- an open end closes, or is drained at once
  closes : e.closing.state ≡ states.Open → c.state ≡ states.Closing → (why : LostReason) → c.reason ≡ Some why → ClosesAt p theirs why e call a → Shut p theirs e call a c
  drains : e.closing.state ≡ states.Open → c.state ≡ states.Drained → (why : LostReason) → c.reason ≡ Some why → DrainsAtOnce why → ClosesAt p theirs why e call a → Shut p theirs e call a c
  -- an end was closing for long enough
  ends : e.closing.state ≡ states.Closing → c.state ≡ states.Drained → c.reason ≡ e.closing.reason → Expires e.timers.close e.closing.clock call a → Shut p theirs e call a c

-- ---- the close in a packet

-- a frame for which an end is told that its peer closed tells so
frame_tells : (f : FrameValue) (e : End) (close : CloseValue) → (take_frame f e).fault ≡ Some (closed_by_peer close) → IsToldAs f close
frame_tells f e close is = go f (closing_frame f e close is) is
  where
    same_close : (c d : CloseValue) → Some (closed_by_peer c) ≡ Some (closed_by_peer d) → c ≡ d
    same_close c d same = cc

    go : (g : FrameValue) → IsClose g → (take_frame g e).fault ≡ Some (closed_by_peer close) → IsToldAs g close
    go (connection_close c) is_close same = subst (IsToldAs (connection_close c)) (same_close _ close same) (refl, refl, refl)
    go (application_close c) is_close same = subst (IsToldAs (application_close c)) (same_close _ close same) (refl, refl)
    go g is_close same = absurd is_close

-- one stands among the frames of a payload
abbrev pub Tells : List (Result FrameValue InvalidFrame) → CloseValue → Type 0
Tells is close = (f : FrameValue) × In f (frames_of is) × IsToldAs f close

items_tell : (is : List (Result FrameValue InvalidFrame)) (e : End) (close : CloseValue) → (take_items is e).fault ≡ Some (closed_by_peer close) → Tells is close
items_tell [] e close said = cc
items_tell (Ok f ∷ is) e close said = go (take_frame f e).fault refl said (items_tell is (take_frame f e).end close)
  where
    go : (o : Option Fault) → (take_frame f e).fault ≡ o → (unless_fault o (take_frame f e) (take_items is)).fault ≡ Some (closed_by_peer close) → ((take_items is (take_frame f e).end).fault ≡ Some (closed_by_peer close) → Tells is close) → Tells (Ok f ∷ is) close
    go None there now rest = (let found = rest now in (found.0, inr found.1, found.2))
    go (Some fault) there now rest = (f, inl refl, frame_tells f e close now)
items_tell (Err x ∷ is) e close said = cc

-- where it came from elsewhere, too: a close is taken as it is
pub stray_tells : (here : Bool) (is : List (Result FrameValue InvalidFrame)) (close : CloseValue) → Tells (items_at here is) close → Tells is close
stray_tells here is close tells = elim (among_taken here is tells.0 tells.1) [
  | inl stands ↦ (tells.0, stands, tells.2)
  | inr is_padding ↦ absurd (subst (λ (f : FrameValue). IsToldAs f close) is_padding tells.2)
]

pub payload_tells : (first : ℕ) (is : List (Result FrameValue InvalidFrame)) (e : End) (close : CloseValue) → (take_payload first is e).fault ≡ Some (closed_by_peer close) → Tells is close
payload_tells first is e close = go (not (reserved_bits first == 0) || is_empty is)
  where
    go : (b : Bool) → (if b then record { end = e; fault = Some violation } else take_items is e).fault ≡ Some (closed_by_peer close) → Tells is close
    go true said = cc
    go false said = items_tell is e close said

-- ---- what frames and losses leave

module _ (c : Closing) where
  abbrev Has : End → Type 0
  Has x = x.closing ≡ c

  settles : Settling Has
  settles (steps.known n) e i = i
  settles s e i = i

  frame_has : (f : FrameValue) (e : End) → Has e → Has (take_frame f e).end
  frame_has = frame_keeps Has (record {
    ack = λ rises a e i. acked_keeps Has settles rises a (named a e) i;
    on_streams = λ f e on i. frame_leaves Has f e on (λ t. i);
    message = λ m e i. i;
    apart = λ f e is i. apart_leaves Has f e is (λ x. i) (λ x most. i);
  })

  pub payload_has : (first : ℕ) (is : List (Result FrameValue InvalidFrame)) (e : End) → Has e → Has (take_payload first is e).end
  payload_has first is e i = go (not (reserved_bits first == 0) || is_empty is)
    where
      go : (b : Bool) → Has (if b then record { end = e; fault = Some violation } else take_items is e).end
      go true = i
      go false = items_keep Has frame_has is e i

  -- timers but the idle one
  each_has : (s : Expired) (x : End) → Has x → Has (expiring.after s x)
  each_has expiring.of_acks x i = i
  each_has s x i = i

  judged_has : (o : Option ℕ) (x : End) → Has x → Has (loss_judged o x)
  judged_has None x i = i
  judged_has (Some moment) x i = losses_keep Has settles x i

  lost_has : (b : Bool) (x : End) → Has x → Has (loss_expired b x)
  lost_has true x i = judged_has x.tracking.loss_time x i
  lost_has false x i = i

-- ---- a poll

module _ (p : Policy) (theirs : List (List ℕ)) (e : End) (now : ℕ) where
  -- why an end closes that may give no ordinary datagram
  bound_closes : (reason : LostReason) (a : Answer) → bounds p e ≡ Some reason → ClosesAt p theirs reason e (calls.Poll now) a
  bound_closes reason a = go (can_number e.numbers) refl (may_seal p e) refl
    where
      go : (numbered : Bool) → can_number e.numbers ≡ numbered → (sealed : Bool) → may_seal p e ≡ sealed → (if not numbered then Some reasons.NumberLimit else (if not sealed then Some reasons.KeyLimit else None)) ≡ Some reason → ClosesAt p theirs reason e (calls.Poll now) a
      go false none sealed here is =
          let same : reasons.NumberLimit ≡ reason = cc in
          subst (λ (why : LostReason). ClosesAt p theirs why e (calls.Poll now) a) same ((now, refl), used_up e.numbers none)
      go true some false here is =
          let same : reasons.KeyLimit ≡ reason = cc in
          subst (λ (why : LostReason). ClosesAt p theirs why e (calls.Poll now) a) same (inl ((now, refl), ltb-false (e.numbers.sealed + seals_kept) p.seals here))
      go true some true here is = cc

  abbrev Given : Polled → Type 0
  Given q = Shut p theirs e (calls.Poll now) (answers.Poll q.answer) q.end.closing

  -- an end that is made ready takes its moment over, and so does what it composes
  ready_closing : (ready_at e now).end.closing ≡ ticked e.closing now
  ready_closing = ap (λ (x : End). x.closing) (ready_leaves e now)

  draft_closing : (draft_at e now).end.closing ≡ ticked e.closing now
  draft_closing = (composes (ready_at e now).leaving (ready_at e now).end (may_leave_at e now)).closing ∙ ready_closing

  later : (a : Answer) (c : Closing) → c ≡ ticked e.closing now → Shut p theirs e (calls.Poll now) a c
  later a c is = stays (ap (λ (x : Closing). x.state) is) (ap (λ (x : Closing). x.reason) is)

  polled_shuts : Given (polled p e now)
  polled_shuts = by_sends p e now (λ q sents. Given q) (record {
    silent = stays refl refl;
    failed = stays refl refl;
    repeats = λ is. (stays refl refl, (λ f goes. stays refl refl));
    nothing = λ is none. later (answers.Poll (Ok None)) (ready_at e now).end.closing ready_closing;
    closes = λ reason is bound. (closes is refl reason refl (bound_closes reason _ bound), (λ f goes. closes is refl reason refl (bound_closes reason _ bound)));
    gives = λ is bound some. by_going (λ (x : End). Shut p theirs e (calls.Poll now) (answers.Poll (gives_datagram (datagram_of p (draft_at e now)) x).answer) x.closing) p (draft_at e now) (λ going. later _ (draft_at e now).end.closing draft_closing);
  })

-- ---- a moment

module _ (p : Policy) (theirs : List (List ℕ)) (e : End) (now : ℕ) where
  abbrev Timed : TimedOut → Type 0
  Timed q = Shut p theirs e (calls.Timeout now) (answers.Timeout q.answer) q.end.closing

  -- a timer has come
  expires : (timer : Option ℕ) → has_come timer (ticked e.closing now).clock ≡ true → Expires timer e.closing.clock (calls.Timeout now) (answers.Timeout (Ok tt))
  expires None come = cc
  expires (Some moment) come = record { now = now; called = refl; answered = refl; moment = moment; set = refl; due = leb-true moment (max e.closing.clock now) come }

  timed_shuts : Timed (timed_out p e now)
  timed_shuts = go e.closing.state refl
    where
      begins : End
      begins = with_closing e (ticked e.closing now)

      x : Expiry
      x = expiry_at begins.closing.clock begins.timers

      lost : Has (ticked e.closing now) (loss_expired x.loss begins)
      lost = lost_has (ticked e.closing now) x.loss begins refl

      later_now : (f : End) → Has (ticked e.closing now) f → Shut p theirs e (calls.Timeout now) (answers.Timeout (Ok tt)) f.closing
      later_now f is = stays (ap (λ (c : Closing). c.state) is) (ap (λ (c : Closing). c.reason) is)

      idle : e.closing.state ≡ states.Open → (b : Bool) → x.idle ≡ b → Shut p theirs e (calls.Timeout now) (answers.Timeout (Ok tt)) (unless_idle b p.words x (loss_expired x.loss begins)).closing
      idle here true come = drains here refl reasons.Idle refl tt (expires e.timers.idle come)
      idle here false come = later_now (after_busy p.words x (loss_expired x.loss begins)) (by_busy p.words (Has (ticked e.closing now)) (Has (ticked e.closing now)) (each_has (ticked e.closing now)) (λ f i. i) x (loss_expired x.loss begins) lost)

      waits : e.closing.state ≡ states.Closing → (b : Bool) → has_come e.timers.close (ticked e.closing now).clock ≡ b → Shut p theirs e (calls.Timeout now) (answers.Timeout (Ok tt)) (close_expired b begins).closing
      waits here true come = ends here refl refl (expires e.timers.close come)
      waits here false come = stays refl refl

      go : (s : State) → e.closing.state ≡ s → Timed (timed_out_in s p e now)
      go states.Open here = idle here x.idle refl
      go states.Closing here = waits here (has_come e.timers.close (ticked e.closing now).clock) refl
      go states.Drained here = stays refl refl
      go states.Failed here = stays refl refl

-- ---- a delivery

module _ (p : Policy) (theirs : List (List ℕ)) (e : End) (delivery : Delivery) (d : List ℕ) (there : slice_get theirs delivery.index ≡ Some d) where
  abbrev Comes : Outcome → Type 0
  Comes o = Shut p theirs e (calls.Deliver delivery) (answers.Deliver o.answer) o.end.closing

  -- what the frame of a packet tells that opened there
  closed : (o : Opening) → opens p (known e.ids) (expected e.numbers) d ≡ Some o → (close : CloseValue) → Tells (items o.payload) close → PeerCloses p theirs close (calls.Deliver delivery) (answers.Deliver receives.Taken)
  closed o is close tells = record {
    delivery = delivery;
    called = refl;
    answered = refl;
    bytes = d;
    there = there;
    expected = expected e.numbers;
    opening = o;
    opened = opened_by_key p e d o is;
    frame = tells.0;
    carried = tells.1;
    told_as = tells.2;
  }

  ends_shuts : (o : Opening) → opens p (known e.ids) (expected e.numbers) d ≡ Some o → (fault : Option Fault) → ((close : CloseValue) → fault ≡ Some (closed_by_peer close) → Tells (items o.payload) close) → (asking urged : Bool) (n now : ℕ) (mark : Option EcnCodepoint) (x : End) → e.closing.state ≡ states.Open → x.closing ≡ ticked e.closing now
      → Comes (ends_as fault asking urged n mark x)
  ends_shuts o is None tells asking urged n now mark x here same = stays (ap (λ (c : Closing). c.state) same) (ap (λ (c : Closing). c.reason) same)
  ends_shuts o is (Some (closed_by_peer close)) tells asking urged n now mark x here same = drains here refl (reasons.Peer close) refl tt (closed o is close (tells close refl))
  ends_shuts o is (Some (broke error)) tells asking urged n now mark x here same = closes here refl (reasons.Transport error) refl refl
  ends_shuts o is (Some too_many_pieces) tells asking urged n now mark x here same = closes here refl reasons.Pieces refl refl

  state_shuts : (s : State) → e.closing.state ≡ s → (o : Opening) → opens p (known e.ids) (expected e.numbers) d ≡ Some o → (arrival : Arrival) → Comes (by_state s o arrival (with_numbers e (number_opened e.numbers o.number)))
  state_shuts states.Open here o is arrival =
      let at : End = begun e arrival.now o.number in
      let asks = asks_in (items o.payload) in
      let within : List (Result FrameValue InvalidFrame) = items_taken o arrival e in
      let taken = take_payload o.first within at in
      ends_shuts o is taken.fault (λ close told. stray_tells (is_there arrival.remote e) (items o.payload) close (payload_tells o.first within at close told)) asks (is_urged arrival.mark asks within at) o.number arrival.now arrival.mark taken.end here
      (payload_has (ticked e.closing arrival.now) o.first within at refl)
  state_shuts states.Closing here o is arrival = stays refl refl
  state_shuts states.Drained here o is arrival = stays refl refl
  state_shuts states.Failed here o is arrival = stays refl refl

  opened_shuts : (o : Opening) → (key_phase o.first ≡ false → opens p (known e.ids) (expected e.numbers) d ≡ Some o) → (arrival : Arrival) → Comes (opened_to o arrival e)
  opened_shuts o is arrival = go (key_phase o.first) refl (is_duplicate e.numbers.opened o.number)
    where
      go : (phase : Bool) → key_phase o.first ≡ phase → (again : Bool) → Comes (if phase then dropped drops.KeyPhase e else (if again then dropped drops.Duplicate e else by_state e.closing.state o arrival (with_numbers e (number_opened e.numbers o.number))))
      go true is_set again = stays refl refl
      go false is_clear true = stays refl refl
      go false is_clear false = state_shuts e.closing.state refl o (is is_clear) arrival

  unopened_shuts : (s : State) → e.closing.state ≡ s → (last : Bool) (arrival : Arrival) → Comes (unopened_in s last arrival e)
  unopened_shuts states.Open here true arrival = closes here refl reasons.KeyLimit refl (inr (inl refl))
  unopened_shuts states.Open here false arrival = stays refl refl
  unopened_shuts states.Closing here last arrival = stays refl refl
  unopened_shuts states.Drained here last arrival = stays refl refl
  unopened_shuts states.Failed here last arrival = stays refl refl

  drawn_shuts : (b : Bool) (o : Outcome) → Comes o → Comes (record { answer = o.answer; end = drawn_if b p o.end })
  drawn_shuts true o i = i
  drawn_shuts false o i = i

  packet_shuts : (o : Option Opening) → ((x : Opening) → o ≡ Some x → key_phase x.first ≡ false → opens p (known e.ids) (expected e.numbers) d ≡ Some x) → (arrival : Arrival) → Comes (opened_as o p arrival e)
  packet_shuts None is arrival = unopened_shuts e.closing.state refl arrival.last arrival
  packet_shuts (Some o) is arrival =
      let out = with_ids_drawn p (opened_to o arrival e) in
      let left = drawn_shuts (is_read (opened_to o arrival e).answer) (opened_to o arrival e) (opened_shuts o (is o refl) arrival) in
      by_migrated_if (λ (x : End). Shut p theirs e (calls.Deliver delivery) (answers.Deliver out.answer) x.closing) p o arrival.remote out.end (λ c. left) (λ c most. left) (has_migrated o arrival.remote e out) left

  headed_shuts : (r : Result (List ℕ) DropReason) (arrival : Arrival) → head e arrival.remote d ≡ r → Comes (headed r p e arrival d)
  headed_shuts (Err error) arrival is = stays refl refl
  headed_shuts (Ok id) arrival is = packet_shuts (opening p e d) (λ o opens_so phase. opens_to p e arrival d id o is opens_so phase) arrival

  received_shuts : (arrival : Arrival) → Comes (received p e arrival d)
  received_shuts arrival = go e.closing.state
    where
      go : (s : State) → Comes (received_in s p e arrival d)
      go states.Failed = stays refl refl
      go states.Drained = stays refl refl
      go states.Open = headed_shuts (head e arrival.remote d) arrival refl
      go states.Closing = headed_shuts (head e arrival.remote d) arrival refl

-- by whether there is such a datagram
delivered_shuts : (p : Policy) (theirs : List (List ℕ)) (e : End) (delivery : Delivery) (o : Option (List ℕ)) → slice_get theirs delivery.index ≡ o → (a : Answer) → IsDelivered p e delivery o a → fails a ≡ false
    → Shut p theirs e (calls.Deliver delivery) a (after_delivered p e (delivered_by (says_last a) delivery) o).closing
delivered_shuts p theirs e delivery None there a is served = stays refl refl
delivered_shuts p theirs e delivery (Some d) there a (inl is) served =
    subst (λ (b : Answer). Shut p theirs e (calls.Deliver delivery) b (received p e (delivered_by (says_last a) delivery) d).end.closing) (sym is) (received_shuts p theirs e delivery d there (delivered_by (says_last a) delivery))
delivered_shuts p theirs e delivery (Some d) there a (inr is) served = let lacks = ap fails is in cc

-- ---- an injection

-- one that doesn't open closes an open end at most
module _ (p : Policy) (theirs : List (List ℕ)) (e : End) (injection : Injection) where
  abbrev Enters : Outcome → Type 0
  Enters o = Shut p theirs e (calls.Inject injection) (answers.Inject o.answer) o.end.closing

  hidden_unopened : (s : State) → e.closing.state ≡ s → (last : Bool) (arrival : Arrival) → Enters (unopened_in s last arrival e)
  hidden_unopened states.Open here true arrival = closes here refl reasons.KeyLimit refl (inr (inr refl))
  hidden_unopened states.Open here false arrival = stays refl refl
  hidden_unopened states.Closing here last arrival = stays refl refl
  hidden_unopened states.Drained here last arrival = stays refl refl
  hidden_unopened states.Failed here last arrival = stays refl refl

  hidden_packet : (o : Option Opening) (arrival : Arrival) → is_some (in_phase o) ≡ false → Enters (opened_as o p arrival e)
  hidden_packet None arrival hidden = hidden_unopened e.closing.state refl arrival.last arrival
  hidden_packet (Some o) arrival hidden = go (key_phase o.first) hidden
    where
      go : (b : Bool) → is_some (if b then None else Some o) ≡ false
          → Enters (with_migration p o arrival.remote e (with_ids_drawn p (if b then dropped drops.KeyPhase e else (if is_duplicate e.numbers.opened o.number then dropped drops.Duplicate e else by_state e.closing.state o arrival (with_numbers e (number_opened e.numbers o.number))))))
      go true hidden = by_migration Enters p o arrival.remote e (dropped drops.KeyPhase e) (stays refl refl) (λ moved taken opened. cc)
      go false hidden = cc

  hidden_headed : (r : Result (List ℕ) DropReason) (arrival : Arrival) (d : List ℕ) → is_some (opens_behind r p (expected e.numbers) d) ≡ false → Enters (headed r p e arrival d)
  hidden_headed (Err error) arrival d hidden = stays refl refl
  hidden_headed (Ok id) arrival d hidden = hidden_packet (opening p e d) arrival hidden

  hidden_received : (s : State) (arrival : Arrival) (d : List ℕ) → would_open p e arrival.remote d ≡ false → Enters (received_in s p e arrival d)
  hidden_received states.Failed arrival d hidden = stays refl refl
  hidden_received states.Drained arrival d hidden = stays refl refl
  hidden_received states.Open arrival d hidden = hidden_headed (head e arrival.remote d) arrival d hidden
  hidden_received states.Closing arrival d hidden = hidden_headed (head e arrival.remote d) arrival d hidden

  injected_shuts : (is_last : Bool) → Shut p theirs e (calls.Inject injection) (injected_if (would_open p e injection.remote injection.bytes) is_last p e injection) (after_injected_if (would_open p e injection.remote injection.bytes) is_last p e injection).closing
  injected_shuts is_last = go (would_open p e injection.remote injection.bytes) refl
    where
      go : (b : Bool) → would_open p e injection.remote injection.bytes ≡ b → Shut p theirs e (calls.Inject injection) (injected_if b is_last p e injection) (after_injected_if b is_last p e injection).closing
      go true is = stays refl refl
      go false is = hidden_received e.closing.state (injected_by is_last injection) injection.bytes is

-- ---- any call

-- the application closes
close_shuts : (p : Policy) (theirs : List (List ℕ)) (e : End) (close : CloseCall) (a : Answer) → Shut p theirs e (calls.Close close) a (closed_in e.closing.state close.now close.error_code close.reason e).closing
close_shuts p theirs e close a = go e.closing.state refl
  where
    go : (s : State) → e.closing.state ≡ s → Shut p theirs e (calls.Close close) a (closed_in s close.now close.error_code close.reason e).closing
    go states.Open here = closes here refl reasons.Application refl (close, refl)
    go states.Closing here = stays refl refl
    go states.Drained here = stays refl refl
    go states.Failed here = stays refl refl

pub call_shuts : (p : Policy) (theirs : List (List ℕ)) (e : End) (call : Call) (a : Answer) → IsAnswer p e theirs call a → fails a ≡ false → Shut p theirs e call a (after_call p e theirs call a).closing
call_shuts p theirs e (calls.Poll now) a is served = subst (λ (b : Answer). Shut p theirs e (calls.Poll now) b (polled p e now).end.closing) (sym (poll_answer p e now a is served)) (polled_shuts p theirs e now)
call_shuts p theirs e (calls.Timeout now) a is served = subst (λ (b : Answer). Shut p theirs e (calls.Timeout now) b (timed_out p e now).end.closing) (sym (timeout_answer p e now a is served)) (timed_shuts p theirs e now)
call_shuts p theirs e (calls.Deliver delivery) a is served = delivered_shuts p theirs e delivery (slice_get theirs delivery.index) refl a is served
call_shuts p theirs e (calls.Inject injection) a is served =
    subst (λ (b : Answer). Shut p theirs e (calls.Inject injection) b (after_injected_if (would_open p e injection.remote injection.bytes) (says_last a) p e injection).closing) (sym is) (injected_shuts p theirs e injection (says_last a))
call_shuts p theirs e (calls.Close close) a is served = close_shuts p theirs e close a
call_shuts p theirs e calls.UseNextId a is served = by_next_id (λ (x : End). Shut p theirs e calls.UseNextId a x.closing) e a (stays refl refl) (λ c. stays refl refl) (λ c most. stays refl refl)
call_shuts p theirs e calls.HandshakeDone a is served = by_done (λ (x : End). Shut p theirs e calls.HandshakeDone a x.closing) e a (stays refl refl) (stays refl refl)
call_shuts p theirs e calls.Event a is served = by_event e (λ (x : End). Shut p theirs e calls.Event a x.closing) (stays refl refl) (stays refl refl) (λ told. stays refl refl)
call_shuts p theirs e call a is served = stays refl refl
