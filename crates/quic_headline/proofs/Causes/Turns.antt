-- What a call makes of whether its end is open, why it isn't, and the close that it owes its peer.
use Rattle.std.proofs.Common.{◌≡◌, ℕ, Bool, true, false, List, [], ◌∷◌, Option, Some, None, Result, Ok, Err, refl, sym, ap, ◌∙◌, subst, inl, inr}
use Rattle.std.specs.Prelude.{slice_get, if◌then◌else◌, not, ◌==◌, ◌||◌}
use Rattle.std.specs.Option.{is_some}
use Rattle.std.proofs.lemmas.List.{append-nil}
use Rattle.quic_wire_core.specs.declared.shared.EcnCodepoint.{EcnCodepoint}
use Rattle.quic_wire.specs.Value.{FrameValue, application_close}
use Rattle.quic_wire.specs.Items.{items}
use Rattle.quic_wire.specs.declared.frame.InvalidFrame.{InvalidFrame}
use Rattle.quic_packet.specs.Header.{key_phase, reserved_bits}
use Rattle.quic_packet.specs.Datagram.{Opening}
use Rattle.quic_packet.specs.declared.packet.HeaderError.{HeaderError}
use Rattle.quic_packet.specs.declared.packet.HeaderError.TheVariants as headers
use Rattle.quic_recovery_core.specs.Duplicates.{is_duplicate}
use Rattle.quic_spaces.specs.Numbers.{can_number, expected, number_opened}
use Rattle.quic_machine.specs.Arrival.{Arrival, delivered_by, injected_by}
use Rattle.quic_machine.specs.declared.answers.State.{State}
use Rattle.quic_machine.specs.declared.answers.State.TheVariants as states
use Rattle.quic_machine.specs.declared.answers.DropReason.{DropReason}
use Rattle.quic_machine.specs.declared.answers.DropReason.TheVariants as drops
use Rattle.quic_machine.specs.declared.answers.LostReason.{LostReason}
use Rattle.quic_machine.specs.declared.answers.LostReason.TheVariants as reasons
use Rattle.quic_machine.specs.declared.answers.Received.TheVariants as receives
use Rattle.quic_machine.specs.declared.run.CloseCall.{CloseCall}
use Rattle.quic_machine.specs.declared.run.Call.{Call}
use Rattle.quic_machine.specs.declared.run.Call.TheVariants as calls
use Rattle.quic_machine.specs.declared.run.Delivery.{Delivery}
use Rattle.quic_machine.specs.declared.run.Injection.{Injection}
use Rattle.quic_machine.specs.declared.run.Answer.{Answer}
use Rattle.quic_machine.specs.declared.run.Answer.TheVariants as answers
use Rattle.quic_machine.specs.Policy.{Policy}
use Rattle.quic_machine.specs.Reasons.{error_close}
use Rattle.quic_machine.specs.Closing.{Closing, ticked, closing_for, close_given}
use Rattle.quic_machine.specs.Opens.{head, in_phase, opens_behind, would_open}
use Rattle.quic_machine.specs.Calls.{closed_in}
use Rattle.quic_machine.specs.End.{End, with_closing, with_numbers}
use Rattle.quic_machine.specs.Receive.{Fault, broke, too_many_pieces, closed_by_peer, violation, is_empty, asks_in, is_urged, take_frame, take_items, take_payload, Outcome, dropped, ends_as, by_state, opened_to, opened_as, opening, unopened_in, headed, received_in, received, is_read, items_taken, drawn_if, with_ids_drawn, drop_of, has_migrated, with_migration}
use Rattle.quic_machine.specs.Poll.{Polled, gives_datagram, datagram_of, bounds, may_seal, polled}
use Rattle.quic_time.specs.Timers.{has_come}
use Rattle.quic_machine.specs.Timeouts.{expiry_at, timed_out_in, timed_out}
use Rattle.quic_machine.specs.Machine.{IsAnswer, IsDelivered, says_last, injected_if, after_injected_if, after_delivered, after_call, fails, gave}
use Rattle.quic_machine.specs.CallCases.{is_delivery, by_done}
use Rattle.quic_machine.specs.LeaveCases.{at_timeout, at_losses, at_expiry, by_expired, at_event, by_event}
use Rattle.quic_machine.specs.FrameCases.{Settling, named, begun, acked_keeps, frame_keeps, frame_leaves, items_keep, apart_leaves}
use Rattle.quic_machine.specs.Steps as steps
use Rattle.quic_machine.specs.PollCases.{ready_at, ready_leaves, draft_at, may_leave_at, composes}
use Rattle.quic_headline.specs.Runs.{Told}
use Rattle.quic_headline.specs.Closes.{asks_again, SaysWhy}
use Rattle.quic_headline.proofs.Packets.Apart.{by_waits, by_next_id}
use Rattle.quic_headline.proofs.Packets.Moved.{by_migrated_if, by_migration}
use Rattle.quic_headline.proofs.Packets.Elsewhere.{by_dropped}
use Rattle.quic_headline.proofs.Packets.Probes.{by_going}
use Rattle.quic_headline.proofs.Packets.Sends.{by_sends}
use Rattle.quic_headline.proofs.Packets.Stays.{settles_losses}
use Rattle.quic_headline.proofs.Places.Parties.{told_of}
use Rattle.quic_headline.proofs.Places.Steps.{only_polls_give, poll_answer}
use Rattle.quic_headline.proofs.Causes.Handed.{is_handed, only_handed}

-- ---- what may become of it

-- an end is as open as it was, for the same reason and with the same close
pub record Alike (b c : Closing) : Type 0 where
  pub state : c.state ≡ b.state
  pub reason : c.reason ≡ b.reason
  pub close : c.close ≡ b.close

-- what a call that is answered so makes of it
pub data Turns (b : Closing) (call : Call) (a : Answer) (c : Closing) : Type 0 where
  -- nothing: of an end that is closing no close went, and none was asked for
  kept : Alike b c → c.owed ≡ b.owed → (b.state ≡ states.Closing → (gave a ≡ false) × (asks_again a ≡ false)) → Turns b call a c
  -- the close of an end that is closing was asked for once more, or it went
  asked : b.state ≡ states.Closing → Alike b c → c.owed ≡ true → gave a ≡ false → asks_again a ≡ true → Turns b call a c
  went : b.state ≡ states.Closing → Alike b c → c.owed ≡ false → gave a ≡ true → Turns b call a c
  -- an open end closes, with a close that says why, and that may go at once
  shut : b.state ≡ states.Open → c.state ≡ states.Closing → (reason : LostReason) → c.reason ≡ Some reason → (f : FrameValue) → c.close ≡ Some f → SaysWhy (Some reason) (told_of call a b.state ∷ []) f → c.owed ≡ not (gave a) → Turns b call a c
  -- an end was closing for long enough; or an open one is drained at once
  ended : b.state ≡ states.Closing → c.state ≡ states.Drained → c.reason ≡ b.reason → c.close ≡ None → Turns b call a c
  lapsed : b.state ≡ states.Open → c.state ≡ states.Drained → c.close ≡ b.close → Turns b call a c

-- an end that is open isn't closing
pub open_closing : (s : State) → s ≡ states.Open → s ≡ states.Closing → ⊥
open_closing states.Open opened closing = cc
open_closing states.Closing opened closing = cc
open_closing states.Drained opened closing = cc
open_closing states.Failed opened closing = cc

-- it stays so
abbrev same_as : (b : Closing) → Alike b b
same_as b = record { state = refl; reason = refl; close = refl }

-- so it does as a moment is taken over
abbrev later_as : (b : Closing) (now : ℕ) → Alike b (ticked b now)
later_as b now = record { state = refl; reason = refl; close = refl }

alike_by : (b c d : Closing) → Alike b c → d ≡ c → Alike b d
alike_by b c d same is = record { state = ap (λ (x : Closing). x.state) is ∙ same.state; reason = ap (λ (x : Closing). x.reason) is ∙ same.reason; close = ap (λ (x : Closing). x.close) is ∙ same.close }

-- ---- closes for errors of QUIC

-- the reasons of which the peer is told an error
abbrev pub IsError : LostReason → Type 0
IsError reasons.KeyLimit = Unit {0}
IsError reasons.NumberLimit = Unit {0}
IsError reasons.Pieces = Unit {0}
IsError (reasons.Transport error) = Unit {0}
IsError reason = ⊥

-- it says why
pub error_says : (reason : LostReason) (told : List Told) → IsError reason → SaysWhy (Some reason) told (error_close reason)
error_says reasons.KeyLimit told is = (refl, (refl, refl))
error_says reasons.NumberLimit told is = (refl, (refl, refl))
error_says reasons.Pieces told is = (refl, (refl, refl))
error_says (reasons.Transport error) told is = (refl, (refl, refl))
error_says reason told is = absurd is

-- an open end closes so, and gives nothing; or it gives its close at once
shut_for : (b x : Closing) (call : Call) (a : Answer) (reason : LostReason) → b.state ≡ states.Open → IsError reason → gave a ≡ false → Turns b call a (closing_for reason (error_close reason) x)
shut_for b x call a reason here is none = shut here refl reason refl (error_close reason) refl (error_says reason (told_of call a b.state ∷ []) is) (ap not (sym none))

shut_given : (b x : Closing) (call : Call) (a : Answer) (reason : LostReason) → b.state ≡ states.Open → IsError reason → gave a ≡ true → Turns b call a (close_given (closing_for reason (error_close reason) x))
shut_given b x call a reason here is one = shut here refl reason refl (error_close reason) refl (error_says reason (told_of call a b.state ∷ []) is) (ap not (sym one))

-- why an end closes that may give no ordinary datagram
pub bound_error : (p : Policy) (e : End) (reason : LostReason) → bounds p e ≡ Some reason → IsError reason
bound_error p e reason = go (can_number e.numbers) (may_seal p e)
  where
    go : (numbered sealed : Bool) → (if not numbered then Some reasons.NumberLimit else (if not sealed then Some reasons.KeyLimit else None)) ≡ Some reason → IsError reason
    go false sealed is = (let same : reasons.NumberLimit ≡ reason = cc in subst IsError same tt)
    go true false is = (let same : reasons.KeyLimit ≡ reason = cc in subst IsError same tt)
    go true true is = cc

-- ---- which answers ask for a close

injected_asks : (b is_last : Bool) (p : Policy) (e : End) (injection : Injection) → asks_again (injected_if b is_last p e injection) ≡ false
injected_asks true is_last p e injection = refl
injected_asks false is_last p e injection = refl

-- only a delivery does
only_deliveries_ask : (p : Policy) (e : End) (theirs : List (List ℕ)) (call : Call) (a : Answer) → is_delivery call ≡ false → IsAnswer p e theirs call a → asks_again a ≡ false
only_deliveries_ask p e theirs (calls.Deliver delivery) a other is = cc
only_deliveries_ask p e theirs (calls.Inject injection) a other is = ap asks_again is ∙ injected_asks (would_open p e injection.remote injection.bytes) (says_last a) p e injection
only_deliveries_ask p e theirs call a other is = apart a (only_handed p e theirs call a refl is)
  where
    apart : (b : Answer) → is_handed b ≡ false → asks_again b ≡ false
    apart (answers.Deliver r) none = cc
    apart b none = refl

-- a datagram with such a header doesn't
header_asks : (error : HeaderError) → asks_again (answers.Deliver (receives.Dropped (drop_of error))) ≡ false
header_asks headers.TooShort = refl
header_asks headers.NotShort = refl
header_asks headers.FixedBit = refl
header_asks headers.UnknownId = refl

-- ---- a poll

module _ (p : Policy) (e : End) (now : ℕ) where
  abbrev Given : Polled → Type 0
  Given q = Turns e.closing (calls.Poll now) (answers.Poll q.answer) q.end.closing

  -- an end that is made ready takes its moment over, and so does what it composes
  ready_closing : (ready_at e now).end.closing ≡ ticked e.closing now
  ready_closing = ap (λ (x : End). x.closing) (ready_leaves e now)

  draft_closing : (draft_at e now).end.closing ≡ ticked e.closing now
  draft_closing = (composes (ready_at e now).leaving (ready_at e now).end (may_leave_at e now)).closing ∙ ready_closing

  open_kept : (a : Answer) (c : Closing) → e.closing.state ≡ states.Open → c ≡ ticked e.closing now → Turns e.closing (calls.Poll now) a c
  open_kept a c here is = kept (alike_by e.closing (ticked e.closing now) c (later_as e.closing now) is) (ap (λ (x : Closing). x.owed) is) (λ closing. absurd (open_closing e.closing.state here closing))

  polled_turns : Given (polled p e now)
  polled_turns = by_sends p e now (λ q sents. Given q) (record {
    silent = kept (same_as e.closing) refl (λ closing. (refl, refl));
    failed = kept (same_as e.closing) refl (λ closing. (refl, refl));
    repeats = λ is. (kept (later_as e.closing now) refl (λ closing. (refl, refl)), (λ f goes. went is (record { state = refl; reason = refl; close = refl }) refl refl));
    nothing = λ is none. open_kept (answers.Poll (Ok None)) (ready_at e now).end.closing is ready_closing;
    closes = λ reason is bound. (
      shut_for e.closing (ready_at e now).end.closing (calls.Poll now) (answers.Poll (Ok None)) reason is (bound_error p e reason bound) refl,
      λ f goes. shut_given e.closing (ready_at e now).end.closing (calls.Poll now) _ reason is (bound_error p e reason bound) refl,
    );
    gives = λ is bound some. by_going (λ (x : End). Turns e.closing (calls.Poll now) (answers.Poll (gives_datagram (datagram_of p (draft_at e now)) x).answer) x.closing) p (draft_at e now) (λ going. open_kept _ (draft_at e now).end.closing is draft_closing);
  })

-- ---- a delivery

-- frames of a packet change nothing of it
module _ (c : Closing) where
  abbrev Has : End → Type 0
  Has x = x.closing ≡ c

  settles : Settling Has
  settles (steps.known n) e i = i
  settles s e i = i

  frame_has : (f : FrameValue) (e : End) → Has e → Has (take_frame f e).end
  frame_has = frame_keeps Has (record {
    ack = λ rises a e i. acked_keeps Has settles rises a (named a e) i;
    on_streams = λ f e on i. frame_leaves Has f e on (λ t. i);
    message = λ m e i. i;
    apart = λ f e is i. apart_leaves Has f e is (λ x. i) (λ x most. i);
  })

  payload_has : (first : ℕ) (is : List (Result FrameValue InvalidFrame)) (e : End) → Has e → Has (take_payload first is e).end
  payload_has first is e i = go (not (reserved_bits first == 0) || is_empty is)
    where
      go : (b : Bool) → Has (if b then record { end = e; fault = Some violation } else take_items is e).end
      go true = i
      go false = items_keep Has frame_has is e i

module _ (e : End) (call : Call) where
  abbrev Comes : Outcome → Type 0
  Comes o = Turns e.closing call (answers.Deliver o.answer) o.end.closing

  -- a datagram that is dropped asks for nothing, but where it opened at an end that is closing
  still : (o : Outcome) → o.end.closing ≡ e.closing → gave (answers.Deliver o.answer) ≡ false → asks_again (answers.Deliver o.answer) ≡ false → Comes o
  still o is none asks = kept (alike_by e.closing e.closing o.end.closing (same_as e.closing) is) (ap (λ (x : Closing). x.owed) is) (λ closing. (none, asks))

  ends_turn : (fault : Option Fault) (asking urged : Bool) (n now : ℕ) (mark : Option EcnCodepoint) (x : End) → e.closing.state ≡ states.Open → x.closing ≡ ticked e.closing now → Comes (ends_as fault asking urged n mark x)
  ends_turn None asking urged n now mark x here is =
      kept (alike_by e.closing (ticked e.closing now) x.closing (later_as e.closing now) is) (ap (λ (y : Closing). y.owed) is) (λ closing. absurd (open_closing e.closing.state here closing))
  ends_turn (Some (closed_by_peer close)) asking urged n now mark x here is = lapsed here refl (ap (λ (y : Closing). y.close) is)
  ends_turn (Some (broke error)) asking urged n now mark x here is = shut_for e.closing x.closing call (answers.Deliver (receives.Closed error)) (reasons.Transport error) here tt refl
  ends_turn (Some too_many_pieces) asking urged n now mark x here is = shut_for e.closing x.closing call _ reasons.Pieces here tt refl

  state_turns : (s : State) → e.closing.state ≡ s → (o : Opening) (arrival : Arrival) → Comes (by_state s o arrival (with_numbers e (number_opened e.numbers o.number)))
  state_turns states.Open here o arrival =
      let begins : End = begun e arrival.now o.number in
      let asks = asks_in (items o.payload) in
      let within = items_taken o arrival e in
      let taken = take_payload o.first within begins in
      ends_turn taken.fault asks (is_urged arrival.mark asks within begins) o.number arrival.now arrival.mark taken.end here (payload_has (ticked e.closing arrival.now) o.first within begins refl)
  state_turns states.Closing here o arrival = asked here (record { state = refl; reason = refl; close = refl }) refl refl refl
  state_turns states.Drained here o arrival = kept (same_as e.closing) refl (λ closing. (refl, refl))
  state_turns states.Failed here o arrival = kept (same_as e.closing) refl (λ closing. (refl, refl))

  opened_turns : (o : Opening) (arrival : Arrival) → Comes (opened_to o arrival e)
  opened_turns o arrival = go (key_phase o.first) (is_duplicate e.numbers.opened o.number)
    where
      go : (phase again : Bool) → Comes (if phase then dropped drops.KeyPhase e else (if again then dropped drops.Duplicate e else by_state e.closing.state o arrival (with_numbers e (number_opened e.numbers o.number))))
      go true again = still (dropped drops.KeyPhase e) refl refl refl
      go false true = still (dropped drops.Duplicate e) refl refl refl
      go false false = state_turns e.closing.state refl o arrival

  unopened_turns : (s : State) → e.closing.state ≡ s → (last : Bool) (arrival : Arrival) → Comes (unopened_in s last arrival e)
  unopened_turns states.Open here true arrival = shut_for e.closing (ticked e.closing arrival.now) call _ reasons.KeyLimit here tt refl
  unopened_turns states.Open here false arrival = still (dropped drops.NotOpened e) refl refl refl
  unopened_turns states.Closing here last arrival = still (dropped drops.NotOpened e) refl refl refl
  unopened_turns states.Drained here last arrival = still (dropped drops.NotOpened e) refl refl refl
  unopened_turns states.Failed here last arrival = still (dropped drops.NotOpened e) refl refl refl

  drawn_turns : (b : Bool) (p : Policy) (o : Outcome) → Comes o → Comes (record { answer = o.answer; end = drawn_if b p o.end })
  drawn_turns true p o i = i
  drawn_turns false p o i = i

  packet_turns : (o : Option Opening) (p : Policy) (arrival : Arrival) → Comes (opened_as o p arrival e)
  packet_turns None p arrival = unopened_turns e.closing.state refl arrival.last arrival
  packet_turns (Some o) p arrival =
      let out = with_ids_drawn p (opened_to o arrival e) in
      let left = drawn_turns (is_read (opened_to o arrival e).answer) p (opened_to o arrival e) (opened_turns o arrival) in
      by_migrated_if (λ (x : End). Comes (record { answer = out.answer; end = x })) p o arrival.remote out.end (λ c. left) (λ c most. left) (has_migrated o arrival.remote e out) left

  headed_turns : (r : Result (List ℕ) DropReason) (p : Policy) (arrival : Arrival) (d : List ℕ) → head e arrival.remote d ≡ r → Comes (headed r p e arrival d)
  headed_turns (Err reason) p arrival d is = still (dropped reason e) refl refl (by_dropped (λ (why : DropReason). asks_again (answers.Deliver (receives.Dropped why)) ≡ false) e arrival.remote d reason refl header_asks is)
  headed_turns (Ok id) p arrival d is = packet_turns (opening p e d) p arrival

  received_turns : (p : Policy) (arrival : Arrival) (d : List ℕ) → Comes (received p e arrival d)
  received_turns p arrival d = go e.closing.state
    where
      go : (s : State) → Comes (received_in s p e arrival d)
      go states.Failed = still (dropped drops.Failed e) refl refl refl
      go states.Drained = still (dropped drops.Drained e) refl refl refl
      go states.Open = headed_turns (head e arrival.remote d) p arrival d refl
      go states.Closing = headed_turns (head e arrival.remote d) p arrival d refl

-- by whether there is such a datagram
delivered_turns : (p : Policy) (e : End) (delivery : Delivery) (o : Option (List ℕ)) (a : Answer) → IsDelivered p e delivery o a → fails a ≡ false
    → Turns e.closing (calls.Deliver delivery) a (after_delivered p e (delivered_by (says_last a) delivery) o).closing
delivered_turns p e delivery None a is served = kept (same_as e.closing) refl (λ closing. (ap gave is, ap asks_again is))
delivered_turns p e delivery (Some d) a (inl is) served =
    subst (λ (b : Answer). Turns e.closing (calls.Deliver delivery) b (received p e (delivered_by (says_last a) delivery) d).end.closing) (sym is) (received_turns e (calls.Deliver delivery) p (delivered_by (says_last a) delivery) d)
delivered_turns p e delivery (Some d) a (inr is) served = let lacks = ap fails is in cc

-- ---- an injection

-- one that doesn't open closes an open end at most
module _ (e : End) (call : Call) (a : Answer) (none : gave a ≡ false) (asks : asks_again a ≡ false) where
  abbrev Left : End → Type 0
  Left x = Turns e.closing call a x.closing

  as_is : Left e
  as_is = kept (same_as e.closing) refl (λ closing. (none, asks))

  hidden_unopened : (s : State) → e.closing.state ≡ s → (last : Bool) (arrival : Arrival) → Left (unopened_in s last arrival e).end
  hidden_unopened states.Open here true arrival = shut_for e.closing (ticked e.closing arrival.now) call a reasons.KeyLimit here tt none
  hidden_unopened states.Open here false arrival = as_is
  hidden_unopened states.Closing here last arrival = as_is
  hidden_unopened states.Drained here last arrival = as_is
  hidden_unopened states.Failed here last arrival = as_is

  hidden_packet : (o : Option Opening) (p : Policy) (arrival : Arrival) → is_some (in_phase o) ≡ false → Left (opened_as o p arrival e).end
  hidden_packet None p arrival hidden = hidden_unopened e.closing.state refl arrival.last arrival
  hidden_packet (Some o) p arrival hidden = go (key_phase o.first) hidden
    where
      go : (b : Bool) → is_some (if b then None else Some o) ≡ false
          → Left (with_migration p o arrival.remote e (with_ids_drawn p (if b then dropped drops.KeyPhase e else (if is_duplicate e.numbers.opened o.number then dropped drops.Duplicate e else by_state e.closing.state o arrival (with_numbers e (number_opened e.numbers o.number)))))).end
      go true hidden = by_migration (λ (out : Outcome). Left out.end) p o arrival.remote e (dropped drops.KeyPhase e) as_is (λ moved taken opened. cc)
      go false hidden = cc

  hidden_headed : (r : Result (List ℕ) DropReason) (p : Policy) (arrival : Arrival) (d : List ℕ) → is_some (opens_behind r p (expected e.numbers) d) ≡ false → Left (headed r p e arrival d).end
  hidden_headed (Err error) p arrival d hidden = as_is
  hidden_headed (Ok id) p arrival d hidden = hidden_packet (opening p e d) p arrival hidden

  hidden_received : (s : State) (p : Policy) (arrival : Arrival) (d : List ℕ) → would_open p e arrival.remote d ≡ false → Left (received_in s p e arrival d).end
  hidden_received states.Failed p arrival d hidden = as_is
  hidden_received states.Drained p arrival d hidden = as_is
  hidden_received states.Open p arrival d hidden = hidden_headed (head e arrival.remote d) p arrival d hidden
  hidden_received states.Closing p arrival d hidden = hidden_headed (head e arrival.remote d) p arrival d hidden

  injected_turns : (p : Policy) (is_last : Bool) (injection : Injection) → Left (after_injected_if (would_open p e injection.remote injection.bytes) is_last p e injection)
  injected_turns p is_last injection = go (would_open p e injection.remote injection.bytes) refl
    where
      go : (b : Bool) → would_open p e injection.remote injection.bytes ≡ b → Left (after_injected_if b is_last p e injection)
      go true is = as_is
      go false is = hidden_received e.closing.state p (injected_by is_last injection) injection.bytes is

  -- ---- a moment

  -- at an open end timers expire, and it may be idle
  moment_turns : (p : Policy) (now : ℕ) → Left (timed_out p e now).end
  moment_turns p now = go e.closing.state refl
    where
      -- beside it, that the close stays
      Beside : End → Type 0
      Beside x = (x.closing.close ≡ e.closing.close) × Left x

      ticks : (x : End) → x.closing ≡ ticked e.closing now → Beside x
      ticks x is = (ap (λ (y : Closing). y.close) is, kept (alike_by e.closing (ticked e.closing now) x.closing (later_as e.closing now) is) (ap (λ (y : Closing). y.owed) is) (λ closing. (none, asks)))

      expired : e.closing.state ≡ states.Open → Beside (at_expiry p.words e now (expiry_at (ticked e.closing now).clock e.timers))
      expired here = by_expired p.words e now Beside (λ acks tracking timers waits asked runs packets. ticks (at_timeout e now acks tracking timers waits asked) refl)
          (λ acks timers waits asked runs. ticks (at_losses e now acks timers waits asked) (settles_losses (with_closing e (ticked e.closing now))).closing)
          (λ x j. (j.0, lapsed here refl j.0)) (expiry_at (ticked e.closing now).clock e.timers)

      go : (s : State) → e.closing.state ≡ s → Left (timed_out_in s p e now).end
      go states.Open here = (expired here).1
      go states.Closing here = by_waits Left (has_come e.timers.close (ticked e.closing now).clock) (with_closing e (ticked e.closing now)) (ended here refl refl refl) (kept (later_as e.closing now) refl (λ closing. (none, asks)))
      go states.Drained here = as_is
      go states.Failed here = as_is

  -- ---- other calls

  event_turns : (x : End) → x.closing.state ≡ e.closing.state → x.closing.reason ≡ e.closing.reason → x.closing.close ≡ e.closing.close → x.closing.owed ≡ e.closing.owed → Left x
  event_turns x state reason close owed = kept (record { state = state; reason = reason; close = close }) owed (λ closing. (none, asks))

-- the application closes
close_turns : (e : End) (close : CloseCall) (a : Answer) → a ≡ answers.Close → Turns e.closing (calls.Close close) a (closed_in e.closing.state close.now close.error_code close.reason e).closing
close_turns e close a is = go e.closing.state refl
  where
    stays : Turns e.closing (calls.Close close) a e.closing
    stays = kept (same_as e.closing) refl (λ closing. (ap gave is, ap asks_again is))

    go : (s : State) → e.closing.state ≡ s → Turns e.closing (calls.Close close) a (closed_in s close.now close.error_code close.reason e).closing
    go states.Open here = shut here refl reasons.Application refl (application_close (record { code = close.error_code; reason = close.reason })) refl
        (record { call = told_of (calls.Close close) a e.closing.state; among = inl refl; was_open = here; close = close; called = refl; same = refl; begins = ([], append-nil close.reason) }) (ap not (sym (ap gave is)))
    go states.Closing here = stays
    go states.Drained here = stays
    go states.Failed here = stays

-- ---- any call

pub turns : (p : Policy) (e : End) (theirs : List (List ℕ)) (call : Call) (a : Answer) → IsAnswer p e theirs call a → fails a ≡ false → Turns e.closing call a (after_call p e theirs call a).closing
turns p e theirs (calls.Poll now) a is served = subst (λ (b : Answer). Turns e.closing (calls.Poll now) b (polled p e now).end.closing) (sym (poll_answer p e now a is served)) (polled_turns p e now)
turns p e theirs (calls.Deliver delivery) a is served = delivered_turns p e delivery (slice_get theirs delivery.index) a is served
turns p e theirs (calls.Inject injection) a is served =
    injected_turns e (calls.Inject injection) a (only_polls_give p e theirs (calls.Inject injection) a refl is) (only_deliveries_ask p e theirs (calls.Inject injection) a refl is) p (says_last a) injection
turns p e theirs (calls.Timeout now) a is served =
    moment_turns e (calls.Timeout now) a (only_polls_give p e theirs (calls.Timeout now) a refl is) (only_deliveries_ask p e theirs (calls.Timeout now) a refl is) p now
turns p e theirs (calls.Close close) a is served = close_turns e close a is
turns p e theirs calls.UseNextId a is served = by_next_id (λ (x : End). Turns e.closing calls.UseNextId a x.closing) e a here (λ c. here) (λ c most. here)
  where
    here : Turns e.closing calls.UseNextId a e.closing
    here = kept (same_as e.closing) refl (λ closing. (only_polls_give p e theirs calls.UseNextId a refl is, only_deliveries_ask p e theirs calls.UseNextId a refl is))
turns p e theirs calls.HandshakeDone a is served = by_done (λ (x : End). Turns e.closing calls.HandshakeDone a x.closing) e a here here
  where
    here : Turns e.closing calls.HandshakeDone a e.closing
    here = kept (same_as e.closing) refl (λ closing. (only_polls_give p e theirs calls.HandshakeDone a refl is, only_deliveries_ask p e theirs calls.HandshakeDone a refl is))
turns p e theirs calls.Event a is served = by_event e (λ (x : End). Turns e.closing calls.Event a x.closing) (told e refl refl refl refl) (told e refl refl refl refl) (λ b. told (at_event e b) refl refl refl refl)
  where
    told : (x : End) → x.closing.state ≡ e.closing.state → x.closing.reason ≡ e.closing.reason → x.closing.close ≡ e.closing.close → x.closing.owed ≡ e.closing.owed → Turns e.closing calls.Event a x.closing
    told = event_turns e calls.Event a (only_polls_give p e theirs calls.Event a refl is) (only_deliveries_ask p e theirs calls.Event a refl is)
turns p e theirs call a is served = kept (same_as e.closing) refl (λ closing. (only_polls_give p e theirs call a refl is, only_deliveries_ask p e theirs call a refl is))
