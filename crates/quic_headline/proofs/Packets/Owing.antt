-- What an end owes that closes is a close, and goes alone: no frame but PADDING goes beside it. So
-- a packet in which its peer closes has no other frame.
use Rattle.std.proofs.Common.{◌≡◌, ◌⊎◌, ℕ, zero, suc, Bool, true, false, List, [], ◌∷◌, map, replicate, Option, Some, None, Result, Ok, Err, refl, sym, ap, ◌∙◌, subst, inl, inr}
use Rattle.std.specs.Prelude.{slice_get, if◌then◌else◌, ◌||◌, option_map}
use Rattle.std.specs.List.{list_any}
use Rattle.quic_wire_core.specs.declared.stream_id.Side.{Side}
use Rattle.quic_wire_core.specs.declared.stream_id.Side.TheVariants.{Client, Server}
use Rattle.quic_wire_core.specs.TransportError.{ErrorValue}
use Rattle.quic_wire.specs.Close.{CloseValue}
use Rattle.std.specs.declared.ops.Range.{Range}
use Rattle.quic_wire.specs.Value.{FrameValue, ConnectionCloseValue, ApplicationCloseValue, ack, stream, reset_stream, stop_sending, max_data, max_stream_data, max_streams, datagram, new_token, handshake_done, new_connection_id, retire_connection_id, path_challenge, path_response, connection_close, application_close, padding, immediate_ack, ack_frequency}
use Rattle.quic_streams_parts.specs.declared.answers.Breach.{Breach}
use Rattle.quic_streams_parts.specs.declared.answers.Breach.TheVariants.{FlowControl, StreamLimit, StreamState, FinalSize, FrameEncoding, Pieces}
use Rattle.quic_messages.specs.declared.errors.ReceivedError.{ReceivedError}
use Rattle.quic_messages.specs.Messages.{received_answer}
use Rattle.quic_ids.specs.CidState.{retirement_answer}
use Rattle.quic_ids.specs.CidQueue.{insert_answer}
use Rattle.quic_ids.specs.declared.cid_queue.InsertError.{InsertError}
use Rattle.quic_ids.specs.declared.cid_queue.InsertError.TheVariants as inserts
use Rattle.quic_retransmits.specs.Retransmits.{can_retire}
use Rattle.quic_streams_state.specs.Taking.{stream_breach, reset_breach, id_rule, broken}
use Rattle.quic_machine.specs.declared.answers.State.{State}
use Rattle.quic_machine.specs.declared.answers.State.TheVariants as states
use Rattle.quic_machine.specs.declared.answers.LostReason.{LostReason}
use Rattle.quic_machine.specs.declared.answers.LostReason.TheVariants as reasons
use Rattle.quic_machine.specs.declared.run.Call.{Call}
use Rattle.quic_machine.specs.declared.run.Call.TheVariants as calls
use Rattle.quic_machine.specs.declared.run.Answer.{Answer}
use Rattle.quic_machine.specs.declared.run.Answer.TheVariants as answers
use Rattle.quic_machine.specs.Arrival.{Arrival, delivered_by}
use Rattle.quic_machine.specs.Policy.{Policy}
use Rattle.quic_machine.specs.Reasons.{error_close}
use Rattle.quic_machine.specs.Closing.{Closing, ticked}
use Rattle.quic_machine.specs.Ids.{frame_of, retires_for}
use Rattle.quic_machine.specs.Calls.{closed_in}
use Rattle.quic_parameters.specs.Parameters.{ParameterValues}
use Rattle.quic_config.specs.Transport.{Settings}
use Rattle.quic_machine.specs.Parts.{Windows}
use Rattle.quic_machine.specs.End.{End, side_of, with_closing, closed_by, new_end}
use Rattle.quic_machine.specs.Receive.{Fault, closed_by_peer, fault_of, fault_at, names_ungiven, message_judged, retired_for, id_judged, retirement_judged, take_frame, unless_fault, take_items, received, asks_too_soon, frequency_judged, done_taken}
use Rattle.quic_machine.specs.Poll.{Polled, close_room, zeros_behind, draft_as, may_close, fitted, close_to_go, polled}
use Rattle.quic_machine.specs.Poll as poll
use Rattle.quic_machine.specs.PollCases.{ready_at, draft_at, frames_at, frames_padded, by_poll, at_poll, composes}
use Rattle.quic_machine.specs.DraftLaws.{IsClose}
use Rattle.quic_machine.specs.FrameCases.{Settling, ack_taken, acked_keeps, losses_keep, named, passed, frame_keeps, frame_leaves, apart_leaves, by_received}
use Rattle.quic_machine.specs.Steps as steps
use Rattle.quic_machine.specs.InjectionCases.{by_injection}
use Rattle.quic_machine.specs.CallCases.{by_done}
use Rattle.quic_machine.specs.LeaveCases.{by_expired, by_expiry, by_event}
use Rattle.quic_machine.specs.Machine.{IsAnswer, says_last, after_delivered, after_call, fails, gave}
use Rattle.quic_headline.specs.Runs.{In}
use Rattle.quic_headline.specs.Observer.{Sent, is_close}
use Rattle.quic_headline.proofs.Packets.Apart.{by_waits, by_next_id}
use Rattle.quic_headline.proofs.Packets.Closes.{by_closes}
use Rattle.quic_headline.proofs.Packets.Closeless.{sent_closeless}
use Rattle.quic_headline.proofs.Packets.Probes.{may_leave}
use Rattle.quic_headline.proofs.Packets.Sends.{GivesClose, by_sends}
use Rattle.quic_headline.proofs.Places.Steps.{poll_answer}
use Rattle.quic_headline.proofs.Places.Parties.{sent_as, sent_by, sent_if, sents_by}
use Rattle.quic_recovery_core.specs.AckFrequency.{is_stale}
use Rattle.quic_headline.proofs.Packets.Moved.{by_migrated}

-- ---- what an end owes

-- its close is one
abbrev pub Owes : End → Type 0
Owes e = (f : FrameValue) → e.closing.close ≡ Some f → IsClose f

-- so is what goes of it
fitted_is : (room : ℕ) (f : FrameValue) → IsClose f → IsClose (fitted room f)
fitted_is room (connection_close c) is = tt
fitted_is room (application_close c) is = tt
fitted_is room f is = absurd is

pub close_is : (p : Policy) (e : End) → Owes e → (f : FrameValue) → close_to_go p e ≡ Some f → IsClose f
close_is p e owes f is = go (may_close p e) e.closing.owed e.closing.close refl is
  where
    go : (may owed : Bool) (o : Option FrameValue) → e.closing.close ≡ o → (if may then option_map (fitted (close_room e)) (if owed then o else None) else None) ≡ Some f → IsClose f
    go true true (Some g) there said = (let same : fitted (close_room e) g ≡ f = cc in subst IsClose same (fitted_is (close_room e) g (owes g there)))
    go true true None there said = cc
    go true false o there said = cc
    go false owed o there said = cc

-- an end that closes for an error of QUIC owes one
pub error_owes : (reason : LostReason) (e : End) → Owes (closed_by reason e)
error_owes reason e f is = let same : error_close reason ≡ f = cc in subst IsClose same tt

-- one that is made owes nothing
pub first_owes : (side : Side) (settings : Settings) (windows : Windows) (theirs : ParameterValues) (own_id peer_id : List ℕ) (remote now : ℕ) (validated : Bool) (words : ℕ → ℕ) → Owes (new_end side settings windows theirs own_id peer_id remote now validated words)
first_owes side settings windows theirs own_id peer_id remote now true words f is = cc
first_owes side settings windows theirs own_id peer_id remote now false words f is = cc

-- ---- any call

-- each step of an ACK frame leaves it
settles : Settling Owes
settles (steps.known n) e i = i
settles s e i = i

frame_owes : (f : FrameValue) (e : End) → Owes e → Owes (take_frame f e).end
frame_owes = frame_keeps Owes (record {
  ack = λ rises a e i. acked_keeps Owes settles rises a (named a e) i;
  on_streams = λ f e on i. frame_leaves Owes f e on (λ t. i);
  message = λ m e i. i;
  apart = λ f e is i. apart_leaves Owes f e is (λ c. i) (λ c most. i);
})

received_owes : (p : Policy) (e : End) (arrival : Arrival) (d : List ℕ) → Owes e → Owes (received p e arrival d).end
received_owes = by_received Owes (record {
  notes = λ n e i. i;
  begins = λ now n e i. i;
  frame = frame_owes;
  takes = λ n asks urged mark e i. i;
  closes = λ reason e i. error_owes reason e;
  drains = λ close e i. i;
  asks_close = λ e i. i;
  exhausts = λ now e i. error_owes reasons.KeyLimit (with_closing e (ticked e.closing now));
  draws = λ words e i. i;
  moves = λ p o remote e i. by_migrated Owes p o remote e (λ c. i) (λ c most. i);
})

polled_owes : (p : Policy) (e : End) (now : ℕ) → Owes e → Owes (polled p e now).end
polled_owes p e now i = by_poll p e now (λ (q : Polled). Owes q.end) (record {
  silent = i;
  failed = i;
  repeats = λ is. by_closes p (with_closing e (ticked e.closing now)) (λ (q : Polled). Owes q.end) i (λ f goes. i);
  nothing = λ c. i;
  closes = λ reason c bound. by_closes p (closed_by reason (at_poll e now c)) (λ (q : Polled). Owes q.end) (error_owes reason (at_poll e now c)) (λ f goes. error_owes reason (at_poll e now c));
  gives = λ leaving c left is may ready some. (
      let x : End = at_poll e now c in
      subst (λ (closing : Closing). (f : FrameValue) → closing.close ≡ Some f → IsClose f) (sym (composes leaving x (may_leave e now leaving x ready)).closing) i);
})

pub owes_call : (p : Policy) (e : End) (theirs : List (List ℕ)) (call : Call) (a : Answer) → Owes e → Owes (after_call p e theirs call a)
owes_call p e theirs (calls.Close close) a i = go e.closing.state
  where
    go : (state : State) → Owes (closed_in state close.now close.error_code close.reason e)
    go states.Open f is = (let same : application_close (record { code = close.error_code; reason = close.reason }) ≡ f = cc in subst IsClose same tt)
    go states.Closing f is = i f is
    go states.Drained f is = i f is
    go states.Failed f is = i f is
owes_call p e theirs calls.UseNextId a i = by_next_id Owes e a i (λ c. i) (λ c most. i)
owes_call p e theirs calls.HandshakeDone a i = by_done Owes e a i i
owes_call p e theirs (calls.Poll now) a i = polled_owes p e now i
owes_call p e theirs (calls.Timeout now) a i = by_expiry p e now Owes i
    (λ b. by_waits Owes b (with_closing e (ticked e.closing now)) (λ f is. cc) i)
    (by_expired p.words e now Owes (λ acks tracking timers waits asked runs packets. i) (λ acks timers waits asked runs. losses_keep Owes settles (with_closing e (ticked e.closing now)) i) (λ x j. j))
owes_call p e theirs (calls.Deliver delivery) a i = go (slice_get theirs delivery.index)
  where
    go : (o : Option (List ℕ)) → Owes (after_delivered p e (delivered_by (says_last a) delivery) o)
    go None = i
    go (Some d) = received_owes p e (delivered_by (says_last a) delivery) d i
owes_call p e theirs (calls.Inject injection) a i = by_injection p e (says_last a) injection Owes i (λ now. error_owes reasons.KeyLimit (with_closing e (ticked e.closing now)))
owes_call p e theirs calls.Event a i = by_event e Owes i i (λ told. i)
owes_call p e theirs call a i = i

-- ---- what it sends

-- each of these frames is a close or PADDING
abbrev pub AreCloses : List FrameValue → Type 0
AreCloses fs = (f : FrameValue) → In f fs → IsClose f ⊎ (f ≡ padding)

-- all of them are, if one is a close
abbrev pub IsAlone : List FrameValue → Type 0
IsAlone fs = (f : FrameValue) → In f fs → IsClose f → AreCloses fs

-- where none is a close
is_no_close : (f : FrameValue) → IsClose f → is_close f ≡ false → ⊥
is_no_close (connection_close c) is none = cc
is_no_close (application_close c) is none = cc
is_no_close f is none = is

-- so none of these is a close
pub no_close_among : (fs : List FrameValue) → list_any is_close fs ≡ false → (f : FrameValue) → In f fs → IsClose f → ⊥
no_close_among [] none f i is = i
no_close_among (g ∷ gs) none f i is = go (is_close g) refl none i (λ off j. no_close_among gs off f j is)
  where
    go : (b : Bool) → is_close g ≡ b → (b || list_any is_close gs) ≡ false → In f (g ∷ gs) → (list_any is_close gs ≡ false → In f gs → ⊥) → ⊥
    go true on off j later = cc
    go false other off (inl same) later = is_no_close f is (ap is_close same ∙ other)
    go false other off (inr more) later = later off more

none_alone : (fs : List FrameValue) → list_any is_close fs ≡ false → IsAlone fs
none_alone fs none f i is = absurd (no_close_among fs none f i is)

-- what goes of an end that closes
padding_in : (count : ℕ) (g : FrameValue) → In g (replicate count padding) → g ≡ padding
padding_in zero g i = absurd i
padding_in (suc count) g (inl same) = same
padding_in (suc count) g (inr more) = padding_in count g more

pub close_alone : (e : End) (f : FrameValue) → IsClose f → AreCloses (frames_padded (draft_as (poll.closing f) e))
close_alone e f is g (inl same) = inl (subst IsClose (sym same) is)
close_alone e f is g (inr more) = inr (padding_in (zeros_behind (draft_as (poll.closing f) e)) g more)

-- what a poll gives
pub polled_alone : (p : Policy) (e : End) (now : ℕ) → Owes e → (s : Sent) → In s (sent_if (gave (answers.Poll (polled p e now).answer)) (sent_by p e now)) → IsAlone s.frames
polled_alone p e now owes = by_sends p e now (λ q sents. (s : Sent) → In s sents → IsAlone s.frames) (record {
  silent = λ s i. absurd i;
  failed = λ s i. absurd i;
  nothing = λ is none s i. absurd i;
  repeats = λ is. closing (with_closing e (ticked e.closing now)) owes;
  closes = λ reason is bound. closing (closed_by reason (ready_at e now).end) (error_owes reason (ready_at e now).end);
  gives = λ is bound some s i. one (sent_as e now (draft_at e now)) (none_alone (frames_at e now) (sent_closeless e now)) s i;
})
  where
    one : (t : Sent) → IsAlone t.frames → (s : Sent) → In s (t ∷ []) → IsAlone s.frames
    one t alone s (inl same) = subst (λ (u : Sent). IsAlone u.frames) (sym same) alone
    one t alone s (inr none) = absurd none

    closing : (x : End) → Owes x → GivesClose p e now (λ q sents. (s : Sent) → In s sents → IsAlone s.frames) x
    closing x due = ((λ s i. absurd i), (λ f goes s i. one (sent_as e now (draft_as (poll.closing f) x)) (λ g among is. close_alone x f (close_is p x due f goes)) s i))

-- what is so of closes and of PADDING, and of the frames that an open end gives, is so of each
-- frame that is sent
module _ (Fine : FrameValue → Type 0) (connection : (c : ConnectionCloseValue) → Fine (connection_close c)) (application : (c : ApplicationCloseValue) → Fine (application_close c)) (pads : Fine padding) where
  pub closes_fine : (f : FrameValue) → IsClose f ⊎ (f ≡ padding) → Fine f
  closes_fine (connection_close c) either = connection c
  closes_fine (application_close c) either = application c
  closes_fine f (inl is) = absurd is
  closes_fine f (inr same) = subst Fine (sym same) pads

  abbrev AllFine : List Sent → Type 0
  AllFine sents = (s : Sent) → In s sents → (f : FrameValue) → In f s.frames → Fine f

  pub sent_fine : (p : Policy) (e : End) (now : ℕ) → Owes e → (e.closing.state ≡ states.Open → (f : FrameValue) → In f (frames_at e now) → Fine f)
      → (s : Sent) → In s (sent_if (gave (answers.Poll (polled p e now).answer)) (sent_by p e now)) → (f : FrameValue) → In f s.frames → Fine f
  sent_fine p e now owes opened = by_sends p e now (λ q sents. AllFine sents) (record {
    silent = λ s i. absurd i;
    failed = λ s i. absurd i;
    nothing = λ is none s i. absurd i;
    repeats = λ is. closing (with_closing e (ticked e.closing now)) owes;
    closes = λ reason is bound. closing (closed_by reason (ready_at e now).end) (error_owes reason (ready_at e now).end);
    gives = λ is bound some s i. one (sent_as e now (draft_at e now)) (opened is) s i;
  })
    where
      one : (t : Sent) → ((f : FrameValue) → In f t.frames → Fine f) → AllFine (t ∷ [])
      one t all s (inl same) f j = all f (subst (λ (u : Sent). In f u.frames) same j)
      one t all s (inr none) f j = absurd none

      closing : (x : End) → Owes x → GivesClose p e now (λ q sents. AllFine sents) x
      closing x due = ((λ s i. absurd i), (λ f goes. one (sent_as e now (draft_as (poll.closing f) x)) (λ g among. closes_fine g (close_alone x f (close_is p x due f goes) g among))))

-- what a call sends
pub alone_call : (p : Policy) (e : End) (theirs : List (List ℕ)) (call : Call) (a : Answer) → IsAnswer p e theirs call a → fails a ≡ false → Owes e → (s : Sent) → In s (sents_by p e call a) → IsAlone s.frames
alone_call p e theirs (calls.Poll now) a is served owes =
    subst (λ (b : Answer). (s : Sent) → In s (sent_if (gave b) (sent_by p e now)) → IsAlone s.frames) (sym (poll_answer p e now a is served)) (polled_alone p e now owes)
alone_call p e theirs call a is served owes = λ s i. absurd i

-- ---- a packet in which the peer closes

-- no broken rule is that
rule_closes_not : (o : Option Breach) (close : CloseValue) → fault_of o ≡ Some (closed_by_peer close) → ⊥
rule_closes_not None close is = cc
rule_closes_not (Some FlowControl) close is = cc
rule_closes_not (Some StreamLimit) close is = cc
rule_closes_not (Some StreamState) close is = cc
rule_closes_not (Some FinalSize) close is = cc
rule_closes_not (Some FrameEncoding) close is = cc
rule_closes_not (Some Pieces) close is = cc

side_closes_not : (side : Side) (close : CloseValue) → fault_at side ≡ Some (closed_by_peer close) → ⊥
side_closes_not Client close is = cc
side_closes_not Server close is = cc

-- a frame by which the peer closes is a close
pub closing_frame : (f : FrameValue) (e : End) (close : CloseValue) → (take_frame f e).fault ≡ Some (closed_by_peer close) → IsClose f
closing_frame (ack a) e close is = go (names_ungiven a e) is
  where
    go : (b : Bool) → (ack_taken b a e).fault ≡ Some (closed_by_peer close) → ⊥
    go true is = cc
    go false is = cc
closing_frame (stream f) e close is = rule_closes_not (stream_breach e.streams f) close is
closing_frame (reset_stream f) e close is = rule_closes_not (reset_breach e.streams f) close is
closing_frame (stop_sending f) e close is = rule_closes_not _ close is
closing_frame (max_data limit) e close is = cc
closing_frame (max_stream_data f) e close is = rule_closes_not _ close is
closing_frame (max_streams f) e close is = rule_closes_not _ close is
closing_frame (datagram m) e close is = go (received_answer e.transport.datagram_receive_buffer_size m e.messages.queues) is
  where
    go : (r : Result Bool ReceivedError) → (message_judged r m e).fault ≡ Some (closed_by_peer close) → ⊥
    go (Ok first) is = cc
    go (Err error) is = cc
closing_frame (connection_close c) e close is = tt
closing_frame (application_close c) e close is = tt
closing_frame (path_challenge token) e close is = cc
closing_frame (path_response token) e close is = cc
closing_frame (new_token t) e close is = side_closes_not (side_of e) close is
closing_frame handshake_done e close is = go (side_of e) is
  where
    go : (side : Side) → (done_taken side e).fault ≡ Some (closed_by_peer close) → ⊥
    go Client is = cc
    go Server is = cc
closing_frame (new_connection_id f) e close is = judged (retires_for (insert_answer e.ids.peer (frame_of f))) is
  where
    retires : (b : Bool) (r : Range ℕ) → (retired_for b r f e).fault ≡ Some (closed_by_peer close) → ⊥
    retires true r is = cc
    retires false r is = cc

    judged : (r : Result (Option (Range ℕ)) InsertError) → (id_judged r f e).fault ≡ Some (closed_by_peer close) → ⊥
    judged (Ok None) is = cc
    judged (Ok (Some r)) is = retires (can_retire e.waiting.frames r.start r.end) r is
    judged (Err inserts.Retired) is = cc
    judged (Err inserts.ExceedsLimit) is = cc
closing_frame (retire_connection_id n) e close is = judged (retirement_answer e.ids.own n e.ids.limit) is
  where
    judged : (r : Result Bool ErrorValue) → (retirement_judged r n e).fault ≡ Some (closed_by_peer close) → ⊥
    judged (Ok more) is = cc
    judged (Err error) is = cc
closing_frame immediate_ack e close is = cc
closing_frame (ack_frequency f) e close is = go (is_stale e.frequency.last f.sequence) (asks_too_soon f) is
  where
    go : (stale soon : Bool) → (frequency_judged stale soon f e).fault ≡ Some (closed_by_peer close) → ⊥
    go true soon is = cc
    go false true is = cc
    go false false is = cc
closing_frame f e close is = absurd (rule_closes_not (broken e.streams (id_rule f)) close is)

-- so one stands among the frames of such a packet
pub closing_among : (fs : List FrameValue) (e : End) (close : CloseValue) → (passed fs e).fault ≡ Some (closed_by_peer close) → (f : FrameValue) × In f fs × IsClose f
closing_among [] e close is = cc
closing_among (f ∷ fs) e close is = go (take_frame f e).fault refl is (closing_among fs (take_frame f e).end close)
  where
    go : (o : Option Fault) → (take_frame f e).fault ≡ o → (unless_fault o (take_frame f e) (take_items (map Ok fs))).fault ≡ Some (closed_by_peer close)
        → ((passed fs (take_frame f e).end).fault ≡ Some (closed_by_peer close) → (g : FrameValue) × In g fs × IsClose g) → (g : FrameValue) × In g (f ∷ fs) × IsClose g
    go None there said rest = (let found = rest said in (found.0, inr found.1, found.2))
    go (Some fault) there said rest = (f, inl refl, closing_frame f e close said)

-- where closes go alone, all are closes or PADDING
pub closed_alone : (fs : List FrameValue) (e : End) (close : CloseValue) → IsAlone fs → (passed fs e).fault ≡ Some (closed_by_peer close) → AreCloses fs
closed_alone fs e close alone is = let found = closing_among fs e close is in alone found.0 found.1 found.2
