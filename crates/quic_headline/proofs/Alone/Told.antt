-- How much there is to tell at an end: each call adds no more than bytes came by it, and one where
-- a write is blocked, and an event takes away what it tells.
use Rattle.std.proofs.Common.{◌≡◌, ℕ, ◌+◌, ◌<◌, ◌≤◌, Bool, true, false, List, length, Option, Some, None, Result, Ok, Err, refl, sym, ap, subst, arith, inl, inr}
use Rattle.std.specs.Prelude.{slice_get, option_map, ◌||◌, not, if◌then◌else◌}
use Rattle.std.proofs.lemmas.Bool.{ltb-true}
use Rattle.std.specs.declared.ops.Range.{Range}
use Rattle.quic_wire_core.specs.TransportError.{ErrorValue}
use Rattle.quic_wire_core.specs.declared.stream_id.Side.{Side}
use Rattle.quic_wire_core.specs.declared.stream_id.Side.TheVariants.{Client, Server}
use Rattle.quic_wire.specs.Value.{FrameValue, ack, stream, reset_stream, stop_sending, max_stream_data, max_streams, datagram, new_connection_id, retire_connection_id, path_response, handshake_done, ack_frequency}
use Rattle.quic_wire.specs.Items.{items}
use Rattle.quic_packet.specs.Keys.{KeepsLength, OpensNoMore}
use Rattle.quic_packet.specs.Datagram.{Opening}
use Rattle.quic_paths.specs.Paths.{is_asked}
use Rattle.quic_retransmits.specs.Retransmits.{can_retire}
use Rattle.quic_ids.specs.CidState.{retirement_answer}
use Rattle.quic_ids.specs.CidQueue.{insert_answer}
use Rattle.quic_ids.specs.declared.cid_queue.InsertError.{InsertError}
use Rattle.quic_ids.specs.declared.cid_queue.InsertError.TheVariants as inserts
use Rattle.quic_messages.specs.declared.errors.ReceivedError.{ReceivedError}
use Rattle.quic_messages.specs.Messages.{received_answer}
use Rattle.quic_spaces.specs.Numbers.{expected}
use Rattle.quic_streams_parts.specs.declared.answers.StreamEvent.{StreamEvent}
use Rattle.quic_streams_parts.specs.declared.answers.StreamEvent.TheVariants as stream_events
use Rattle.quic_streams_laws.specs.QuietLaws.{by_tells}
use Rattle.quic_machine.specs.declared.answers.Event.TheVariants as events
use Rattle.quic_machine.specs.declared.answers.LostReason.{LostReason}
use Rattle.quic_machine.specs.declared.answers.DropReason.{DropReason}
use Rattle.quic_machine.specs.declared.answers.Received.TheVariants as receives
use Rattle.quic_machine.specs.declared.run.Call.{Call}
use Rattle.quic_machine.specs.declared.run.Call.TheVariants as calls
use Rattle.quic_machine.specs.declared.run.Answer.{Answer}
use Rattle.quic_machine.specs.declared.run.Answer.TheVariants as answers
use Rattle.quic_machine.specs.Arrival.{Arrival, delivered_by}
use Rattle.quic_machine.specs.Policy.{Policy}
use Rattle.quic_machine.specs.Closing.{Closing, ticked, loss_to_tell}
use Rattle.quic_machine.specs.End.{End, side_of, with_closing, closed_by, with_ids}
use Rattle.quic_machine.specs.Opens.{own_id_length}
use Rattle.quic_machine.specs.Tracking.{dir_named}
use Rattle.quic_machine.specs.Calls.{is_open, tells_of, streams_told, tells_message, tells_done, end_tells, message_told, confirmation_told, others_told, end_after_event}
use Rattle.quic_machine.specs.Ids.{frame_of, retires_for, retired, retires_for_next, next_used}
use Rattle.quic_machine.specs.IdFrames.{retiring, with_taken_up, issued_if, issues_for, next_id_taken, end_on_next_id}
use Rattle.quic_machine.specs.Validation.{word_of, validated_if}
use Rattle.quic_machine.specs.MessageCalls.{after_on_messages}
use Rattle.quic_machine.specs.Receive.{is_above, names_ungiven, told_of_message, message_judged, retired_for, id_judged, retirement_judged, done_taken, take_frame, opening, received}
use Rattle.quic_machine.specs.Poll.{Draft, Polled, polled}
use Rattle.quic_machine.specs.Puts as puts
use Rattle.quic_machine.specs.DraftLaws.{Writing, by_leave}
use Rattle.quic_machine.specs.PollCases.{by_poll, at_poll}
use Rattle.quic_machine.specs.FrameCases.{Settling, losses_keep, named, ack_taken, acked_keeps}
use Rattle.quic_machine.specs.Steps as steps
use Rattle.quic_machine.specs.LeaveCases.{by_expired}
use Rattle.quic_machine.specs.CallCases.{is_delivery, asks_event, by_call, by_done}
use Rattle.quic_machine.specs.Machine.{IsAnswer, IsDelivered, says_last, after_delivered, after_call}
use Rattle.quic_headline.specs.FewEvents.{told_in, size_of, came_in, blocked_in}
use Rattle.quic_headline.proofs.Packets.Apart.{by_waits, by_frequency, by_shortened}
use Rattle.quic_headline.proofs.Packets.Moving.{moving_keeps}
use Rattle.quic_headline.proofs.Packets.Closes.{by_closes}
use Rattle.quic_headline.proofs.Packets.Probes.{may_leave}
use Rattle.quic_headline.proofs.Alone.Taking.{by_items}
use Rattle.quic_headline.proofs.Alone.Ignored.{dropped_keeps}
use Rattle.quic_headline.proofs.Alone.Weights.{brings, brings_in, payload_brings, payload_fits}
use Rattle.quic_headline.proofs.Alone.Streams.{streams_call}
use Rattle.quic_headline.proofs.Alone.Telling.{flag, waiting, Owes, stream_owes, reset_owes, stop_owes, limit_owes, count_owes, acked_owes, lost_owes, reset_acked_owes, calls_owe, told_of, polled_told}

-- what there is to tell of an end beside its streams: that messages came, and that the handshake is
-- confirmed
abbrev also : End → ℕ
also e = e.messages.to_tell + flag e.confirmation.to_tell

-- how much there is to tell of an end, but that streams are finished, and that it is lost
abbrev pub to_tell : End → ℕ
to_tell e = waiting e.streams.events e.streams.sending.blocked + also e

-- with so much beside, there is at most so much
abbrev OwesAt : ℕ → ℕ → End → Type 0
OwesAt k n e = Owes (also e + k) n e.streams

-- ---- frames

-- packets that are acknowledged or lost
settles : (k n : ℕ) → Settling (OwesAt k n)
settles k n (steps.reset id) e i = reset_acked_owes (also e + k) n e.streams e.waiting.frames id i
settles k n (steps.acked m) e i = acked_owes (also e + k) n e.streams e.waiting.frames m i
settles k n (steps.lost m) e i = lost_owes (also e + k) n e.streams m i
settles k n s e i = i

-- it is told once at most that a message came
message_once : (first : Bool) (m : ℕ) → told_of_message first m ≤ m + 1
message_once true m = omega arith
message_once false m = omega arith

-- and once at most that the handshake is confirmed
confirmed_once : (to_tell first : Bool) → flag (to_tell || first) ≤ flag to_tell + 1
confirmed_once true first = omega arith
confirmed_once false true = omega arith
confirmed_once false false = omega arith

-- a frame brings no more than it may
frame_owes : (f : FrameValue) (k n : ℕ) (e : End) → OwesAt (brings f + k) n e → OwesAt k n (take_frame f e).end
frame_owes (stream f) k n e i = let beside : Owes (1 + (also e + k)) n e.streams = omega arith in stream_owes (also e + k) n e.streams e.waiting.frames f beside
frame_owes (reset_stream f) k n e i = let beside : Owes (1 + (also e + k)) n e.streams = omega arith in reset_owes (also e + k) n e.streams e.waiting.frames f beside
frame_owes (stop_sending f) k n e i = let beside : Owes (2 + (also e + k)) n e.streams = omega arith in stop_owes (also e + k) n e.streams f beside
frame_owes (max_stream_data f) k n e i = let beside : Owes (2 + (also e + k)) n e.streams = omega arith in limit_owes (also e + k) n e.streams f.id f.limit beside
frame_owes (max_streams f) k n e i = let beside : Owes (1 + (also e + k)) n e.streams = omega arith in count_owes (also e + k) n (dir_named f.one_way) f.count e.streams beside
frame_owes (ack a) k n e i = go (names_ungiven a e)
  where
    same : OwesAt k n e
    same = omega arith

    go : (b : Bool) → OwesAt k n (ack_taken b a e).end
    go true = same
    go false = acked_keeps (OwesAt k n) (settles k n) (is_above e.numbers.largest_acked a.largest) a (named a e) same
frame_owes (datagram m) k n e i = go (received_answer e.transport.datagram_receive_buffer_size m e.messages.queues)
  where
    go : (r : Result Bool ReceivedError) → OwesAt k n (message_judged r m e).end
    go (Ok first) = let once = message_once first e.messages.to_tell in omega arith
    go (Err error) = omega arith
frame_owes (new_connection_id f) k n e i = go (retires_for (insert_answer e.ids.peer (frame_of f)))
  where
    same : OwesAt k n e
    same = omega arith

    retires : (b : Bool) (r : Range ℕ) → OwesAt k n (retired_for b r f e).end
    retires true r = by_shortened (OwesAt k n) _ (retiring r (with_taken_up f e)) same (λ most. same)
    retires false r = same

    go : (r : Result (Option (Range ℕ)) InsertError) → OwesAt k n (id_judged r f e).end
    go (Ok None) = by_shortened (OwesAt k n) _ (with_taken_up f e) same (λ most. same)
    go (Ok (Some r)) = retires (can_retire e.waiting.frames r.start r.end) r
    go (Err inserts.Retired) = same
    go (Err inserts.ExceedsLimit) = same
frame_owes (retire_connection_id m) k n e i = go (retirement_answer e.ids.own m e.ids.limit)
  where
    same : OwesAt k n e
    same = omega arith

    issues : (b : Bool) → OwesAt k n (issued_if b (with_ids e (retired m e.ids)))
    issues true = same
    issues false = same

    go : (r : Result Bool ErrorValue) → OwesAt k n (retirement_judged r m e).end
    go (Ok more) = issues (issues_for m e)
    go (Err error) = same
frame_owes (path_response token) k n e i = go (is_asked e.validation.challenge (word_of token))
  where
    same : OwesAt k n e
    same = omega arith

    go : (b : Bool) → OwesAt k n (validated_if b e)
    go true = same
    go false = same
frame_owes (ack_frequency f) k n e i = let same : OwesAt k n e = omega arith in by_frequency (OwesAt k n) f e (λ threshold reordering frequency. same)
frame_owes handshake_done k n e i = go (side_of e)
  where
    go : (side : Side) → OwesAt k n (done_taken side e).end
    go Client = let once = confirmed_once e.confirmation.to_tell (not e.confirmation.confirmed) in omega arith
    go Server = omega arith
frame_owes f k n e i = let same : OwesAt k n e = omega arith in same

-- the next id of the peer is used, or it isn't
next_owes : (k n : ℕ) (e : End) (a : Answer) → OwesAt k n e → OwesAt k n (end_on_next_id e a)
next_owes k n e (answers.UseNextId (Ok done)) i = taken (retires_for_next e.ids)
  where
    taken : (o : Option (Range ℕ)) → OwesAt k n (next_id_taken o e)
    taken None = i
    taken (Some r) = by_shortened (OwesAt k n) _ (retiring r (with_ids e (next_used e.ids))) i (λ most. i)
next_owes k n e a i = i

-- so much and no more
in_all : (n : ℕ) (e : End) → OwesAt 0 n e → to_tell e ≤ n
in_all n e i = omega arith

-- a datagram brings no more than it has bytes
delivery_tells : (p : Policy) (e : End) (arrival : Arrival) (d : List ℕ) → KeepsLength p.header.reveal → OpensNoMore p.packet.unseal → to_tell (received p e arrival d).end ≤ to_tell e + length d
delivery_tells p e arrival d keeps opens = in_all n (received p e arrival d).end (by_items p e arrival d (λ is x. OwesAt (brings_in is) n x) (record {
  frame = λ f stands is x i. frame_owes f (brings_in is) n x i;
  passes = λ f stands is x i. passed (brings f) (brings_in is) x i;
  stops = λ is x i. less (brings_in is) x i;
  notes = λ m x i. i;
  begins = λ now m is x i. i;
  takes = λ m asks urged mark x i. i;
  closes = λ reason x i. i;
  drains = λ close x i. i;
  asks_close = λ x i. i;
  exhausts = λ now x i. i;
  draws = λ words x i. i;
  moves = moving_keeps (OwesAt 0 n) (λ m x i. i) (next_owes 0 n);
}) starts (omega arith))
  where
    n : ℕ
    n = to_tell e + length d

    passed : (m k : ℕ) (x : End) → OwesAt (m + k) n x → OwesAt k n x
    passed m k x i = omega arith

    less : (k : ℕ) (x : End) → OwesAt k n x → OwesAt 0 n x
    less k x i = omega arith

    starts : (o : Opening) → opening p e d ≡ Some o → OwesAt (brings_in (items o.payload)) n e
    starts o is = let fits = payload_fits p.header p.packet (own_id_length + 1) (expected e.numbers) d o keeps opens is in let few = payload_brings o.payload in omega arith

-- ---- what goes

poll_owes : (k n : ℕ) (p : Policy) (e : End) (now : ℕ) → OwesAt k n e → OwesAt k n (polled p e now).end
poll_owes k n p e now i = by_poll p e now (λ (q : Polled). OwesAt k n q.end) (record {
  silent = i;
  failed = i;
  repeats = λ is. by_closes p (with_closing e (ticked e.closing now)) (λ (q : Polled). OwesAt k n q.end) i (λ f goes. i);
  nothing = λ c. i;
  closes = λ reason c bound. by_closes p (closed_by reason (at_poll e now c)) (λ (q : Polled). OwesAt k n q.end) i (λ f goes. i);
  gives = λ leaving c left is may ready some. by_leave (λ (d : Draft). OwesAt k n d.end) put_owes leaving (at_poll e now c) (may_leave e now leaving (at_poll e now c) ready) i;
})
  where
    put_owes : Writing (λ (d : Draft). OwesAt k n d.end)
    put_owes (puts.control kind f) d may j = by_tells (Owes (also d.end + k) n) d.end.streams j j (λ id. j) (λ dir. j) (λ limit. j) (λ id limit. j) f
    put_owes put d may j = j

-- ---- calls

-- calls on messages leave how often is to be told that one came
messages_told : (e : End) (call : Call) (a : Answer) → (after_on_messages e call a).to_tell ≡ e.messages.to_tell
messages_told e (calls.Send message makes_room) (answers.Send (Ok x)) = refl
messages_told e (calls.Send message makes_room) a = refl
messages_told e calls.Recv a = refl
messages_told e call a = refl

-- a call that hands in no datagram and asks for no event adds nothing but a write that is blocked
apart_owes : (k n : ℕ) (p : Policy) (e : End) (theirs : List (List ℕ)) (call : Call) (a : Answer) → IsAnswer p e theirs call a → is_delivery call ≡ false → asks_event call ≡ false → (blocked_in call a ≡ 1 → Owes (1 + (also e + k)) n e.streams) → OwesAt k n e
    → OwesAt k n (after_call p e theirs call a)
apart_owes k n p e theirs call a is apart unasked full i = by_call p e theirs (OwesAt k n) call a (record {
  same = i;
  on_streams = λ on answer. streams_call (Owes (also e + k) n) (Owes (1 + (also e + k)) n) (calls_owe (also e + k) n) e i (is_open e.closing.state) call a (answer is) full;
  on_messages = λ on answer. subst (λ (m : ℕ). Owes (m + flag e.confirmation.to_tell + k) n e.streams) (sym (messages_told e call a)) i;
  pings = i;
  closes = λ reason f now own. i;
  waits = λ now b set. by_waits (OwesAt k n) b (with_closing e (ticked e.closing now)) i i;
  changes_id = λ uses answer. next_owes k n e a i;
  says_handshake = λ says answer. by_done (OwesAt k n) e a i (omega arith);
  times = λ now expiry set. by_expired p.words e now (OwesAt k n) (λ pending tracking timers waits asked runs packets. i) (λ pending timers waits asked runs. losses_keep (OwesAt k n) (settles k n) (with_closing e (ticked e.closing now)) i) (λ x j. j) expiry;
  polls = λ now set. poll_owes k n p e now i;
  hears = λ arrival d set. cc;
  tells = λ asks. cc;
})

-- ---- events

-- what a call tells is what is told of streams, where no message is, nor that the handshake is
-- confirmed
told_as : (o : Option StreamEvent) (c : Closing) → told_in calls.Event (answers.Event (tells_of o c)) ≡ told_of o
told_as None c = go (loss_to_tell c)
  where
    go : (o : Option LostReason) → told_in calls.Event (answers.Event (option_map events.Lost o)) ≡ 0
    go None = refl
    go (Some reason) = refl
told_as (Some (stream_events.Finished id)) c = refl
told_as (Some (stream_events.Opened dir)) c = refl
told_as (Some (stream_events.Readable id)) c = refl
told_as (Some (stream_events.Writable id)) c = refl
told_as (Some (stream_events.Stopped id code)) c = refl
told_as (Some (stream_events.Available dir)) c = refl

-- what an event tells is no longer to be told
event_tells : (e : End) → told_in calls.Event (answers.Event (end_tells e)) + to_tell (end_after_event e) ≤ to_tell e
event_tells e = go (tells_message e) (tells_done e) refl refl
  where
    go : (b c : Bool) → tells_message e ≡ b → tells_done e ≡ c
        → told_in calls.Event (answers.Event (if b then Some events.Message else (if c then Some events.HandshakeConfirmed else tells_of (streams_told e).answer e.closing))) + to_tell (if b then message_told e else (if c then confirmation_told e else others_told e)) ≤ to_tell e
    go true c is so = let some : 0 < e.messages.to_tell = ltb-true 0 e.messages.to_tell is in omega arith
    go false true is so = let some : flag e.confirmation.to_tell ≡ 1 = ap flag so in omega arith
    go false false is so = let told = polled_told e.streams in let same = told_as (streams_told e).answer e.closing in omega arith

-- ---- any call

-- a datagram that is dropped leaves all that is to be told
drop_tells : (p : Policy) (e : End) (arrival : Arrival) (d : List ℕ) (reason : DropReason) → (received p e arrival d).answer ≡ receives.Dropped reason → to_tell (received p e arrival d).end ≡ to_tell e
drop_tells p e arrival d reason is = dropped_keeps (λ (x : End). to_tell x ≡ to_tell e) (record { notes = λ n x i. i; asks_close = λ x i. i }) p e arrival d reason is refl

pub call_tells : (p : Policy) (e : End) (theirs : List (List ℕ)) (call : Call) (a : Answer) → KeepsLength p.header.reveal → OpensNoMore p.packet.unseal → IsAnswer p e theirs call a
    → told_in call a + to_tell (after_call p e theirs call a) ≤ to_tell e + came_in theirs call a + blocked_in call a
call_tells p e theirs (calls.Deliver delivery) (answers.Deliver (receives.Dropped reason)) keeps opens is = go (slice_get theirs delivery.index) is
  where
    arrival : Arrival
    arrival = delivered_by false delivery

    alone : (m n : ℕ) → m ≡ n → 0 + m ≤ n + 0 + 0
    alone m n same = omega arith

    go : (o : Option (List ℕ)) → IsDelivered p e delivery o (answers.Deliver (receives.Dropped reason)) → 0 + to_tell (after_delivered p e arrival o) ≤ to_tell e + 0 + 0
    go None is = alone (to_tell e) (to_tell e) refl
    go (Some d) (inl is) = alone (to_tell (received p e arrival d).end) (to_tell e) (drop_tells p e arrival d reason cc)
    go (Some d) (inr is) = cc
call_tells p e theirs (calls.Deliver delivery) a keeps opens is = go (slice_get theirs delivery.index)
  where
    alone : (m n : ℕ) → m ≤ n → 0 + m ≤ n + 0
    alone m n le = omega arith

    go : (o : Option (List ℕ)) → 0 + to_tell (after_delivered p e (delivered_by (says_last a) delivery) o) ≤ to_tell e + size_of o + 0
    go None = omega arith
    go (Some d) = alone (to_tell (received p e (delivered_by (says_last a) delivery) d).end) (to_tell e + length d) (delivery_tells p e (delivered_by (says_last a) delivery) d keeps opens)
call_tells p e theirs calls.Event a keeps opens is =
    subst (λ (x : Answer). told_in calls.Event x + to_tell (end_after_event e) ≤ to_tell e + 0 + 0) (sym is) (alone (told_in calls.Event (answers.Event (end_tells e)) + to_tell (end_after_event e)) (to_tell e) (event_tells e))
  where
    alone : (m n : ℕ) → m ≤ n → m ≤ n + 0 + 0
    alone m n le = omega arith
call_tells p e theirs call a keeps opens is = apart_tells call a is refl refl
  where
    alone : (n m : ℕ) (x : End) → OwesAt 0 (n + m) x → 0 + to_tell x ≤ n + 0 + m
    alone n m x i = omega arith

    apart_tells : (call : Call) (a : Answer) → IsAnswer p e theirs call a → is_delivery call ≡ false → asks_event call ≡ false → 0 + to_tell (after_call p e theirs call a) ≤ to_tell e + 0 + blocked_in call a
    apart_tells call a is apart unasked = alone (to_tell e) (blocked_in call a) (after_call p e theirs call a) (apart_owes 0 (to_tell e + blocked_in call a) p e theirs call a is apart unasked (λ full. omega arith) (omega arith))
