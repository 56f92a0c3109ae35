-- A request of how often to acknowledge that was given waits to go anew, stands in a datagram that
-- is tracked and of which it goes again if that is lost, or came, each as new or newer: after each
-- call, and what comes.
use Rattle.std.proofs.Common.{◌≡◌, ℕ, zero, suc, ◌≤◌, Bool, true, false, not, cond, List, [], ◌∷◌, ◌++◌, length, replicate, Option, Some, None, Result, Ok, Err, refl, sym, ap, ◌∙◌, subst, ◌⊎◌, inl, inr, arith}
use Rattle.std.specs.Prelude.{◌==◌, if◌then◌else◌}
use Rattle.std.specs.Option.{is_some}
use Rattle.std.proofs.lemmas.Bool.{or_left, or_right, or_parts}
use Rattle.quic_wire.specs.Value.{FrameValue, AckValue, AckFrequencyValue, ack, padding, stream, reset_stream, stop_sending, max_data, max_stream_data, max_streams, asks, ack_frequency}
use Rattle.quic_send_buffer.specs.declared.stream_meta.StreamMeta.{StreamMeta}
use Rattle.quic_streams_parts.specs.Table.{Table, put}
use Rattle.quic_streams_parts.specs.SendHalf.{SendHalf}
use Rattle.quic_streams_parts.specs.RecvHalf.{RecvHalf}
use Rattle.quic_retransmits.specs.Retransmits.{Retransmits, merged}
use Rattle.quic_streams_state.specs.declared.state.StreamsState.{StreamsState}
use Rattle.quic_streams_state.specs.State.{Streams, streams_of, sending_half, receiving_half}
use Rattle.quic_streams_state.specs.Limits.{settled}
use Rattle.quic_streams_state.specs.Control as control
use Rattle.quic_streams_state.specs.Writing.{reset_at, after_reset, after_set_priority}
use Rattle.quic_streams_state.specs.Reading.{told_bytes, after_read_begun, stopped_if, with_stop, stopped_at, after_stop}
use Rattle.quic_recovery_core.specs.declared.ack_frequency.Request.{Request}
use Rattle.quic_recovery_core.specs.AckFrequency.{Frequency, after_acked}
use Rattle.quic_machine.specs.declared.run.Call.{Call}
use Rattle.quic_machine.specs.declared.run.Call.TheVariants as calls
use Rattle.quic_machine.specs.declared.run.Answer.{Answer}
use Rattle.quic_machine.specs.declared.run.Answer.TheVariants as answers
use Rattle.quic_machine.specs.Policy.{Policy}
use Rattle.quic_machine.specs.Closing.{ticked}
use Rattle.quic_machine.specs.Tracking.{Tracking, TrackedPacket, Carried, carried_in, names, acked_by, not_acked_by, is_behind, is_lost, lost_by, kept_by, without_record}
use Rattle.quic_machine.specs.End.{End, streams_at, with_closing, number_of, closed_by}
use Rattle.quic_machine.specs.Calls.{is_open, after_nexts}
use Rattle.quic_machine.specs.StreamCalls.{if_ok, after_on_streams}
use Rattle.quic_machine.specs.Acked.{stream_lost, streams_lost, carried_lost, packets_lost, verdict, losses_detected, measured, sampled, without_acked, after_named, losses_taken}
use Rattle.quic_machine.specs.Receive.{is_above, names_ungiven, take_frame, Outcome}
use Rattle.quic_machine.specs.Poll.{zeros_behind, Polled, Draft, asking, packet_of, tracked, polled, goes, draft_as, Leaving, probed, request_queued, asks_anew, leaves_unless, gated, request_of, written}
use Rattle.quic_machine.specs.Poll as poll
use Rattle.quic_machine.specs.DraftLaws.{Writing, by_leave, MayLeave, IsClose}
use Rattle.quic_machine.specs.Puts as puts
use Rattle.quic_machine.specs.PollCases.{ready_at, ready_leaves, draft_at, frames_padded, composes, may_leave_at, by_probed, search_leaves, gate_leaves}
use Rattle.quic_machine.specs.CallCases.{is_delivery, is_poll, by_call, by_done}
use Rattle.quic_machine.specs.LeaveCases.{by_expired, by_event}
use Rattle.quic_machine.specs.FrameCases.{OnStreams, Settling, named, ack_taken, acked_keeps, losses_keep, begun as started, passed, frames_leave, by_marks, apart_leaves}
use Rattle.quic_machine.specs.FrameCases as cases
use Rattle.quic_machine.specs.Steps as steps
use Rattle.quic_machine.specs.Machine.{after_call, gave}
use Rattle.quic_machine.specs.IdFrames.{end_on_next_id}
use Rattle.quic_machine.specs.Migration.{migrated}
use Rattle.quic_headline.specs.Runs.{Packet, Intake, In}
use Rattle.quic_headline.specs.Observer.{Sent}
use Rattle.quic_headline.specs.InFlight.{is_ack_frequency}
use Rattle.quic_headline.specs.Duties.{IsRequested, HasAsked}
use Rattle.quic_headline.proofs.Packets.Apart.{by_waits, by_next_id, apart_frequency, next_frequency}
use Rattle.quic_headline.proofs.Packets.Ascending.{Ascends}
use Rattle.quic_headline.proofs.Packets.Carried.{carried_same}
use Rattle.quic_headline.proofs.Packets.Delivered.{Arrivals, arrived}
use Rattle.quic_headline.proofs.Packets.Entries.{without_asks}
use Rattle.quic_headline.proofs.Packets.Given.{draft_number}
use Rattle.quic_headline.proofs.Packets.Growth.{in_more}
use Rattle.quic_headline.proofs.Packets.Named.{NamesTaken, Stands, by_frame}
use Rattle.quic_headline.proofs.Packets.Owing.{Owes, close_is, error_owes}
use Rattle.quic_headline.proofs.Packets.Probes.{by_going, first_record_in}
use Rattle.quic_headline.proofs.Packets.Rising.{one_number}
use Rattle.quic_headline.proofs.Packets.Searches.{by_losses}
use Rattle.quic_headline.proofs.Packets.Sends.{by_sends}
use Rattle.quic_headline.proofs.Places.Told.{in_left, in_right, in_append}
use Rattle.quic_headline.proofs.Places.Parties.{sent_by, sent_if, sent_as}
use Rattle.quic_headline.proofs.Halves.Pile.{SamePile}
use Rattle.quic_headline.proofs.Halves.PileSteps.{acked_same, reset_acked_same, stream_same, reset_same}
use Rattle.quic_headline.proofs.Halves.PileCalls.{write_same, chunks_same, finalize_same, received_reset_same}
use Rattle.quic_headline.proofs.Steps.Probes.{begun}
use Rattle.quic_headline.proofs.Waited.Pings.{ready_waiting}
use Rattle.quic_headline.proofs.Duties.Carrier.{any_is, any_there, any_put, IsNew, ready_new}
use Rattle.quic_headline.proofs.Duties.Tail.{AskBefore, sent_quiet, ready_before}
use Rattle.quic_headline.proofs.Duties.Limits.{filter_has}
use Rattle.quic_headline.proofs.Duties.LimitsGo.{same_in, sent_has}
use Rattle.quic_packet.specs.Datagram.{Opening}
use Rattle.quic_headline.proofs.Packets.Moving.{moving_keeps}

-- ---- where a request is

-- it waits, is under way, or came
abbrev pub RequestStands : List Packet → List Sent → ℕ → End → Type 0
RequestStands took own n e = (e.waiting.frames.ack_frequency ≡ true) ⊎ IsRequested own e.tracking.packets n ⊎ HasAsked took n

-- so it is, and the next is no older
pub record Requested (took : List Packet) (own : List Sent) (n : ℕ) (e : End) : Type 0 where
  pub below : n ≤ written e.frequency.next
  pub stand : RequestStands took own n e

-- what came stays so
pub requested_on : (old later : List Packet) (own : List Sent) (n : ℕ) (e : End) → ((packet : Packet) → In packet old → In packet later) → Requested old own n e → Requested later own n e
requested_on old later own n e keeps i = record { below = i.below; stand = go i.stand }
  where
    go : RequestStands old own n e → RequestStands later own n e
    go (inl waits) = inl waits
    go (inr (inl flies)) = inr (inl flies)
    go (inr (inr came)) = inr (inr (record { packet = came.packet; was_taken = keeps came.packet came.was_taken; frame = came.frame; carried = came.carried; newer = came.newer }))

-- more was sent
stands_more : (took : List Packet) (own more : List Sent) (n : ℕ) (e : End) → RequestStands took own n e → RequestStands took (own ++ more) n e
stands_more took own more n e (inl waits) = inl waits
stands_more took own more n e (inr (inl i)) = inr (inl (record {
  frame = i.frame;
  newer = i.newer;
  flies = record { sent = i.flies.sent; among = in_left i.flies.sent own more i.flies.among; carried = i.flies.carried; packet = i.flies.packet; tracked = i.flies.tracked };
  kept = i.kept;
}))
stands_more took own more n e (inr (inr came)) = inr (inr came)

pub requested_more : (took : List Packet) (own more : List Sent) (n : ℕ) (e : End) → Requested took own n e → Requested took (own ++ more) n e
requested_more took own more n e i = record { below = i.below; stand = stands_more took own more n e i.stand }

-- ---- the number of the next

-- an acknowledged packet leaves it
answered_next : (o : Option Request) (n : ℕ) (f : Frequency) → (after_acked o n f).next ≡ f.next
answered_next None n f = refl
answered_next (Some r) n f = go (r.packet == n)
  where
    go : (b : Bool) → (cond b (record f { in_flight = None; peer_delay = r.delay }) f).next ≡ f.next
    go true = refl
    go false = refl

module _ (k : ℕ) where
  abbrev pub Next : End → Type 0
  Next e = e.frequency.next ≡ k

  next_settles : Settling Next
  next_settles (steps.answered n) e i = answered_next e.frequency.in_flight n e.frequency ∙ i
  next_settles s e i = i

  -- any frame leaves it
  pub frame_next : (f : FrameValue) (e : End) → Next e → Next (take_frame f e).end
  frame_next f e i = cases.frame_keeps Next (record {
    ack = λ rises a x v. acked_keeps Next next_settles rises a (named a x) v;
    on_streams = λ g x on v. cases.frame_leaves Next g x on (λ t. v);
    message = λ m x v. v;
    apart = λ g x is v. (apart_frequency g x is).next ∙ v;
  }) f e i

-- and so does any call but a poll and a delivery
pub call_next : (p : Policy) (e : End) (theirs : List (List ℕ)) (call : Call) (a : Answer) → is_delivery call ≡ false → is_poll call ≡ false → Next e.frequency.next (after_call p e theirs call a)
call_next p e theirs call a apart other = by_call p e theirs N call a (record {
  same = refl;
  on_streams = λ on answer. refl;
  on_messages = λ on answer. refl;
  pings = refl;
  closes = λ reason f now own. refl;
  waits = λ now b set. by_waits N b (with_closing e (ticked e.closing now)) refl refl;
  changes_id = λ uses answer. (next_frequency e a).next;
  says_handshake = λ says answer. by_done N e a refl refl;
  times = λ now expiry set. by_expired p.words e now N (λ pending tracking timers waits asked runs packets. refl) (λ pending timers waits asked runs. losses_keep N (next_settles e.frequency.next) (with_closing e (ticked e.closing now)) refl) (λ x j. j) expiry;
  polls = λ now set. cc;
  hears = λ arrival d set. cc;
  tells = λ asks. by_event e N refl refl (λ told. refl);
})
  where
    N : End → Type 0
    N = Next e.frequency.next

-- ---- whether one waits

abbrev Flag : End → Type 0
Flag e = e.waiting.frames.ack_frequency ≡ true

flag_settles : Settling Flag
flag_settles (steps.reset id) e w = (reset_acked_same e.streams e.waiting.frames id).requests ∙ w
flag_settles (steps.acked m) e w = (acked_same e.streams e.waiting.frames m).requests ∙ w
flag_settles (steps.again c) e w = or_left e.waiting.frames.ack_frequency c.retransmits.ack_frequency w
flag_settles s e w = w

-- as before, and whether HANDSHAKE_DONE does
abbrev pub SameFlag : Retransmits → Retransmits → Type 0
SameFlag p q = (q.ack_frequency ≡ p.ack_frequency) × (q.handshake_done ≡ p.handshake_done)

pub same_flag : (p q : Retransmits) → SamePile p q → SameFlag p q
same_flag p q same = (same.requests, same.done)

-- frames on streams leave that
pub streams_flag : (f : FrameValue) (e : End) → OnStreams f → SameFlag e.waiting.frames (take_frame f e).end.waiting.frames
streams_flag (stream f) e on = same_flag _ _ (stream_same e.streams e.waiting.frames f)
streams_flag (reset_stream f) e on = same_flag _ _ (reset_same e.streams e.waiting.frames f)
streams_flag (stop_sending f) e on = (refl, refl)
streams_flag (max_data limit) e on = (refl, refl)
streams_flag (max_stream_data f) e on = (refl, refl)
streams_flag (max_streams f) e on = (refl, refl)
streams_flag f e on = absurd on

-- what waits waits still, whichever frame comes
frame_flag : (f : FrameValue) (e : End) → Flag e → Flag (take_frame f e).end
frame_flag f e w = cases.frame_keeps Flag (record {
  ack = λ rises a x v. acked_keeps Flag flag_settles rises a (named a x) v;
  on_streams = λ g x on v. (streams_flag g x on).0 ∙ v;
  message = λ m x v. v;
  apart = λ g x is v. apart_leaves Flag g x is (λ c. v) (λ c most. v);
}) f e w

-- a call on streams leaves it
ok_flag : {X E : Type 0} (r : Result X E) (t u : Streams) → SameFlag t.pending u.pending → SameFlag t.pending (if_ok r u t).pending
ok_flag (Ok x) t u same = same
ok_flag (Err e) t u same = (refl, refl)

either_flag : (b : Bool) (t u : Streams) (p : Retransmits) → SameFlag p t.pending → SameFlag p u.pending → SameFlag p (if b then t else u).pending
either_flag true t u p on off = on
either_flag false t u p on off = off

reset_flag : (s : StreamsState) (p : Retransmits) (id code : ℕ) → SameFlag p (after_reset s p id code).pending
reset_flag s p id code = go (sending_half s id)
  where
    go : (o : Option SendHalf) → SameFlag p (reset_at o s p id code).pending
    go None = (refl, refl)
    go (Some h) = either_flag (is_some h.reset) _ _ p (refl, refl) (refl, refl)

stop_flag : (s : StreamsState) (p : Retransmits) (id code : ℕ) → SameFlag p (after_stop s p id code).pending
stop_flag s p id code = go (receiving_half s id)
  where
    asked : (o : Option ℕ) → SameFlag p (with_stop o id code p)
    asked (Some reset) = (refl, refl)
    asked None = (refl, refl)

    go : (o : Option RecvHalf) → SameFlag p (stopped_at o s p id code).pending
    go None = (refl, refl)
    go (Some h) = either_flag h.stopped (streams_of s p) (settled (stopped_if (is_some h.final) s id h) (with_stop h.reset id code p)) p (refl, refl) (asked h.reset)

pub call_flag : (b : Bool) (t : Streams) (call : Call) (a : Answer) → SameFlag t.pending (after_on_streams b t call a).pending
call_flag b t (calls.Write s bytes) (answers.Write answer) = same_flag _ _ (write_same t.state t.pending b answer s bytes)
call_flag b t (calls.WriteChunks s chunks) (answers.WriteChunks answer) = same_flag _ _ (chunks_same t.state t.pending b answer s chunks.items)
call_flag b t (calls.Finish s) (answers.Finish answer) = (refl, refl)
call_flag b t (calls.Reset s code) (answers.Reset answer) = ok_flag answer t (after_reset t.state t.pending s code) (reset_flag t.state t.pending s code)
call_flag b t (calls.SetPriority s priority) (answers.SetPriority answer) = ok_flag answer t (record t { state = after_set_priority t.state s priority }) (refl, refl)
call_flag b t (calls.Read read) (answers.Read (Ok nexts)) =
    let s : StreamsState = after_nexts told_bytes (after_read_begun t.state read.id read.ordered) read.id read.nexts.items nexts in
    same_flag _ _ (finalize_same s t.pending read.id)
call_flag b t (calls.Stop s code) (answers.Stop answer) = ok_flag answer t (after_stop t.state t.pending s code) (stop_flag t.state t.pending s code)
call_flag b t (calls.ReceivedReset s) a = same_flag _ _ (received_reset_same t.state t.pending s)
call_flag b t call a = (refl, refl)

-- what lost packets carried waits, and what waited
pub lost_wait : (ms : List StreamMeta) (e : End) → (streams_lost ms e).waiting ≡ e.waiting
lost_wait [] e = refl
lost_wait (m ∷ ms) e = lost_wait ms (stream_lost m e)

-- the request is among what has to be sent again of such a packet
abbrev Lost : Table TrackedPacket → Type 0
Lost ps = (q : ℕ × TrackedPacket) × In q ps × (q.1.carried.retransmits.ack_frequency ≡ true)

losses_flag : (ps : Table TrackedPacket) (e : End) → Flag e ⊎ Lost ps → Flag (packets_lost ps e)
losses_flag [] e (inl was) = was
losses_flag [] e (inr none) = absurd none.1
losses_flag (p ∷ ps) e i = losses_flag ps (carried_lost p.1.carried e) (one i)
  where
    c : Carried
    c = p.1.carried

    one : Flag e ⊎ Lost (p ∷ ps) → Flag (carried_lost c e) ⊎ Lost ps
    one (inl was) = inl (or_left (streams_lost c.stream_frames e).waiting.frames.ack_frequency c.retransmits.ack_frequency (ap (λ w. w.frames.ack_frequency) (lost_wait c.stream_frames e) ∙ was))
    one (inr some) = go some.1
      where
        go : In some.0 (p ∷ ps) → Flag (carried_lost c e) ⊎ Lost ps
        go (inl here) = inl (or_right (streams_lost c.stream_frames e).waiting.frames.ack_frequency c.retransmits.ack_frequency (subst (λ (q : ℕ × TrackedPacket). q.1.carried.retransmits.ack_frequency ≡ true) here some.2))
        go (inr more) = inr (some.0, more, some.2)

-- ---- an ACK frame

module _ (took : List Packet) (own : List Sent) (n : ℕ) where
  -- the next id of the peer
  next_requested : (e : End) (a : Answer) → Requested took own n e → Requested took own n (end_on_next_id e a)
  next_requested e a i = record {
    below = subst (λ (k : ℕ). n ≤ written k) (sym (next_frequency e a).next) i.below;
    stand = by_next_id (RequestStands took own n) e a i.stand (λ c. i.stand) (λ c most. i.stand);
  }

  -- and where it is at another address
  pub moved_requested : (p : Policy) (o : Opening) (remote : ℕ) (e : End) → Requested took own n e → Requested took own n (migrated p o remote e)
  moved_requested = moving_keeps (Requested took own n) (λ m e k. record { below = k.below; stand = k.stand }) next_requested

  -- it is under way still where its packet stays tracked
  still : (before after : Table TrackedPacket) (i : IsRequested own before n) → In (i.flies.sent.number, i.flies.packet) after → IsRequested own after n
  still before after i there = record {
    frame = i.frame;
    newer = i.newer;
    flies = record { sent = i.flies.sent; among = i.flies.among; carried = i.flies.carried; packet = i.flies.packet; tracked = there };
    kept = i.kept;
  }

  -- losses that are detected
  detected_stands : (e : End) → RequestStands took own n e → RequestStands took own n (losses_detected e)
  detected_stands e (inl waits) = by_losses (RequestStands took own n) e (λ discovery queues. inl (losses_flag (lost_by (verdict e) e.tracking.packets) e (inl waits)))
  detected_stands e (inr (inr came)) = by_losses (RequestStands took own n) e (λ discovery queues. inr (inr came))
  detected_stands e (inr (inl i)) = go (is_lost (verdict e) here) refl
    where
      here : ℕ × TrackedPacket
      here = (i.flies.sent.number, i.flies.packet)

      go : (lost : Bool) → is_lost (verdict e) here ≡ lost → RequestStands took own n (losses_detected e)
      go true is = by_losses (RequestStands took own n) e (λ discovery queues. inl (losses_flag (lost_by (verdict e) e.tracking.packets) e (inr (here, filter_has (is_lost (verdict e)) here e.tracking.packets i.flies.tracked is, i.kept))))
      go false is = by_losses (RequestStands took own n) e (λ discovery queues. inr (inl (still e.tracking.packets (kept_by (verdict e) e.tracking.packets) i (filter_has (λ q. not (is_lost (verdict e) q)) here e.tracking.packets i.flies.tracked (ap not is)))))

  -- a round trip is measured, if one is
  sampled_flies : (o : Option TrackedPacket) (a : AckValue) (e : End) → IsRequested own e.tracking.packets n → IsRequested own (sampled o a e).tracking.packets n
  sampled_flies None a e i = i
  sampled_flies (Some p) a e i = i

module _ (took : List Packet) (own : List Sent) (n : ℕ) (stands : Stands took own) where
  -- an ACK frame that names these packets
  named_flies : (ps : Table TrackedPacket) (rises : Bool) (a : AckValue) (e : End) → NamesTaken took a → IsRequested own e.tracking.packets n → RequestStands took own n (after_named ps rises a e)
  named_flies [] rises a e takes i = inr (inl i)
  named_flies (p ∷ ps) rises a e takes i = by_marks rises (length (p ∷ ps)) a taken (RequestStands took own n) (λ m marking. go (names a number) refl)
    where
      number : ℕ
      number = i.flies.sent.number

      left : End
      left = without_acked (p ∷ ps) a e

      o : Option TrackedPacket
      o = measured rises a (p ∷ ps)

      taken : End
      taken = losses_taken (p ∷ ps) rises a e

      go : (acked : Bool) → names a number ≡ acked → RequestStands took own n taken
      go true on =
          let arrived = takes number on in
          let found = stands.taken arrived.packet arrived.was_taken in
          let same : i.flies.sent ≡ found.sent = one_number 0 own i.flies.sent found.sent stands.rising i.flies.among found.is.0 (sym (found.is.1 ∙ arrived.is)) in
          inr (inr (record {
            packet = arrived.packet;
            was_taken = arrived.was_taken;
            frame = i.frame;
            carried = subst (In (ack_frequency i.frame)) (ap (λ (s : Sent). s.frames) same ∙ found.frames) i.flies.carried;
            newer = i.newer;
          }))
      go false off =
          let there : In (number, i.flies.packet) (not_acked_by a e.tracking.packets) = filter_has (λ q. not (names a q.0)) (number, i.flies.packet) e.tracking.packets i.flies.tracked (ap not off) in
          detected_stands took own n (sampled o a left) (inr (inl (sampled_flies took own n o a left (still took own n e.tracking.packets (not_acked_by a e.tracking.packets) i there))))

  -- ---- a delivery

  -- an ACK frame, taken or refused
  ack_flies : (b : Bool) (a : AckValue) (e : End) → NamesTaken took a → IsRequested own e.tracking.packets n → RequestStands took own n (ack_taken b a e).end
  ack_flies true a e takes i = inr (inl i)
  ack_flies false a e takes i = named_flies (acked_by a e.tracking.packets) (is_above e.numbers.largest_acked a.largest) a (named a e) takes i

  -- over the frames of a packet
  record Going (over : List FrameValue) (e : End) : Type 0 where
    takes : (a : AckValue) → In (ack a) over → NamesTaken took a
    stand : Requested took own n e

  -- a frame on streams leaves what is tracked
  frame_tracks : (f : FrameValue) (e : End) → OnStreams f → (take_frame f e).end.tracking ≡ e.tracking
  frame_tracks (stream f) e on = refl
  frame_tracks (reset_stream f) e on = refl
  frame_tracks (stop_sending f) e on = refl
  frame_tracks (max_data limit) e on = refl
  frame_tracks (max_stream_data f) e on = refl
  frame_tracks (max_streams f) e on = refl
  frame_tracks f e on = absurd on

  -- any frame
  frame_stands : (f : FrameValue) (over : List FrameValue) (e : End) → Going (f ∷ over) e → Requested took own n (take_frame f e).end
  frame_stands f over e g = record { below = subst (λ (k : ℕ). n ≤ written k) (sym (frame_next e.frequency.next f e refl)) g.stand.below; stand = go g.stand.stand }
    where
      go : RequestStands took own n e → RequestStands took own n (take_frame f e).end
      go (inl waits) = inl (frame_flag f e waits)
      go (inr (inl flies)) = by_frame f e (λ h p. RequestStands took own n p.end) (λ a is. ack_flies (names_ungiven a e) a e (g.takes a (inl is)) flies)
          (λ other on. inr (inl (subst (λ (t : Tracking). IsRequested own t.packets n) (sym (frame_tracks f e on)) flies)))
          (λ other m same. subst (RequestStands took own n) (sym same) (inr (inl flies)))
          (λ other apart. inr (inl (apart_leaves (λ (x : End). IsRequested own x.tracking.packets n) f e apart (λ c. flies) (λ c most. flies))))
      go (inr (inr came)) = inr (inr came)

  frames_stand : (fs : List FrameValue) (e : End) → Going fs e → (over : List FrameValue) × Going over (passed fs e).end
  frames_stand fs e g = frames_leave Going (λ f over x k. record {
    takes = λ a j. k.takes a (inr j);
    stand = frame_stands f over x k;
  }) fs e g

  -- each case of a delivery
  pub arrivals_requested : (e : End) (now number : ℕ) (frames taken : List FrameValue) (came : Intake) → ((a : AckValue) → In (ack a) taken → NamesTaken took a) → Requested took own n e
      → Arrivals e now number frames taken came (λ (o : Outcome) (j : Intake). Requested took own n o.end)
  arrivals_requested e now number frames taken came takes i = record {
    ignored = λ reason. i;
    noted = λ state reason. record { below = i.below; stand = i.stand };
    takes = λ words state new none urged mark. record { below = after.1.stand.below; stand = after.1.stand.stand };
    moves = λ p o same remote x opened j. moved_requested took own n p o remote x j;
    drains = λ words state new close is. record { below = after.1.stand.below; stand = after.1.stand.stand };
    refuses = λ words state new f is. record { below = after.1.stand.below; stand = after.1.stand.stand };
    exhausts = λ state. record { below = i.below; stand = i.stand };
  }
    where
      after : (over : List FrameValue) × Going over (arrived e now number taken).end
      after = frames_stand taken (started e now number) (record { takes = takes; stand = record { below = i.below; stand = i.stand } })

-- ---- what goes

-- a request that frames say, as new or newer
pub record AsksFrom (frames : List FrameValue) (n : ℕ) : Type 0 where
  pub frame : AckFrequencyValue
  pub said : In (ack_frequency frame) frames
  pub newer : n ≤ frame.sequence

from_left : (n : ℕ) (fs gs : List FrameValue) → AsksFrom fs n → AsksFrom (fs ++ gs) n
from_left n fs gs i = record { frame = i.frame; said = in_left (ack_frequency i.frame) fs gs i.said; newer = i.newer }

-- the number of a request
abbrev sequence_in : FrameValue → ℕ
sequence_in (ack_frequency f) = f.sequence
sequence_in f = 0

-- one that waits at an end waits still in a draft of it, or goes, no older than the next; and the
-- next after it is no older than what goes
record Draws (e : End) (d : Draft) : Type 0 where
  more : written e.frequency.next ≤ written d.end.frequency.next
  below : (f : AckFrequencyValue) → In (ack_frequency f) d.frames → f.sequence ≤ written d.end.frequency.next
  moves : e.waiting.frames.ack_frequency ≡ true → (d.end.waiting.frames.ack_frequency ≡ true) ⊎ AsksFrom d.frames (written e.frequency.next)

-- it is said in a frame more, or isn't
goes_left : (n : ℕ) (b : Bool) (fs gs : List FrameValue) → (b ≡ true) ⊎ AsksFrom fs n → (b ≡ true) ⊎ AsksFrom (fs ++ gs) n
goes_left n b fs gs (inl waits) = inl waits
goes_left n b fs gs (inr said) = inr (from_left n fs gs said)

draft_draws : (leaving : Leaving) (e : End) → MayLeave leaving e → Draws e (draft_as leaving e)
draft_draws leaving e may = by_leave (Draws e) keep leaving e may (record { more = omega arith; below = λ f i. absurd i; moves = λ was. inl was })
  where
    keep : Writing (Draws e)
    keep (puts.drops kind) d may b = record {
      more = b.more;
      below = b.below;
      moves = λ was. elim (b.moves was) [ inl waits ↦ inl (without_asks kind d.end.waiting.frames ∙ waits) | inr said ↦ inr said ];
    }
    keep (puts.control kind f) d is b = record {
      more = b.more;
      below = λ g i. elim (in_more (ack_frequency g) f d.frames i) [
        | inl old ↦ b.below g old
        | inr new ↦ absurd (subst (λ (h : FrameValue). control.Goes d.end.waiting.frames d.end.streams h) (sym new) is.says)
      ];
      moves = λ was. elim (b.moves was) [ inl waits ↦ inl (without_asks kind d.end.waiting.frames ∙ waits) | inr said ↦ inr (from_left (written e.frequency.next) d.frames (f ∷ []) said) ];
    }
    keep puts.request d set b =
        let more = b.more in
        record {
          more = omega arith;
          below = λ g i. elim (in_more (ack_frequency g) (ack_frequency (request_of d.end)) d.frames i) [
            | inl old ↦ (let before = b.below g old in omega arith)
            | inr new ↦ (let same : g.sequence ≡ written d.end.frequency.next = ap sequence_in new in omega arith)
          ];
          moves = λ was. inr (record { frame = request_of d.end; said = in_right (ack_frequency (request_of d.end)) d.frames (ack_frequency (request_of d.end) ∷ []) (inl refl); newer = omega arith });
        }
    keep p d may b = record {
      more = b.more;
      below = λ g i. elim (in_more (ack_frequency g) _ d.frames i) [ inl old ↦ b.below g old | inr new ↦ cc ];
      moves = λ was. goes_left (written e.frequency.next) d.end.waiting.frames.ack_frequency d.frames _ (b.moves was);
    }

-- a request in frames goes again if their packet is lost
carried_flag : (fs : List FrameValue) (f : AckFrequencyValue) → In (ack_frequency f) fs → (carried_in fs).retransmits.ack_frequency ≡ true
carried_flag fs f i = subst (λ (c : Carried). c.retransmits.ack_frequency ≡ true) (carried_same fs) (any_is is_ack_frequency (ack_frequency f) fs i refl)

-- frames that don't ask have none
none_asks : (f : AckFrequencyValue) (fs : List FrameValue) → asking fs ≡ false → In (ack_frequency f) fs → ⊥
none_asks f [] silent i = i
none_asks f (g ∷ fs) silent (inr more) = none_asks f fs (or_parts (asks g) (asking fs) silent).1 more
none_asks f (g ∷ fs) silent (inl same) = let clash : true ≡ false = ap asks same ∙ (or_parts (asks g) (asking fs) silent).0 in cc

-- nor has PADDING
not_padding : (f : AckFrequencyValue) (count : ℕ) → In (ack_frequency f) (replicate count padding) → ⊥
not_padding f zero i = i
not_padding f (suc count) (inr more) = not_padding f count more
not_padding f (suc count) (inl is) = cc

-- what is tracked where an end is ready is what is where something waits for each probe
ready_tracking : (e : End) (now : ℕ) → (ready_at e now).end.tracking ≡ (probed (begun e now)).tracking
ready_tracking e now = go x.path.blocked
  where
    x : End
    x = request_queued (probed (begun e now))

    go : (b : Bool) → (leaves_unless b x).end.tracking ≡ x.tracking
    go true = refl
    go false = ap (λ (y : End). y.tracking) (search_leaves (gated x)) ∙ ap (λ (y : End). y.tracking) (gate_leaves x)

module _ (took : List Packet) (own : List Sent) where
  -- a datagram that goes is tracked
  given_stands : (n : ℕ) (d : Draft) (x : Sent) → x.number ≡ number_of d.end → x.frames ≡ frames_padded d → AskBefore own d.end.tracking.greatest_asking → IsNew d.end.tracking.packets (number_of d.end)
      → ((d.end.waiting.frames.ack_frequency ≡ true) ⊎ AsksFrom d.frames n) ⊎ IsRequested own d.end.tracking.packets n ⊎ HasAsked took n → RequestStands took (own ++ x ∷ []) n (tracked d)
  given_stands n d x number frames before new (inl (inl waits)) = inl waits
  given_stands n d x number frames before new (inl (inr said)) =
      let packet : TrackedPacket = packet_of d in
      inr (inl (record {
        frame = said.frame;
        newer = said.newer;
        flies = record {
          sent = x;
          among = in_right x own (x ∷ []) (inl refl);
          carried = subst (In (ack_frequency said.frame)) (sym frames) (in_left (ack_frequency said.frame) d.frames _ said.said);
          packet = packet;
          tracked = sent_has d.end.tracking (number_of d.end) packet (x.number, packet) new (λ r j behind same. new r.0 r.1 j (ap (λ (y : ℕ × TrackedPacket). y.0) same ∙ number)) (inl (ap (λ k. (k, packet)) number));
        };
        kept = carried_flag d.frames said.frame said.said;
      }))
  given_stands n d x number frames before new (inr (inl i)) =
      inr (inl (record {
        frame = i.frame;
        newer = i.newer;
        flies = record {
          sent = i.flies.sent;
          among = in_left i.flies.sent own (x ∷ []) i.flies.among;
          carried = i.flies.carried;
          packet = i.flies.packet;
          tracked = sent_has d.end.tracking (number_of d.end) (packet_of d) (i.flies.sent.number, i.flies.packet) new (λ r j behind same. (
              let there : is_behind d.end.tracking.greatest_asking i.flies.sent.number ≡ true = ap (λ (y : ℕ × TrackedPacket). is_behind d.end.tracking.greatest_asking y.0) (sym same) ∙ behind in
              none_asks i.frame i.flies.sent.frames (sent_quiet own d.end.tracking.greatest_asking i.flies.sent before i.flies.among there) i.flies.carried)) (inr i.flies.tracked);
        };
        kept = i.kept;
      }))
  given_stands n d x number frames before new (inr (inr came)) = inr (inr came)

  module _ (p : Policy) (e : End) (now : ℕ) (ascends : Ascends e) (before : AskBefore own e.tracking.greatest_asking) (new : IsNew e.tracking.packets (number_of e)) where
    -- the end that is ready, and its draft
    abbrev r : End
    r = (ready_at e now).end

    abbrev d : Draft
    d = draft_at e now

    -- where something waits for each probe, what a probe carries waits
    probed_stands : (n : ℕ) → RequestStands took own n e → RequestStands took own n (probed (begun e now))
    probed_stands n (inl waits) = by_probed (begun e now) (RequestStands took own n) (inl waits) (λ immediate. inl waits) (λ immediate. inl waits) (λ immediate q probes is. inl (or_left e.waiting.frames.ack_frequency q.1.carried.retransmits.ack_frequency waits))
    probed_stands n (inr (inr came)) = by_probed (begun e now) (RequestStands took own n) (inr (inr came)) (λ immediate. inr (inr came)) (λ immediate. inr (inr came)) (λ immediate q probes is. inr (inr came))
    probed_stands n (inr (inl i)) = by_probed (begun e now) (RequestStands took own n) (inr (inl i)) (λ immediate. inr (inl i)) (λ immediate. inr (inl i)) (λ immediate q probes is. moved q (first_record_in e.streams e.tracking.packets q is))
      where
        here : ℕ × TrackedPacket
        here = (i.flies.sent.number, i.flies.packet)

        moved : (q : ℕ × TrackedPacket) → In q e.tracking.packets → (merged e.waiting.frames q.1.carried.retransmits).ack_frequency ≡ true ⊎ IsRequested own (put e.tracking.packets q.0 (without_record q.1)) n ⊎ HasAsked took n
        moved q among =
            let changed : Table TrackedPacket = put e.tracking.packets q.0 (without_record q.1) in
            elim (any_put (λ y. y ≡ here) (q ≡ here) e.tracking.packets q (without_record q.1) ascends among (λ same. inr same) (any_there (λ y. y ≡ here) here e.tracking.packets i.flies.tracked refl)) [
              | inl there ↦ inr (inl (still took own n e.tracking.packets changed i (same_in here changed there)))
              | inr same ↦ inl (or_right e.waiting.frames.ack_frequency q.1.carried.retransmits.ack_frequency (ap (λ (y : ℕ × TrackedPacket). y.1.carried.retransmits.ack_frequency) same ∙ i.kept))
            ]

    ready_stands : (n : ℕ) → RequestStands took own n e → RequestStands took own n r
    ready_stands n i = go (probed_stands n i)
      where
        y : End
        y = probed (begun e now)

        go : RequestStands took own n y → RequestStands took own n r
        go (inl waits) = inl (ap (λ w. w.frames.ack_frequency) (ready_waiting e now) ∙ or_right (asks_anew y.transport.ack_frequency_config y) y.waiting.frames.ack_frequency waits)
        go (inr (inl flies)) = inr (inl (subst (λ (t : Tracking). IsRequested own t.packets n) (sym (ready_tracking e now)) flies))
        go (inr (inr came)) = inr (inr came)

    -- the next request is the same
    ready_next : r.frequency.next ≡ e.frequency.next
    ready_next = ap (λ (x : End). x.frequency.next) (ready_leaves e now)

    ready_requested : (n : ℕ) → Requested took own n e → Requested took own n r
    ready_requested n i = record { below = subst (λ (k : ℕ). n ≤ written k) (sym ready_next) i.below; stand = ready_stands n i.stand }

    -- something goes
    abbrev Goes : Type 0
    Goes = goes (ready_at e now) ≡ true

    draws : Draws r d
    draws = draft_draws (ready_at e now).leaving r (may_leave_at e now)

    tracks : (ready_at e now).end.tracking ≡ d.end.tracking
    tracks = sym (composes (ready_at e now).leaving r (may_leave_at e now)).tracking

    number : (sent_as e now d).number ≡ number_of d.end
    number = sym (draft_number (ready_at e now).leaving r (may_leave_at e now) ∙ ap (λ (x : End). number_of x) (ready_leaves e now))

    fresh_number : IsNew d.end.tracking.packets (number_of d.end)
    fresh_number = subst (λ (n : ℕ). IsNew d.end.tracking.packets n) number (subst (λ (t : Tracking). IsNew t.packets (number_of e)) tracks (ready_new e now (number_of e) new))

    asked : AskBefore own d.end.tracking.greatest_asking
    asked = subst (λ (t : Tracking). AskBefore own t.greatest_asking) tracks (ready_before own e now before)

    -- one that was given before
    given_before : (n : ℕ) → Requested took own n r → Requested took (own ++ sent_as e now d ∷ []) n (tracked d)
    given_before n i = record { below = (let least = i.below in let more = draws.more in omega arith); stand = given_stands n d (sent_as e now d) number refl asked fresh_number (go i.stand) }
      where
        go : RequestStands took own n r → ((d.end.waiting.frames.ack_frequency ≡ true) ⊎ AsksFrom d.frames n) ⊎ IsRequested own d.end.tracking.packets n ⊎ HasAsked took n
        go (inl waits) = inl (elim (draws.moves waits) [
          | inl still ↦ inl still
          | inr said ↦ inr (record { frame = said.frame; said = said.said; newer = (let least = i.below in let newer = said.newer in omega arith) })
        ])
        go (inr more) = inr (subst (λ (x : Tracking). IsRequested own x.packets n ⊎ HasAsked took n) tracks more)

    pub polled_requested : (n : ℕ) → Requested took own n e → Requested took (own ++ sent_if (gave (answers.Poll (polled p e now).answer)) (sent_by p e now)) n (polled p e now).end
    polled_requested n i = by_sends p e now (λ (q : Polled) (ss : List Sent). Requested took (own ++ ss) n q.end) (record {
      silent = requested_more took own [] n e i;
      failed = requested_more took own [] n e i;
      nothing = λ is none. like_ready [] ready;
      repeats = λ is. (record { below = i.below; stand = stands_more took own [] n e i.stand }, λ f goes. record { below = i.below; stand = stands_more took own (_ ∷ []) n e i.stand });
      closes = λ reason is bound. (record { below = ready.below; stand = stands_more took own [] n r ready.stand }, λ f goes. record { below = ready.below; stand = stands_more took own (_ ∷ []) n r ready.stand });
      gives = λ is_open numbered some. by_going (λ (x : End). Requested took (own ++ sent_as e now d ∷ []) n x) p d (λ pacing. (let now_on = given_before n ready in record { below = now_on.below; stand = now_on.stand }));
    })
      where
        ready : Requested took own n r
        ready = ready_requested n i

        like_ready : (ss : List Sent) → Requested took own n r → Requested took (own ++ ss) n (poll.rests (ready_at e now))
        like_ready ss j = record { below = j.below; stand = stands_more took own ss n r j.stand }

    -- one that goes
    pub polled_asks : Owes e → (t : Sent) → In t (sent_if (gave (answers.Poll (polled p e now).answer)) (sent_by p e now)) → (f : AckFrequencyValue) → In (ack_frequency f) t.frames
        → Requested took (own ++ sent_if (gave (answers.Poll (polled p e now).answer)) (sent_by p e now)) f.sequence (polled p e now).end
    polled_asks owes t i f = by_sends p e now (λ (q : Polled) (ss : List Sent). In t ss → In (ack_frequency f) t.frames → Requested took (own ++ ss) f.sequence q.end) (record {
      silent = λ i said. absurd i;
      failed = λ i said. absurd i;
      nothing = λ is none i said. absurd i;
      repeats = λ is. (let x : End = with_closing e (ticked e.closing now) in ((λ i said. absurd i), λ c goes i said. absurd (beside c (close_is p x owes c goes) (sent_as e now (draft_as (poll.closing c) x)) (zeros_behind (draft_as (poll.closing c) x)) refl i said)));
      closes = λ reason is bound. (let x : End = closed_by reason r in ((λ i said. absurd i), λ c goes i said. absurd (beside c (close_is p x (error_owes reason r) c goes) (sent_as e now (draft_as (poll.closing c) x)) (zeros_behind (draft_as (poll.closing c) x)) refl i said)));
      gives = λ is_open numbered some i said. by_going (λ (x : End). Requested took (own ++ sent_as e now d ∷ []) f.sequence x) p d (λ pacing. (let now_on = sends (among i said) in record { below = now_on.below; stand = now_on.stand }));
    }) i
      where
        -- none goes beside a close
        beside : (c : FrameValue) → IsClose c → (s : Sent) (count : ℕ) → s.frames ≡ c ∷ replicate count padding → In t (s ∷ []) → In (ack_frequency f) t.frames → ⊥
        beside c is s count frames (inr none) said = none
        beside c is s count frames (inl same) said = elim (subst (λ (fs : List FrameValue). In (ack_frequency f) fs) (ap (λ (u : Sent). u.frames) same ∙ frames) said) [
          | inl here ↦ subst IsClose (sym here) is
          | inr behind ↦ not_padding f _ behind
        ]

        among : In t (sent_as e now d ∷ []) → In (ack_frequency f) t.frames → In (ack_frequency f) (sent_as e now d).frames
        among (inl is) said = subst (λ (u : Sent). In (ack_frequency f) u.frames) is said
        among (inr none) said = absurd none

        sends : In (ack_frequency f) (sent_as e now d).frames → Requested took (own ++ sent_as e now d ∷ []) f.sequence (tracked d)
        sends said =
            let here : In (ack_frequency f) d.frames =
            elim (in_append (ack_frequency f) d.frames (replicate (zeros_behind d) padding) said) [
              | inl front ↦ front
              | inr behind ↦ absurd (not_padding f _ behind)
            ] in
            record {
              below = draws.below f here;
              stand = given_stands f.sequence d (sent_as e now d) number refl asked fresh_number (inl (inr (record { frame = f; said = here; newer = omega arith })));
            }

-- ---- any call

-- but a poll and a delivery
pub call_requested : (took : List Packet) (own : List Sent) (n : ℕ) (p : Policy) (e : End) (theirs : List (List ℕ)) (call : Call) (a : Answer) → is_delivery call ≡ false → is_poll call ≡ false → Requested took own n e → Requested took own n (after_call p e theirs call a)
call_requested took own n p e theirs call a apart other i = record { below = subst (λ (k : ℕ). n ≤ written k) (sym (call_next p e theirs call a apart other)) i.below; stand = stands }
  where
    was : RequestStands took own n e
    was = i.stand

    stands : RequestStands took own n (after_call p e theirs call a)
    stands = by_call p e theirs (RequestStands took own n) call a (record {
      same = was;
      on_streams = λ on answer. elim was [ inl waits ↦ inl ((call_flag (is_open e.closing.state) (streams_at e) call a).0 ∙ waits) | inr far ↦ inr far ];
      on_messages = λ on answer. was;
      pings = was;
      closes = λ reason f now own. was;
      waits = λ now b set. by_waits (RequestStands took own n) b (with_closing e (ticked e.closing now)) was was;
      changes_id = λ uses answer. by_next_id (RequestStands took own n) e a was (λ c. was) (λ c most. was);
      says_handshake = λ says answer. by_done (RequestStands took own n) e a was was;
      times = λ now expiry set. by_expired p.words e now (RequestStands took own n) (λ pending tracking timers waits asked runs packets. subst (λ (t : Table TrackedPacket). (e.waiting.frames.ack_frequency ≡ true) ⊎ IsRequested own t n ⊎ HasAsked took n) (sym packets) was)
          (λ pending timers waits asked runs. detected_stands took own n (with_closing e (ticked e.closing now)) was) (λ x j. j) expiry;
      polls = λ now set. cc;
      hears = λ arrival d set. cc;
      tells = λ asks. by_event e (RequestStands took own n) was was (λ told. was);
    })
