-- What each move keeps that may come holds behind a frame, a datagram, a moment, a poll, and any
-- call.
use Rattle.std.proofs.Common.{◌≡◌, ℕ, Bool, true, false, not, ◌||◌, ◌==◌, nat_lt, length, List, [], ◌∷◌, ◌++◌, Option, Some, None, Result, Ok, Err, refl, ap, ◌∙◌, subst, inl, inr}
use Rattle.std.proofs.lemmas.Bool.{both_ways}
use Rattle.std.specs.Prelude.{slice_get, nat_le, if◌then◌else◌}
use Rattle.std.specs.List.{list_any}
use Rattle.std.specs.declared.ops.Range.{Range}
use Rattle.quic_send_buffer.specs.declared.stream_meta.StreamMeta.{StreamMeta}
use Rattle.quic_wire_core.specs.TransportError.{ErrorValue}
use Rattle.quic_wire_core.specs.declared.shared.EcnCodepoint.{EcnCodepoint}
use Rattle.quic_wire_core.specs.declared.stream_id.Side.{Side}
use Rattle.quic_wire_core.specs.declared.stream_id.Side.TheVariants.{Client, Server}
use Rattle.quic_wire.specs.Value.{FrameValue, AckValue, NewConnectionIdValue, ack, stream, reset_stream, stop_sending, max_data, max_stream_data, max_streams, datagram, new_connection_id, retire_connection_id, path_challenge, path_response, handshake_done, immediate_ack, ack_frequency}
use Rattle.quic_packet.specs.Datagram.{Opening}
use Rattle.quic_ids.specs.CidState.{retirement_answer}
use Rattle.quic_ids.specs.CidQueue.{insert_answer}
use Rattle.quic_ids.specs.declared.cid_queue.InsertError.{InsertError}
use Rattle.quic_ids.specs.declared.cid_queue.InsertError.TheVariants as inserts
use Rattle.quic_retransmits.specs.Retransmits.{can_retire, most_retirements}
use Rattle.quic_paths.specs.Paths.{is_asked}
use Rattle.quic_spaces.specs.Acknowledging.{ack_due, with_due}
use Rattle.quic_recovery_core.specs.PendingAcks.{after_insert, packet_starts_wait}
use Rattle.quic_recovery_core.specs.AckFrequency.{is_stale}
use Rattle.quic_time.specs.Timers.{Timers, has_come}
use Rattle.quic_congestion.specs.Search.{Discovery}
use Rattle.quic_streams_parts.specs.Table.{Table}
use Rattle.quic_machine.specs.declared.answers.State.{State}
use Rattle.quic_machine.specs.declared.answers.State.TheVariants as states
use Rattle.quic_machine.specs.declared.answers.LostReason.TheVariants as reasons
use Rattle.quic_machine.specs.Arrival.{Arrival, delivered_by}
use Rattle.quic_machine.specs.Policy.{Policy}
use Rattle.quic_machine.specs.Closing.{Closing, ticked}
use Rattle.quic_machine.specs.Reasons.{error_close}
use Rattle.quic_machine.specs.MessageCalls.{most_message}
use Rattle.quic_machine.specs.Tracking.{Tracking, TrackedPacket, Carried, Verdict, acked_by, not_acked_by, lost_by, after_detection}
use Rattle.quic_machine.specs.End.{End, side_of, words_drawn, with_closing, with_ids, with_frames, with_tracking, with_discovery, with_ack_timer, with_loss_timer, number_of, with_number_given, closed_by}
use Rattle.quic_machine.specs.Sizes.{with_acked, search_acked, after_lost, without_longer_if, shortened}
use Rattle.quic_machine.specs.Acked.{request_acked, without_known, resets_acked, packet_acked, packets_acked, stream_lost, again, packets_lost, verdict, losses_detected, measured, sampled, without_acked, losses_taken, after_named}
use Rattle.quic_machine.specs.Idle.{packet_heard, keep_alive_expired}
use Rattle.quic_machine.specs.Ids.{frame_of, retires_for, retired, retires_for_next, next_used}
use Rattle.quic_machine.specs.IdFrames.{retiring, with_taken_up, issued_if, issues_for, next_id_taken, after_next_id, end_on_next_id}
use Rattle.quic_machine.specs.Validation.{word_of, validated_if, most_challenges, challenged_anew, path_expired}
use Rattle.quic_machine.specs.Migration.{path_to, with_path, migrated}
use Rattle.quic_machine.specs.Receive.{is_above, names_ungiven, asks_too_soon, retired_for, id_judged, retirement_judged, frequency_judged, done_taken, take_frame, after_taken, received}
use Rattle.quic_machine.specs.Timeouts.{Expiry, expiry_at, acks_expired, pacing_expired, loss_judged, loss_expired, unless_idle, after_expiry, close_expired, timed_out_in, timed_out}
use Rattle.quic_machine.specs.FrameCases.{named, ack_taken, packets_lost_keep, streams_acked_keep, resets_acked_keep, by_searched, by_marks, message_leaves, frame_leaves, by_received}
use Rattle.quic_machine.specs.declared.run.Call.{Call}
use Rattle.quic_machine.specs.declared.run.Call.TheVariants as calls
use Rattle.quic_machine.specs.declared.run.Answer.{Answer}
use Rattle.quic_machine.specs.declared.run.Answer.TheVariants as answers
use Rattle.quic_machine.specs.Poll.{Draft, Ready, Leaving, whole, alone, is_held, lazied_as, draft_as, packet_of, tracked, closes, Polled, polled}
use Rattle.quic_machine.specs.DraftLaws.{Writing, MayLeave, by_leave}
use Rattle.quic_machine.specs.Puts as puts
use Rattle.quic_machine.specs.PollCases.{ready_at, draft_at, may_leave_at, by_poll_to}
use Rattle.quic_machine.specs.Machine.{says_last, after_delivered, after_call}
use Rattle.quic_machine.specs.Calls.{message_told, confirmation_told}
use Rattle.quic_machine.specs.Parts.{said_done}
use Rattle.quic_machine.specs.LeaveCases.{by_event}
use Rattle.quic_machine.specs.CallCases.{is_delivery, is_timeout, is_poll, asks_event, by_done, by_call}
use Rattle.quic_headline.proofs.Packets.Moving.{by_asked, by_answer}
use Rattle.quic_headline.proofs.Packets.Searches.{by_losses}
use Rattle.quic_headline.proofs.Packets.Closes.{closes_left}
use Rattle.quic_headline.proofs.Packets.Probes.{by_ready, by_going}
use Rattle.quic_headline.proofs.Packets.EndMoves.{Move, Cause, cause_of, IsPacket, IsMoment, IsPoll, IsEvent, after, OfFrame, Keeps}
use Rattle.quic_headline.proofs.Packets.EndMoves as moves

-- the RESET_STREAM and STREAM frames of a packet that is acknowledged leave which are tracked
acked_tracked : (ps : Table TrackedPacket) (e : End) → (packets_acked ps e).tracking ≡ e.tracking
acked_tracked [] e = refl
acked_tracked (p ∷ ps) e =
    let asked : End = request_acked p.0 (search_acked p e) in
    let known : End = without_known p.1.carried.largest_acked asked in
    let resets : End = resets_acked p.1.carried.retransmits.reset_stream known in
    acked_tracked ps (packet_acked p e)
    ∙ streams_acked_keep (λ (x : End). x.tracking ≡ e.tracking) (λ m x same. same) p.1.carried.stream_frames resets
    (resets_acked_keep (λ (x : End). x.tracking ≡ e.tracking) (λ id x same. same) p.1.carried.retransmits.reset_stream known (told p.1.carried.largest_acked))
  where
    told : (o : Option ℕ) → (without_known o (request_acked p.0 (search_acked p e))).tracking ≡ e.tracking
    told None = refl
    told (Some n) = refl

-- packets that are lost leave any part that both steps of a loss leave
lost_leave : {A : Type 0} (part : End → A) → ((m : StreamMeta) (x : End) → part (stream_lost m x) ≡ part x) → ((c : Carried) (x : End) → part (again c x) ≡ part x) → (ps : Table TrackedPacket) (e : End) → part (packets_lost ps e) ≡ part e
lost_leave part lost waits ps e = packets_lost_keep (λ (x : End). part x ≡ part e) (λ m x same. lost m x ∙ same) (λ c x same. waits c x ∙ same) ps e refl

-- so losses leave timers and clock
losses_timers : (e : End) → (losses_detected e).timers ≡ e.timers
losses_timers e = by_losses (λ (x : End). x.timers ≡ e.timers) e (λ d queues. lost_leave (λ (x : End). x.timers) (λ m x. refl) (λ c x. refl) (lost_by (verdict e) e.tracking.packets) e)

losses_closing : (e : End) → (losses_detected e).closing ≡ e.closing
losses_closing e = by_losses (λ (x : End). x.closing ≡ e.closing) e (λ d queues. lost_leave (λ (x : End). x.closing) (λ m x. refl) (λ c x. refl) (lost_by (verdict e) e.tracking.packets) e)

-- messages that are too long are dropped
fits_by : (P : End → Type 0) → ((most : ℕ) (x : End) → P x → P (after (moves.shortened_to most) x)) → (b : Bool) (e : End) → P e → P (shortened b e)
fits_by P drops false e i = i
fits_by P drops true e i = go (most_message e)
  where
    go : (o : Option ℕ) → P (without_longer_if o e)
    go None = i
    go (Some most) = drops most e i

-- losses are detected
module _ (P : End → Type 0) (loses : (m : StreamMeta) (e : End) → P e → P (after (moves.lost m) e)) (again_waits : (c : Carried) (e : End) → P e → P (after (moves.waits_again c) e)) (detects : (v : Verdict) (e : End) → P e → P (after (moves.detected v) e))
    (searches : (d : Discovery) (e : End) → P e → P (after (moves.searched d) e)) (shortens : (most : ℕ) (e : End) → P e → P (after (moves.shortened_to most) e)) where
  losses_by : (e : End) → P e → P (losses_detected e)
  losses_by e i = by_searched d left P told (λ most. shortens most (with_discovery left d) told)
    where
      ps : Table TrackedPacket
      ps = lost_by (verdict e) e.tracking.packets

      left : End
      left = with_tracking (packets_lost ps e) (after_detection (verdict e) e.tracking)

      d : Discovery
      d = after_lost left.closing.clock ps left.path.discovery

      fewer : P left
      fewer = subst (λ (t : Tracking). P (with_tracking (packets_lost ps e) (after_detection (verdict e) t))) (lost_leave (λ (x : End). x.tracking) (λ m x. refl) (λ c x. refl) ps e)
          (detects (verdict e) (packets_lost ps e) (packets_lost_keep P loses again_waits ps e i))

      told : P (with_discovery left d)
      told = searches d left fewer

-- ---- frames

module _ (f : FrameValue) (P : End → Type 0) (k : (m : Move) (e : End) → OfFrame f m e → P e → P (after m e)) where
  -- packets are acknowledged
  packets_acked_by : (ps : Table TrackedPacket) (e : End) → P e → P (packets_acked ps e)
  packets_acked_by [] e i = i
  packets_acked_by (p ∷ ps) e i =
      let known : End = without_known p.1.carried.largest_acked asked in
      let resets : End = resets_acked p.1.carried.retransmits.reset_stream known in
      packets_acked_by ps (packet_acked p e)
      (streams_acked_keep P (λ m x. k (moves.acked m) x tt) p.1.carried.stream_frames resets (resets_acked_keep P (λ id x. k (moves.reset id) x tt) p.1.carried.retransmits.reset_stream known (told p.1.carried.largest_acked)))
    where
      asked : End
      asked = request_acked p.0 (search_acked p e)

      kept : P asked
      kept = k (moves.answered p.0) (search_acked p e) tt (k (moves.searched (with_acked p e.path.discovery)) e tt i)

      told : (o : Option ℕ) → P (without_known o asked)
      told None = kept
      told (Some n) = k (moves.known n) asked tt kept

  -- an ACK frame that names these
  named_by : (ps : Table TrackedPacket) (rises : Bool) (a : AckValue) (e : End) → P e → P (after_named ps rises a e)
  named_by [] rises a e i = i
  named_by (p ∷ ps) rises a e i = by_marks rises (length (p ∷ ps)) a taken P (λ counts marking. k (moves.marked counts marking) taken tt (k moves.replied (losses_detected timed) tt (losses_by P (λ m x. k (moves.lost m) x tt) (λ c x. k (moves.waits_again c) x tt) (λ v x. k (moves.detected v) x tt) (λ d x. k (moves.searched d) x tt) (λ most x. k (moves.shortened_to most) x tt) timed (times (measured rises a (p ∷ ps))))))
    where
      left : End
      left = without_acked (p ∷ ps) a e

      timed : End
      timed = sampled (measured rises a (p ∷ ps)) a left

      taken : End
      taken = losses_taken (p ∷ ps) rises a e

      kept : P left
      kept = subst (λ (t : Tracking). P (with_tracking (packets_acked (p ∷ ps) e) (record t { packets = not_acked_by a t.packets }))) (acked_tracked (p ∷ ps) e)
          (k (moves.acknowledged a) (packets_acked (p ∷ ps) e) tt (packets_acked_by (p ∷ ps) e i))

      times : (o : Option TrackedPacket) → P (sampled o a left)
      times None = kept
      times (Some q) = k (moves.measured_as (sampled (Some q) a left).path.rtt (sampled (Some q) a left).path.first_after_rtt) left tt kept

  -- an id of the peer comes
  id_by : (g : NewConnectionIdValue) (e : End) → f ≡ new_connection_id g → P e → P (id_judged (retires_for (insert_answer e.ids.peer (frame_of g))) g e).end
  id_by g e is i = go (retires_for (insert_answer e.ids.peer (frame_of g)))
    where
      up : P (with_taken_up g e)
      up = k (moves.taken_up g) e is i

      retires : (b : Bool) (r : Range ℕ) → P (retired_for b r g e).end
      retires true r = fits_by P (λ most x. k (moves.shortened_to most) x tt) _ (retiring r (with_taken_up g e)) (k (moves.retires r) (with_taken_up g e) tt up)
      retires false r = up

      late : (b : Bool) → P (with_frames e (if b then e.waiting.frames else record e.waiting.frames { retire_cids = e.waiting.frames.retire_cids ++ g.sequence ∷ [] }))
      late true = i
      late false = k (moves.late g.sequence) e tt i

      go : (r : Result (Option (Range ℕ)) InsertError) → P (id_judged r g e).end
      go (Ok None) = fits_by P (λ most x. k (moves.shortened_to most) x tt) _ (with_taken_up g e) up
      go (Ok (Some r)) = retires (can_retire e.waiting.frames r.start r.end) r
      go (Err inserts.Retired) = late (nat_le most_retirements (length e.waiting.frames.retire_cids) || list_any (λ m. m == g.sequence) e.waiting.frames.retire_cids)
      go (Err inserts.ExceedsLimit) = i

-- one frame
pub behind_frame : (f : FrameValue) (P : End → Type 0) → ((m : Move) (e : End) → OfFrame f m e → P e → P (after m e)) → (e : End) → P e → P (take_frame f e).end
behind_frame (ack a) P k e i = go (names_ungiven a e)
  where
    go : (b : Bool) → P (ack_taken b a e).end
    go true = i
    go false = named_by (ack a) P k (acked_by a e.tracking.packets) (is_above e.numbers.largest_acked a.largest) a (named a e) (k (moves.counts a.largest) e tt i)
behind_frame (stream g) P k e i = frame_leaves P (stream g) e tt (λ t. k (moves.on_streams t) e tt i)
behind_frame (reset_stream g) P k e i = frame_leaves P (reset_stream g) e tt (λ t. k (moves.on_streams t) e tt i)
behind_frame (stop_sending g) P k e i = frame_leaves P (stop_sending g) e tt (λ t. k (moves.on_streams t) e tt i)
behind_frame (max_data limit) P k e i = frame_leaves P (max_data limit) e tt (λ t. k (moves.on_streams t) e tt i)
behind_frame (max_stream_data g) P k e i = frame_leaves P (max_stream_data g) e tt (λ t. k (moves.on_streams t) e tt i)
behind_frame (max_streams g) P k e i = frame_leaves P (max_streams g) e tt (λ t. k (moves.on_streams t) e tt i)
behind_frame (datagram m) P k e i = message_leaves P m e i (λ left. k (moves.on_messages left) e tt i)
behind_frame (new_connection_id g) P k e i = id_by (new_connection_id g) P k g e refl i
behind_frame (retire_connection_id n) P k e i = go (retirement_answer e.ids.own n e.ids.limit)
  where
    left : P (with_ids e (retired n e.ids))
    left = k (moves.gone n) e refl i

    issues : (b : Bool) → P (issued_if b (with_ids e (retired n e.ids)))
    issues true = k moves.issues (with_ids e (retired n e.ids)) tt left
    issues false = left

    go : (r : Result Bool ErrorValue) → P (retirement_judged r n e).end
    go (Ok more) = issues (issues_for n e)
    go (Err error) = i
behind_frame (path_challenge token) P k e i = k (moves.challenge token) e refl i
behind_frame (path_response token) P k e i = go (is_asked e.validation.challenge (word_of token))
  where
    go : (b : Bool) → P (validated_if b e)
    go true = k moves.validated e (token, refl) i
    go false = i
behind_frame handshake_done P k e i = go (side_of e) refl
  where
    go : (side : Side) → side_of e ≡ side → P (done_taken side e).end
    go Client is = k moves.done e (refl, is) i
    go Server is = i
behind_frame immediate_ack P k e i = k moves.urged e refl i
behind_frame (ack_frequency g) P k e i = go (is_stale e.frequency.last g.sequence) (asks_too_soon g)
  where
    go : (old soon : Bool) → P (frequency_judged old soon g e).end
    go true soon = i
    go false true = k (moves.stale g.sequence) e tt i
    go false false = k (moves.asks_so g) e refl i
behind_frame f P k e i = i

-- the next id is used
next_used_by : (by : Cause) (P : End → Type 0) (k : Keeps by P) (e : End) → P e → P (after_next_id e)
next_used_by by P k e i = go (retires_for_next e.ids)
  where
    used : End
    used = with_ids e (next_used e.ids)

    go : (o : Option (Range ℕ)) → P (next_id_taken o e)
    go None = i
    go (Some r) = fits_by P (λ most x. k (moves.shortened_to most) x tt) _ (retiring r used) (k (moves.retires r) used tt (k moves.next e tt i))

-- ---- a datagram

module _ (P : End → Type 0) (k : Keeps moves.packet P) where
  -- what frames keep
  of_frame : (f : FrameValue) (m : Move) (e : End) → OfFrame f m e → P e → P (after m e)
  of_frame f (moves.challenge token) e of i = k (moves.challenge token) e tt i
  of_frame f moves.validated e of i = k moves.validated e tt i
  of_frame f moves.done e of i = k moves.done e tt i
  of_frame f (moves.taken_up g) e of i = k (moves.taken_up g) e tt i
  of_frame f (moves.gone n) e of i = k (moves.gone n) e tt i
  of_frame f moves.urged e of i = k moves.urged e tt i
  of_frame f (moves.asks_so g) e of i = k (moves.asks_so g) e tt i
  of_frame f (moves.asked word) e of i = absurd of
  of_frame f (moves.leads remote) e of i = absurd of
  of_frame f (moves.opened n) e of i = absurd of
  of_frame f (moves.taken n asking hurries mark) e of i = absurd of
  of_frame f (moves.takes n) e of i = absurd of
  of_frame f moves.heard e of i = absurd of
  of_frame f m e of i = k m e of i

  -- a packet was taken
  taken_by : (n : ℕ) (asking urged : Bool) (mark : Option EcnCodepoint) (e : End) → P e → P (after_taken n asking urged mark e)
  taken_by n asking urged mark e i = go (packet_starts_wait (with_due urged (after_insert e.acknowledging n e.closing.clock)) n asking e.numbers.opened)
    where
      moment : ℕ
      moment = ack_due e.frequency.own_delay e.closing.clock

      noted : End
      noted = after (moves.taken n asking urged mark) e

      awaits : End
      awaits = after (moves.awaits moment) noted

      kept : P noted
      kept = k (moves.taken n asking urged mark) e tt i

      go : (b : Bool) → P (with_loss_timer (packet_heard (record noted { timers = if b then with_ack_timer e.timers (Some moment) else e.timers })))
      go true = k moves.sets (packet_heard awaits) tt (k moves.heard awaits tt (k (moves.awaits moment) noted tt kept))
      go false = k moves.sets (packet_heard noted) tt (k moves.heard noted tt kept)

  -- the path leads elsewhere
  moved_by : (p : Policy) (o : Opening) (remote : ℕ) (e : End) → P e → P (migrated p o remote e)
  moved_by p o remote e i = by_asked P p o remote e (λ may. k (moves.asked (p.words (words_drawn there))) there (inl refl) led) (λ may. k moves.stops there tt led) (next_used_by moves.packet P k) (λ token x. k (moves.challenge token) x tt) (λ token x among. by_answer P (λ y. k moves.validated y tt) token x)
    where
      there : End
      there = with_path e (path_to remote e)

      led : P there
      led = k (moves.leads remote) e tt i

  -- what each move keeps holds behind a datagram
  pub behind_datagram : (p : Policy) (e : End) (arrival : Arrival) (d : List ℕ) → P e → P (received p e arrival d).end
  behind_datagram = by_received P (record {
    notes = λ n e i. k (moves.opened n) e tt i;
    begins = λ now n e i. k (moves.ticks now) (after (moves.opened n) e) tt (k (moves.opened n) e tt i);
    frame = λ f e i. behind_frame f P (of_frame f) e i;
    takes = taken_by;
    closes = λ reason e i. k (moves.closes reason (error_close reason)) e tt i;
    drains = λ close e i. k (moves.drains (reasons.Peer close.1)) (after (moves.takes close.0) e) tt (k (moves.takes close.0) e tt i);
    asks_close = λ e i. k moves.owes e tt i;
    exhausts = λ now e i. k (moves.closes reasons.KeyLimit (error_close reasons.KeyLimit)) (after (moves.ticks now) e) tt (k (moves.ticks now) e tt i);
    draws = λ words e i. k (moves.draws words) e tt i;
    moves = moved_by;
  })

-- ---- a moment

module _ (P : End → Type 0) (k : Keeps moves.moment P) where
  -- the loss timer expired or not; whether that of path validation did is as it was
  lost_by_time : (b : Bool) (e : End) → P e → P (loss_expired b e) × (has_come (loss_expired b e).timers.path_validation (loss_expired b e).closing.clock ≡ has_come e.timers.path_validation e.closing.clock)
  lost_by_time false e i = (i, refl)
  lost_by_time true e i = go e.tracking.loss_time
    where
      go : (o : Option ℕ) → P (loss_judged o e) × (has_come (loss_judged o e).timers.path_validation (loss_judged o e).closing.clock ≡ has_come e.timers.path_validation e.closing.clock)
      go None = (k moves.probes e tt i, refl)
      go (Some moment) = (losses_by P (λ m x. k (moves.lost m) x tt) (λ c x. k (moves.waits_again c) x tt) (λ v x. k (moves.detected v) x tt) (λ d x. k (moves.searched d) x tt) (λ most x. k (moves.shortened_to most) x tt) e i, ap (λ (t : Timers). has_come t.path_validation (losses_detected e).closing.clock) (losses_timers e) ∙ ap (λ (c : Closing). has_come e.timers.path_validation c.clock) (losses_closing e))

  -- the peer is asked anew, or isn't
  asked_by : (words : ℕ → ℕ) (b : Bool) (e : End) → (b ≡ true → has_come e.timers.path_validation e.closing.clock ≡ true) → P e → P (path_expired words b e)
  asked_by words false e came i = i
  asked_by words true e came i = go (nat_lt e.validation.drawn most_challenges)
    where
      go : (b : Bool) → P (challenged_anew words b e)
      go true = k (moves.asked (words (words_drawn e))) e (inr (came refl)) i
      go false = k moves.stops e tt i

  -- one of the others expired, or didn't
  if_by : (b : Bool) (f : Bool → End → End) (e : End) → P (f true e) → P (f false e) → P (f b e)
  if_by true f e came other = came
  if_by false f e came other = other

  expired_by : (words : ℕ → ℕ) (e : End) → P e → P (after_expiry words (expiry_at e.closing.clock e.timers) e)
  expired_by words e i = go x.idle (lost_by_time x.loss e i)
    where
      x : Expiry
      x = expiry_at e.closing.clock e.timers

      lost : End
      lost = loss_expired x.loss e

      validates : End
      validates = path_expired words x.path lost

      keeps : End
      keeps = keep_alive_expired x.keep_alive validates

      paces : End
      paces = pacing_expired x.pacing keeps

      go : (b : Bool) → P lost × (has_come lost.timers.path_validation lost.closing.clock ≡ x.path) → P (unless_idle b words x lost)
      go true stays = k (moves.drains reasons.Idle) lost tt stays.0
      go false stays =
          let anew : P validates = asked_by words x.path lost (λ came. stays.1 ∙ came) stays.0 in
          let awake : P keeps = if_by x.keep_alive keep_alive_expired validates (k moves.alive validates tt anew) anew in
          let freed : P paces = if_by x.pacing pacing_expired keeps (k moves.paced keeps tt awake) awake in
          k moves.sets (acks_expired x.acks paces) tt (if_by x.acks acks_expired paces (k moves.acks_due paces tt freed) freed)

  -- what each move keeps holds behind a moment
  pub behind_moment : (p : Policy) (e : End) (now : ℕ) → P e → P (timed_out p e now).end
  behind_moment p e now i = go e.closing.state refl
    where
      begun : End
      begun = with_closing e (ticked e.closing now)

      kept : P begun
      kept = k (moves.ticks now) e tt i

      waits : e.closing.state ≡ states.Closing → (b : Bool) → P (close_expired b begun)
      waits is true = k moves.over begun (tt, is) kept
      waits is false = kept

      go : (s : State) → e.closing.state ≡ s → P (timed_out_in s p e now).end
      go states.Open is = expired_by p.words begun kept
      go states.Closing is = waits is (has_come e.timers.close (ticked e.closing now).clock)
      go states.Drained is = i
      go states.Failed is = i

-- ---- a poll

module _ (P : End → Type 0) (k : Keeps moves.poll P) where
  writes : Writing (λ (d : Draft). P d.end)
  writes puts.ack d may i = k moves.ack_went d.end tt i
  writes (puts.challenge word) d may i = k moves.challenge_went d.end tt i
  writes (puts.response r) d may i = k moves.response_went d.end tt i
  writes puts.ping d may i = k moves.ping_went d.end tt i
  writes puts.immediate d may i = k moves.immediate_went d.end tt i
  writes puts.request d may i = k moves.request_went d.end tt i
  writes (puts.drops kind) d may i = k (moves.dropped kind) d.end tt i
  writes (puts.control kind f) d may i = k (moves.control_went kind f) d.end (tt, may) i
  writes (puts.message m ms) d may i = k (moves.message_went m ms) d.end (tt, may.0) i
  writes (puts.stream id h room) d may i = k (moves.stream_went id h room) d.end (tt, may.0, may.1, may.4) i
  writes put d may i = i

  -- what goes of an end that is ready
  drafted_by : (leaving : Leaving) (e : End) → MayLeave leaving e → P e → P (draft_as leaving e).end
  drafted_by leaving e may i = by_leave (λ (d : Draft). P d.end) writes leaving e may (hurries leaving)
    where
      hurries : (l : Leaving) → P (lazied_as l e)
      hurries whole = k moves.hurried e tt i
      hurries alone = k moves.hurried e tt i
      hurries l = i

  -- the close of one that closes, or nothing
  closes_by : (p : Policy) (e : End) → P e → P (closes p e).end
  closes_by p e i = (let word : ℕ = p.words (words_drawn e) in closes_left p e P i (λ f goes. k moves.gave_close (after (moves.numbered word) e) tt (k (moves.numbered word) e tt i)))

  -- what each move keeps holds behind a poll
  pub behind_poll : (p : Policy) (e : End) (now : ℕ) → P e → P (polled p e now).end
  behind_poll p e now i = by_poll_to p e now (λ (q : Polled). P q.end) (record {
    silent = i;
    failed = i;
    repeats = λ is. closes_by p begun kept;
    nothing = λ is none. k (moves.limits (not (is_held g.leaving))) g.end tt ready;
    closes = λ reason bound. closes_by p (closed_by reason g.end) (k (moves.closes reason (error_close reason)) g.end tt ready);
    gives = λ is may some. by_going P p d (λ going. k moves.sets (after (moves.went going) given) tt (k (moves.went going) given tt sent));
  })
    where
      begun : End
      begun = with_closing e (ticked e.closing now)

      kept : P begun
      kept = k (moves.ticks now) e tt i

      g : Ready
      g = ready_at e now

      ready : P g.end
      ready = by_ready P e now kept (λ ping immediate x. k (moves.signalled ping immediate) x tt) (λ waits x. k (moves.requests waits) x tt) (λ q among. k (moves.moved_again q) begun (tt, among) kept) (λ moment pacing discovery x. k (moves.gates moment pacing discovery) x tt)

      d : Draft
      d = draft_at e now

      word : ℕ
      word = p.words (words_drawn d.end)

      given : End
      given = with_number_given word (tracked d)

      sent : P given
      sent = k (moves.numbered word) (tracked d) tt (k (moves.tracks (number_of d.end) (packet_of d)) d.end (tt, refl) (drafted_by g.leaving g.end (may_leave_at e now) ready))

-- ---- a call

module _ (P : End → Type 0) (k : Keeps moves.other P) where
  pub behind_next_id : (e : End) (a : Answer) → P e → P (end_on_next_id e a)
  behind_next_id e (answers.UseNextId (Ok done)) i = next_used_by moves.other P k e i
  behind_next_id e a i = i

  -- one that is no delivery, no moment, no poll and no question
  other_call : (p : Policy) (e : End) (theirs : List (List ℕ)) (call : Call) (a : Answer) → is_delivery call ≡ false → is_timeout call ≡ false → is_poll call ≡ false → asks_event call ≡ false → P e → P (after_call p e theirs call a)
  other_call p e theirs call a apart untimed unpolled unasked i = by_call p e theirs P call a (record {
    same = i;
    on_streams = λ is answer. k (moves.on_streams _) e tt i;
    on_messages = λ is answer. k (moves.on_messages _) e tt i;
    pings = k moves.pings e tt i;
    closes = λ reason f now own. k (moves.closes reason f) (after (moves.ticks now) e) tt (k (moves.ticks now) e tt i);
    waits = λ now b is. absurd (both_ways (is_timeout call) untimed is);
    changes_id = λ is answer. behind_next_id e a i;
    says_handshake = λ is answer. by_done P e a i (k (moves.confirms said_done true) e tt i);
    times = λ now expiry is. absurd (both_ways (is_timeout call) untimed is);
    polls = λ now is. absurd (both_ways (is_poll call) unpolled is);
    hears = λ arrival d is. absurd (both_ways (is_delivery call) apart is);
    tells = λ asks. absurd (both_ways (asks_event call) unasked asks);
  })

-- what each move keeps that a call makes holds behind it
pub behind_call : (P : End → Type 0) (p : Policy) (e : End) (theirs : List (List ℕ)) (call : Call) (a : Answer) → Keeps (cause_of call) P → P e → P (after_call p e theirs call a)
behind_call P p e theirs (calls.Deliver delivery) a k i = go (slice_get theirs delivery.index)
  where
    go : (o : Option (List ℕ)) → P (after_delivered p e (delivered_by (says_last a) delivery) o)
    go None = i
    go (Some d) = behind_datagram P k p e (delivered_by (says_last a) delivery) d i
behind_call P p e theirs (calls.Timeout now) a k i = behind_moment P k p e now i
behind_call P p e theirs (calls.Poll now) a k i = behind_poll P k p e now i
behind_call P p e theirs calls.Event a k i = by_event e P (k (moves.on_messages (message_told e).messages) e tt i) (k (moves.confirms (confirmation_told e).confirmation e.waiting.frames.handshake_done) e tt i) (λ told. k (moves.tells told) e tt i)
behind_call P p e theirs call a k i = other_call P k p e theirs call a refl refl refl refl i

-- ---- which call it was

pub no_packet : (call : Call) → is_delivery call ≡ false → IsPacket (cause_of call) → ⊥
no_packet (calls.Deliver delivery) is by = cc
no_packet call is by = by

pub no_poll : (call : Call) → is_poll call ≡ false → IsPoll (cause_of call) → ⊥
no_poll (calls.Poll now) is by = cc
no_poll call is by = by

pub no_event : (call : Call) → asks_event call ≡ false → IsEvent (cause_of call) → ⊥
no_event calls.Event is by = cc
no_event call is by = by
