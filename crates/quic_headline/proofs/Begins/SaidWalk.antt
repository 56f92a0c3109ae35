-- Which limits DATA_BLOCKED and STREAM_DATA_BLOCKED said last changes only where one goes; and no
-- limit falls (RFC 9000, sections 4.1, 19.12 and 19.13).
use Rattle.std.proofs.Common.{◌≡◌, ℕ, zero, suc, ◌≤◌, ◌<◌, refl, Bool, true, false, not, ◌==◌, List, [], ◌∷◌, length, take, Option, Some, None, Result, Ok, Err, sym, subst, inl, inr, arith}
use Rattle.std.specs.Prelude.{nat_lt, nat_le, max, if◌then◌else◌, ◌&&◌, ◌||◌}
use Rattle.std.specs.Option.{is_some}
use Rattle.std.proofs.lemmas.Bool.{cond_both, cases_eq, ltb-true}
use Rattle.quic_wire_core.specs.declared.stream_id.Dir.{Dir}
use Rattle.quic_wire_core.specs.declared.stream_id.Side.{Side}
use Rattle.quic_wire_core.specs.StreamId.{dir_of}
use Rattle.quic_wire.specs.Value.{FrameValue, StopSendingValue, AckValue, ack, stream, reset_stream, stop_sending, max_data, max_stream_data, max_streams, data_blocked, stream_data_blocked, datagram, handshake_done, new_connection_id, retire_connection_id, path_response, ack_frequency}
use Rattle.quic_assembler.specs.declared.assembler.Chunk.{Chunk}
use Rattle.quic_send_buffer.specs.Source.{cut_to}
use Rattle.quic_send_buffer.specs.declared.stream_meta.StreamMeta.{StreamMeta}
use Rattle.quic_streams_parts.specs.declared.answers.Breach.{Breach}
use Rattle.quic_streams_parts.specs.declared.answers.ReadError.{ReadError}
use Rattle.quic_streams_parts.specs.declared.answers.ReadError.TheVariants as read_errors
use Rattle.quic_streams_parts.specs.declared.answers.ReadableError.{ReadableError}
use Rattle.quic_streams_parts.specs.declared.answers.WriteError.{WriteError}
use Rattle.quic_streams_parts.specs.declared.answers.WriteError.TheVariants as write_errors
use Rattle.quic_streams_parts.specs.declared.answers.FinishError.{FinishError}
use Rattle.quic_streams_parts.specs.declared.answers.ClosedStream.{ClosedStream}
use Rattle.quic_streams_parts.specs.declared.answers.Written.{Written}
use Rattle.quic_streams_parts.specs.Dirs.{of, is_own, is_two_way}
use Rattle.quic_streams_parts.specs.Table.{at, put}
use Rattle.quic_streams_parts.specs.TableLaws.{at-put, at-put-apart}
use Rattle.quic_streams_parts.specs.Queue.{Place, Queue}
use Rattle.quic_streams_parts.specs.SendHalf.{SendHalf, was_said, has_pending, is_acked, half_acked, half_lost, half_after, ended, reset_now, grown, grown_all, requeued_at, turned_at, turned, Queued, requeued}
use Rattle.quic_streams_parts.specs.RecvHalf.{RecvHalf, stopped_now, after_frame, after_reset_stream}
use Rattle.quic_streams_halves.specs.Halves.{Halves, is_done, has_place, with_half, without_half}
use Rattle.quic_retransmits.specs.Retransmits.{Retransmits}
use Rattle.quic_streams_state.specs.declared.state.StreamsState.{StreamsState}
use Rattle.quic_streams_state.specs.State.{Streams, streams_of, room, sending_half, receiving_half, sending_status, receiving_status, with_send, with_recv, done_if, without_send, send_done, recv_done}
use Rattle.quic_streams_state.specs.Limits.{most_streams, settled}
use Rattle.quic_streams_state.specs.Opening.{opens, opened_if, opened_by, after_open, after_accept, with_own_limit, after_max_streams, sending_refusal}
use Rattle.quic_streams_state.specs.Writing.{grown_by, accepted_at, blocked_by_all, blocked_by_own, blocked_at, written_by, after_write, chunks_accepted_at, after_write_chunks, ended_at, finished_by, reset_at, after_reset, priority_at, after_set_priority, replaced}
use Rattle.quic_streams_state.specs.Reading.{Told, told_bytes, told_end, told_reset, told_by, read_answer, begun_at, begun_unless, after_read_begun, read_by, after_next, stopped_if, stopped_at, after_stop, received_reset_answer, reset_told, with_stop}
use Rattle.quic_streams_state.specs.Taking.{joined, writable_again, is_used_up, limited_half, limit_raised, limit_at, limit_unless, after_max_data, stopped_half, stop_at, stop_unless, sending_for, readable_if, ended_if, renewed}
use Rattle.quic_streams_state.specs.Acked.{sent_half, finished, acked_on, acked_at, reset_acked_at, lost_at}
use Rattle.quic_streams_state.specs.Frames.{after_frame_sent}
use Rattle.quic_streams_state.specs.Telling.{Telling, Passing, is_writable, unblocked_at, passed, after_passing, told_behind, polled}
use Rattle.quic_streams_laws.specs.Each.{HalfIs}
use Rattle.quic_streams_laws.specs.EachLaws.{each_with, each_without}
use Rattle.quic_streams_laws.specs.KeepingLaws.{stream_cases, reset_cases, live_sends, at-half}
use Rattle.quic_streams_laws.specs.QueuedLaws.{WasHalf, was_live, was_fresh, was_half}
use Rattle.quic_streams_laws.specs.Shape.{AreHalves}
use Rattle.quic_streams_laws.specs.ShapeLaws.{halves_put, halves_with, halves_without}
use Rattle.quic_machine.specs.declared.run.Call.{Call}
use Rattle.quic_machine.specs.declared.run.Call.TheVariants as calls
use Rattle.quic_machine.specs.declared.run.Answer.{Answer}
use Rattle.quic_machine.specs.declared.run.Answer.TheVariants as answers
use Rattle.quic_machine.specs.Policy.{Policy}
use Rattle.quic_machine.specs.Tracking.{dir_named}
use Rattle.quic_machine.specs.Calls.{is_open, after_nexts}
use Rattle.quic_machine.specs.StreamCalls.{if_ok, after_on_streams}
use Rattle.quic_machine.specs.End.{End, with_closing, streams_at}
use Rattle.quic_machine.specs.Closing.{ticked}
use Rattle.quic_machine.specs.Receive.{is_above, names_ungiven, take_frame}
use Rattle.quic_machine.specs.LeaveCases.{by_expired, by_event}
use Rattle.quic_machine.specs.CallCases.{is_delivery, is_poll, by_call, by_done}
use Rattle.quic_machine.specs.FrameCases.{Settling, named, ack_taken, acked_keeps, losses_keep, message_leaves, apart_leaves}
use Rattle.quic_machine.specs.Steps as steps
use Rattle.quic_machine.specs.Machine.{IsAnswer, after_call}
use Rattle.quic_headline.specs.Runs.{Next}
use Rattle.quic_headline.proofs.Packets.Apart.{by_waits, by_next_id}

-- ---- a limit that was said

-- it is at most the one that was said last
abbrev pub AtMost : ℕ → Option ℕ → Type 0
AtMost limit None = ⊥
AtMost limit (Some said) = limit ≤ said

-- which is at most the limit
abbrev pub IsWithin : Option ℕ → ℕ → Type 0
IsWithin None limit = Unit {0}
IsWithin (Some said) limit = said ≤ limit

within_more : (o : Option ℕ) (a b : ℕ) → a ≤ b → IsWithin o a → IsWithin o b
within_more None a b le is = tt
within_more (Some said) a b le is = omega arith

-- so it is at most the limit
pub most_within : (n : ℕ) (o : Option ℕ) (limit : ℕ) → AtMost n o → IsWithin o limit → n ≤ limit
most_within n None limit most is = absurd most
most_within n (Some said) limit most is = omega arith

-- STREAM_DATA_BLOCKED of a stream and a limit
abbrev pub blocked_frame : ℕ → ℕ → FrameValue
blocked_frame id limit = stream_data_blocked (record { id = id; limit = limit })

-- where these frames were given
module _ (given : FrameValue → Type 0) where
  -- none is of this stream
  abbrev pub NoneSaid : ℕ → Type 0
  NoneSaid id = (limit : ℕ) → given (blocked_frame id limit) → ⊥

  -- of a half none says more than was said last, nor that more than its limit
  abbrev pub HalfSays : ℕ → SendHalf → Type 0
  HalfSays id h = ((limit : ℕ) → given (blocked_frame id limit) → AtMost limit h.said) × IsWithin h.said h.limit

  abbrev pub SaysOf : ℕ → Option SendHalf → Bool → Type 0
  SaysOf id o used = HalfIs (NoneSaid id) (HalfSays id) (Unit {0}) o used

  -- the sending halves lie in order, of each that is so, and of all streams too
  pub record Says (side : Side) (halves : Halves SendHalf) (said : Option ℕ) (limit : ℕ) : Type 0 where
    pub lie : AreHalves side (λ id. true) halves
    pub each : (id : ℕ) → SaysOf id (at halves.live id) (has_place side halves.places id)
    pub told : (n : ℕ) → given (data_blocked n) → AtMost n said
    pub within : IsWithin said limit

  abbrev pub Of : StreamsState → Type 0
  Of s = Says s.side s.sending.halves s.sending.said s.sending.limit

  -- ---- halves

  -- what is so of a half that there is
  pub half_says : (s : StreamsState) (id : ℕ) (h : SendHalf) → sending_half s id ≡ Some h → Of s → HalfSays id h
  half_says s id h is i = go (was_half s id h is)
    where
      go : WasHalf s id h → HalfSays id h
      go (was_live live) = subst (λ (o : Option SendHalf). SaysOf id o (has_place s.side s.sending.halves.places id)) live (i.each id)
      go (was_fresh none free same) =
          let unused : SaysOf id None (has_place s.side s.sending.halves.places id) = subst (λ (o : Option SendHalf). SaysOf id o (has_place s.side s.sending.halves.places id)) none (i.each id) in
          let unsaid : NoneSaid id = subst (λ (b : Bool). SaysOf id None b) free unused in
          subst (HalfSays id) (sym same) ((λ limit was. unsaid limit was), tt)

  -- a half of which the same was said, and whose limit is no lower
  alike : (id : ℕ) (old new : SendHalf) → new.said ≡ old.said → old.limit ≤ new.limit → HalfSays id old → HalfSays id new
  alike id old new said limit x = ((λ n was. subst (AtMost n) (sym said) (x.0 n was)), within_more new.said old.limit new.limit limit (subst (λ (o : Option ℕ). IsWithin o old.limit) (sym said) x.1))

  requeued_says : (o : Option Place) (b : Bool) (q : Queue) (id : ℕ) (h : SendHalf) → HalfSays id h → HalfSays id (requeued_at o b q id h).half
  requeued_says None true q id h x = x
  requeued_says None false q id h x = x
  requeued_says (Some place) true q id h x = x
  requeued_says (Some place) false q id h x = x

  turned_says : (o : Option Place) (q : Queue) (id : ℕ) (h : SendHalf) → HalfSays id h → HalfSays id (turned_at o q id h).half
  turned_says None q id h x = x
  turned_says (Some place) q id h x = x

  -- one has another value
  put_says : (s : StreamsState) (id : ℕ) (new : SendHalf) → HalfSays id new → Of s → Says s.side (with_half s.side s.sending.halves id new) s.sending.said s.sending.limit
  put_says s id new now i = record {
    lie = halves_with s.side (λ j. true) s.sending.halves id new refl i.lie;
    each = each_with s.side s.sending.halves id new NoneSaid NoneSaid HalfSays HalfSays (λ j. Unit {0}) (λ j. Unit {0}) i.lie.runs now (λ j o used ne x. x) i.each;
    told = i.told;
    within = i.within;
  }

  kept_half : (s : StreamsState) (id : ℕ) (old new : SendHalf) → sending_half s id ≡ Some old → new.said ≡ old.said → old.limit ≤ new.limit → Of s → Says s.side (with_half s.side s.sending.halves id new) s.sending.said s.sending.limit
  kept_half s id old new is said limit i = put_says s id new (alike id old new said limit (half_says s id old is i)) i

  -- and another place in the queue, or none
  queued_half : (s : StreamsState) (id : ℕ) (old new : SendHalf) (o : Option Place) (b : Bool) → sending_half s id ≡ Some old → new.said ≡ old.said → old.limit ≤ new.limit → Of s
      → Says s.side (with_half s.side s.sending.halves id (requeued_at o b s.sending.queue id new).half) s.sending.said s.sending.limit
  queued_half s id old new o b is said limit i = put_says s id (requeued_at o b s.sending.queue id new).half (requeued_says o b s.sending.queue id new (alike id old new said limit (half_says s id old is i))) i

  -- its frame goes
  pub frame_says : (fair : Bool) (s : StreamsState) (id : ℕ) (h : SendHalf) (room : ℕ) → at s.sending.halves.live id ≡ Some h → Of s → Of (after_frame_sent fair s id h room)
  frame_says fair s id h room found i =
      let g : SendHalf = half_after h room in
      let x : HalfSays id g = half_says s id h (live_sends s id h found) i in
      let now : HalfSays id (turned fair s.sending.queue id g).half = cond_both {A = Queued} (fair && has_pending g) (turned_at g.place s.sending.queue id g) (requeued s.sending.queue id g) (λ q. HalfSays id q.half) (λ e. turned_says g.place s.sending.queue id g x) (λ e. requeued_says g.place (has_pending g) s.sending.queue id g x) in
      put_says s id (turned fair s.sending.queue id g).half now i

  -- one that is in use has another value
  pub live_says : (side : Side) (halves : Halves SendHalf) (said : Option ℕ) (limit id : ℕ) (old new : SendHalf) → at halves.live id ≡ Some old → HalfSays id new → Says side halves said limit → Says side (record halves { live = put halves.live id new }) said limit
  live_says side halves said limit id old new is now i = record {
    lie = halves_put side (λ j. true) halves id old new is i.lie;
    each = λ j. elim (cases_eq j id) [
      | inl same ↦
          let here : SaysOf id (at (put halves.live id new) id) (has_place side halves.places id) = subst (λ (o : Option SendHalf). SaysOf id o (has_place side halves.places id)) (sym (at-put halves.live id old new is)) now in
          subst (λ (x : ℕ). SaysOf x (at (put halves.live id new) x) (has_place side halves.places x)) (sym same) here
      | inr ne ↦ subst (λ (o : Option SendHalf). SaysOf j o (has_place side halves.places j)) (sym (at-put-apart halves.live id new j ne)) (i.each j)
    ];
    told = i.told;
    within = i.within;
  }

  -- one is done
  ends_says : (s : StreamsState) (id : ℕ) (h : SendHalf) → at s.sending.halves.live id ≡ Some h → Of s → Says s.side (without_half s.sending.halves id) s.sending.said s.sending.limit
  ends_says s id h is i = record {
    lie = halves_without s.side (λ j. true) s.sending.halves id i.lie;
    each = each_without s.side s.sending.halves id NoneSaid HalfSays (λ j. Unit {0}) i.lie.sorted (i.lie.placed id h is) tt i.each;
    told = i.told;
    within = i.within;
  }

  -- ---- small steps

  either : (b : Bool) (x y : StreamsState) → Of x → Of y → Of (if b then x else y)
  either true x y i j = i
  either false x y i j = j

  either_streams : (b : Bool) (x y : Streams) → Of x.state → Of y.state → Of (if b then x else y).state
  either_streams true x y i j = i
  either_streams false x y i j = j

  done_left : (b : Bool) (id : ℕ) (s : StreamsState) → Of s → Of (done_if b id s)
  done_left true id s i = i
  done_left false id s i = i

  -- a half that sends is done
  sent_left : (s : StreamsState) (id : ℕ) (h : SendHalf) → at s.sending.halves.live id ≡ Some h → Of s → Of (send_done s id)
  sent_left s id h is i = done_left (not (is_own s.side id) && is_done (receiving_status s id)) id (without_send s id) (ends_says s id h is i)

  -- a half that receives is done
  received_left : (s : StreamsState) (id : ℕ) → Of s → Of (recv_done s id)
  received_left s id i = done_left (not (is_own s.side id) && (not (is_two_way (dir_of id)) || is_done (sending_status s id))) id _ i

  -- a stream is blocked
  joined_left : (s : StreamsState) (id : ℕ) (h : SendHalf) → sending_half s id ≡ Some h → Of s → Of (joined s id h)
  joined_left s id h is i = either h.blocked s _ i (kept_half s id h (record h { blocked = true }) is refl (omega arith) i)

  -- a stream of the peer's is opened
  opened_left : (s : StreamsState) (id : ℕ) → Of s → Of (opened_by s id)
  opened_left s id i = go (opens s id)
    where
      go : (b : Bool) → Of (opened_if b id s)
      go true = i
      go false = i

  -- ---- calls of an application about what it sends

  open_left : (b : Bool) (dir : Dir) (s : StreamsState) → Of s → Of (after_open b dir s)
  open_left true dir s i = i
  open_left false dir s i = i

  accept_left : (dir : Dir) (s : StreamsState) → Of s → Of (after_accept dir s)
  accept_left dir s i = i

  blocked_left : (o : Option SendHalf) (s : StreamsState) (p : Retransmits) (id : ℕ) → sending_half s id ≡ o → Of s → Of (blocked_at o s p id).state
  blocked_left None s p id is i = i
  blocked_left (Some h) s p id is i = either_streams (room s.sending == 0) (blocked_by_all s p id h) (blocked_by_own s p id h) (joined_left s id h is i) (either_streams (was_said h.said h.limit) _ _ i (kept_half s id h h is refl (omega arith) i))

  accepted_left : (o : Option SendHalf) (s : StreamsState) (id : ℕ) (bytes : List ℕ) → sending_half s id ≡ o → Of s → Of (accepted_at o s id bytes)
  accepted_left None s id bytes is i = i
  accepted_left (Some h) s id bytes is i = either (length bytes == 0) s (grown_by h s id bytes) i (queued_half s id h (grown h bytes) h.place true is refl (omega arith) i)

  written_left : (r : Result ℕ WriteError) (s : StreamsState) (p : Retransmits) (id : ℕ) (bytes : List ℕ) → Of s → Of (written_by r s p id bytes).state
  written_left (Ok n) s p id bytes i = accepted_left (sending_half s id) s id (take n bytes) refl i
  written_left (Err write_errors.Blocked) s p id bytes i = blocked_left (sending_half s id) s p id refl i
  written_left (Err (write_errors.Stopped code)) s p id bytes i = i
  written_left (Err write_errors.ClosedStream) s p id bytes i = i
  written_left (Err write_errors.Memory) s p id bytes i = i

  write_left : (b : Bool) (r : Result ℕ WriteError) (s : StreamsState) (p : Retransmits) (id : ℕ) (bytes : List ℕ) → Of s → Of (after_write b r s p id bytes).state
  write_left true r s p id bytes i = written_left r s p id bytes i
  write_left false r s p id bytes i = i

  chunks_accepted_left : (o : Option SendHalf) (s : StreamsState) (id n : ℕ) (cs : List (List ℕ)) → sending_half s id ≡ o → Of s → Of (chunks_accepted_at o s id n cs)
  chunks_accepted_left None s id n cs is i = i
  chunks_accepted_left (Some h) s id zero cs is i = i
  chunks_accepted_left (Some h) s id (suc n) cs is i = queued_half s id h (grown_all h (cut_to (suc n) cs)) h.place true is refl (omega arith) i

  chunks_left : (b : Bool) (r : Result Written WriteError) (s : StreamsState) (p : Retransmits) (id : ℕ) (cs : List (List ℕ)) → Of s → Of (after_write_chunks b r s p id cs).state
  chunks_left true (Ok w) s p id cs i = chunks_accepted_left (sending_half s id) s id w.bytes cs refl i
  chunks_left true (Err e) s p id cs i = written_left (Err e) s p id [] i
  chunks_left false r s p id cs i = i

  ended_left : (o : Option SendHalf) (s : StreamsState) (id : ℕ) → sending_half s id ≡ o → Of s → Of (ended_at o s id)
  ended_left None s id is i = i
  ended_left (Some h) s id is i = queued_half s id h (ended h) h.place true is refl (omega arith) i

  finished_left : (r : Result (Unit {0}) FinishError) (s : StreamsState) (id : ℕ) → Of s → Of (finished_by r s id)
  finished_left (Ok x) s id i = ended_left (sending_half s id) s id refl i
  finished_left (Err e) s id i = i

  reset_left : (o : Option SendHalf) (s : StreamsState) (p : Retransmits) (id code : ℕ) → sending_half s id ≡ o → Of s → Of (reset_at o s p id code).state
  reset_left None s p id code is i = i
  reset_left (Some h) s p id code is i = either_streams (is_some h.reset) _ _ i (queued_half s id h (reset_now h) h.place false is refl (omega arith) i)

  priority_left : (o : Option SendHalf) (s : StreamsState) (id : ℕ) → (priority : _) → sending_half s id ≡ o → Of s → Of (priority_at o s id priority)
  priority_left None s id priority is i = i
  priority_left (Some h) s id priority is i = kept_half s id h (record h { priority = priority }) is refl (omega arith) i

  if_done : {A E : Type 0} (r : Result A E) (after before : Streams) → Of after.state → Of before.state → Of (if_ok r after before).state
  if_done (Ok x) after before now i = now
  if_done (Err error) after before now i = i

  -- ---- and about what it reads

  begun_left : (r : Result (Unit {0}) ReadableError) (s : StreamsState) (id : ℕ) (ordered : Bool) → Of s → Of (begun_unless r s id ordered)
  begun_left (Err e) s id ordered i = i
  begun_left (Ok x) s id ordered i = go (receiving_half s id) ordered
    where
      go : (o : Option RecvHalf) (b : Bool) → Of (begun_at o s id b)
      go None b = i
      go (Some h) true = i
      go (Some h) false = i

  read_left : (answer : Result (Option Chunk) ReadError) (o : Option RecvHalf) (s : StreamsState) (id most : ℕ) → Of s → Of (read_by answer o s id most)
  read_left answer None s id most i = i
  read_left (Ok (Some chunk)) (Some h) s id most i = i
  read_left (Ok None) (Some h) s id most i = received_left s id i
  read_left (Err (read_errors.Reset code)) (Some h) s id most i = received_left s id i
  read_left (Err read_errors.Blocked) (Some h) s id most i = i
  read_left (Err read_errors.Memory) (Some h) s id most i = i

  next_left : (told : Told) (answer : Result (Option Chunk) ReadError) (s : StreamsState) (id most : ℕ) → Of s → Of (after_next told answer s id most)
  next_left told_bytes answer s id most i = read_left answer (receiving_half s id) s id most i
  next_left told_end answer s id most i = i
  next_left (told_reset code) answer s id most i = i

  nexts_left : (told : Told) (s : StreamsState) (id : ℕ) (mosts : List ℕ) (said : List Next) → Of s → Of (after_nexts told s id mosts said)
  nexts_left told s id (most ∷ mosts) (x ∷ said) i = nexts_left (told_by x told) (after_next told x s id most) id mosts said (next_left told x s id most i)
  nexts_left told s id [] said i = i
  nexts_left told s id (most ∷ mosts) [] i = i

  stop_left : (o : Option RecvHalf) (s : StreamsState) (p : Retransmits) (id code : ℕ) → Of s → Of (stopped_at o s p id code).state
  stop_left None s p id code i = i
  stop_left (Some h) s p id code i = either_streams h.stopped (streams_of s p) (settled (stopped_if (is_some h.final) s id h) (with_stop h.reset id code p)) i (go (is_some h.final))
    where
      go : (b : Bool) → Of (stopped_if b s id h)
      go true = received_left (with_recv s id (stopped_now h)) id i
      go false = i

  reset_told_left : (r : Result (Option ℕ) ClosedStream) (s : StreamsState) (p : Retransmits) (id : ℕ) → Of s → Of (reset_told r s p id).state
  reset_told_left (Ok (Some code)) s p id i = received_left s id i
  reset_told_left (Ok None) s p id i = i
  reset_told_left (Err e) s p id i = i

  -- a call on streams
  on_streams_left : (b : Bool) (t : Streams) (call : Call) (a : Answer) → Of t.state → Of (after_on_streams b t call a).state
  on_streams_left b t (calls.Open dir) a i = open_left b dir t.state i
  on_streams_left b t (calls.Write id bytes) (answers.Write r) i = write_left b r t.state t.pending id bytes i
  on_streams_left b t (calls.WriteChunks id chunks) (answers.WriteChunks r) i = chunks_left b r t.state t.pending id chunks.items i
  on_streams_left b t (calls.Finish id) (answers.Finish r) i = finished_left r t.state id i
  on_streams_left b t (calls.Reset id code) (answers.Reset r) i = if_done r (after_reset t.state t.pending id code) t (reset_left (sending_half t.state id) t.state t.pending id code refl i) i
  on_streams_left b t (calls.SetPriority id priority) (answers.SetPriority r) i = if_done r (record t { state = after_set_priority t.state id priority }) t (priority_left (sending_half t.state id) t.state id priority refl i) i
  on_streams_left b t (calls.Accept dir) a i = accept_left dir t.state i
  on_streams_left b t (calls.Read read) (answers.Read (Ok said)) i = nexts_left told_bytes (after_read_begun t.state read.id read.ordered) read.id read.nexts.items said (begun_left (read_answer t.state read.id read.ordered) t.state read.id read.ordered i)
  on_streams_left b t (calls.Stop id code) (answers.Stop r) i = if_done r (after_stop t.state t.pending id code) t (stop_left (receiving_half t.state id) t.state t.pending id code i) i
  on_streams_left b t (calls.ReceivedReset id) a i = reset_told_left (received_reset_answer t.state id) t.state t.pending id i
  on_streams_left b t call a i = i

  -- ---- what is told, acknowledged and lost

  -- blocked streams are passed, up to one that is writable
  passed_left : (side : Side) (said : Option ℕ) (limit : ℕ) (ids : List ℕ) (halves : Halves SendHalf) → Says side halves said limit → Says side (record halves { live = (passed ids halves.live).halves }) said limit
  passed_left side said limit [] halves i = i
  passed_left side said limit (id ∷ ids) halves i = cond_both {A = Passing} (is_writable (at halves.live id)) _ _ (λ p. Says side (record halves { live = p.halves }) said limit) (λ e. one) (λ e. passed_left side said limit ids (record halves { live = unblocked_at (at halves.live id) halves.live id }) one)
    where
      go : (o : Option SendHalf) → at halves.live id ≡ o → Says side (record halves { live = unblocked_at o halves.live id }) said limit
      go None is = i
      go (Some h) is = live_says side halves said limit id h (record h { blocked = false }) is (subst (λ (o : Option SendHalf). SaysOf id o (has_place side halves.places id)) is (i.each id)) i

      one : Says side (record halves { live = unblocked_at (at halves.live id) halves.live id }) said limit
      one = go (at halves.live id) refl

  behind_left : (o : Option ℕ) (s : StreamsState) → Of s → Of (told_behind o s).state
  behind_left (Some id) s i = i
  behind_left None s i = i

  polled_left : (s : StreamsState) → Of s → Of (polled s).state
  polled_left s i = cond_both s.events.opened.bi _ _ (λ (t : Telling). Of t.state) (λ is. i)
      (λ is. cond_both s.events.opened.uni _ _ (λ (t : Telling). Of t.state) (λ is. i)
      (λ is. cond_both (room s.sending == 0) _ _ (λ (t : Telling). Of t.state) (λ is. i) (λ is. behind_left (passed s.sending.blocked s.sending.halves.live).found (after_passing s (passed s.sending.blocked s.sending.halves.live)) (passed_left s.side s.sending.said s.sending.limit s.sending.blocked s.sending.halves i))))

  lost_left : (o : Option SendHalf) (s : StreamsState) (m : StreamMeta) → at s.sending.halves.live m.id ≡ o → Of s → Of (lost_at o s m)
  lost_left None s m is i = i
  lost_left (Some h) s m is i = either (is_some h.reset) s _ i (queued_half s m.id h (half_lost h m) h.place (has_pending (half_lost h m)) (live_sends s m.id h is) refl (omega arith) i)

  acked_left : (o : Option SendHalf) (s : StreamsState) (p : Retransmits) (m : StreamMeta) → at s.sending.halves.live m.id ≡ o → Of s → Of (acked_at o s p m).state
  acked_left None s p m is i = i
  acked_left (Some h) s p m is i = either_streams (is_some h.reset) (streams_of s p) (acked_on h s p m) i
      (either_streams (is_acked (half_acked h m)) (settled (finished t m.id) p) (streams_of t p) (sent_left t m.id (requeued_at h.place (has_pending (half_acked h m)) s.sending.queue m.id (half_acked h m)).half (at-half s.side s.sending.halves m.id _) now) now)
    where
      t : StreamsState
      t = replaced s m.id (half_acked h m)

      now : Of t
      now = queued_half s m.id h (half_acked h m) h.place (has_pending (half_acked h m)) (live_sends s m.id h is) refl (omega arith) i

  reset_acked_left : (o : Option SendHalf) (s : StreamsState) (p : Retransmits) (id : ℕ) → at s.sending.halves.live id ≡ o → Of s → Of (reset_acked_at o s p id).state
  reset_acked_left None s p id is i = i
  reset_acked_left (Some h) s p id is i = either_streams (is_some h.reset) (settled (send_done s id) p) (streams_of s p) (sent_left s id h is i) i

  settling : Settling (λ (e : End). Of e.streams)
  settling (steps.reset id) e i = reset_acked_left (sent_half e.streams id) e.streams e.waiting.frames id refl i
  settling (steps.acked m) e i = acked_left (sent_half e.streams m.id) e.streams e.waiting.frames m refl i
  settling (steps.lost m) e i = lost_left (sent_half e.streams m.id) e.streams m refl i
  settling s e i = i

  -- ---- calls

  -- any call but a delivery and a poll
  pub call_left : (p : Policy) (e : End) (theirs : List (List ℕ)) (call : Call) (a : Answer) → is_delivery call ≡ false → is_poll call ≡ false → IsAnswer p e theirs call a → Of e.streams → Of (after_call p e theirs call a).streams
  call_left p e theirs call a apart silent is i = by_call p e theirs (λ (f : End). Of f.streams) call a (record {
    same = i;
    on_streams = λ on answer. on_streams_left (is_open e.closing.state) (streams_at e) call a i;
    on_messages = λ on answer. i;
    pings = i;
    closes = λ reason f now own. i;
    waits = λ now b set. by_waits (λ (f : End). Of f.streams) b (with_closing e (ticked e.closing now)) i i;
    changes_id = λ uses answer. by_next_id (λ (f : End). Of f.streams) e a i (λ c. i) (λ c most. i);
    says_handshake = λ says answer. by_done (λ (f : End). Of f.streams) e a i i;
    times = λ now expiry set. by_expired p.words e now (λ (f : End). Of f.streams) (λ pending tracking timers waits asked runs packets. i) (λ pending timers waits asked runs. losses_keep (λ (x : End). Of x.streams) settling (with_closing e (ticked e.closing now)) i) (λ x j. j) expiry;
    polls = λ now set. cc;
    hears = λ arrival d set. cc;
    tells = λ asks. by_event e (λ (f : End). Of f.streams) i i (λ told. polled_left e.streams i);
  })

  -- ---- frames that come

  -- a half takes bytes again
  again_left : (t : StreamsState) (id : ℕ) (h : SendHalf) → sending_half t id ≡ Some h → Of t → Of (writable_again t id h)
  again_left t id h is i = either (room t.sending == 0) (joined t id h) _ (joined_left t id h is i) i

  limit_left : (o : Option SendHalf) (t : StreamsState) (id limit : ℕ) → sending_half t id ≡ o → Of t → Of (limit_at o t id limit)
  limit_left None t id limit is i = i
  limit_left (Some h) t id limit is i = cond_both (nat_lt h.limit limit) (limit_raised t id h limit) t Of (λ above. raised (ltb-true h.limit limit above)) (λ below. i)
    where
      half : SendHalf
      half = limited_half h limit

      u : StreamsState
      u = with_send t id half

      raised : h.limit < limit → Of (limit_raised t id h limit)
      raised above =
          let now : Of u = kept_half t id h half is refl (omega arith) i in
          either (is_used_up h) (writable_again u id half) u (again_left u id half (live_sends u id half (at-half t.side t.sending.halves id half)) now) now

  limit_unless_left : (o : Option Breach) (s : StreamsState) (id limit : ℕ) → Of s → Of (limit_unless o s id limit)
  limit_unless_left (Some b) s id limit i = i
  limit_unless_left None s id limit i = limit_left (sending_for s id) (opened_by s id) id limit refl (opened_left s id i)

  stop_at_left : (o : Option SendHalf) (t : StreamsState) (id code : ℕ) → sending_half t id ≡ o → Of t → Of (stop_at o t id code)
  stop_at_left None t id code is i = i
  stop_at_left (Some h) t id code is i = either (is_some h.stopped) t _ i (kept_half t id h (stopped_half h code) is refl (omega arith) i)

  stop_unless_left : (o : Option Breach) (s : StreamsState) (f : StopSendingValue) → Of s → Of (stop_unless o s f)
  stop_unless_left (Some b) s f i = i
  stop_unless_left None s f i = stop_at_left (sending_for s f.id) (opened_by s f.id) f.id f.code refl (opened_left s f.id i)

  data_left : (s : StreamsState) (limit : ℕ) → Of s → Of (after_max_data s limit)
  data_left s limit i = record { lie = i.lie; each = i.each; told = i.told; within = within_more s.sending.said s.sending.limit (max s.sending.limit limit) (omega arith) i.within }

  count_left : (dir : Dir) (count : ℕ) (s : StreamsState) → Of s → Of (after_max_streams dir count s)
  count_left dir count s i = either (nat_le count most_streams && nat_lt (of dir s.opening.own_limit) count) (with_own_limit dir count s) s i i

  -- a half that receives has another value
  value_left : (s : StreamsState) (id : ℕ) (old new : RecvHalf) (tells : Bool) → Of s → Of (renewed s id old new tells)
  value_left s id old new tells i = told (tells && not (old.stopped || opens s id)) (ended_if (new.stopped && is_some new.final) id (with_recv (opened_by s id) id new)) (last (new.stopped && is_some new.final) (opened_left s id i))
    where
      last : (b : Bool) → Of (opened_by s id) → Of (ended_if b id (with_recv (opened_by s id) id new))
      last true j = received_left (with_recv (opened_by s id) id new) id j
      last false j = j

      told : (b : Bool) (t : StreamsState) → Of t → Of (readable_if b id t)
      told true t j = j
      told false t j = j

  -- any frame
  pub taken_left : (f : FrameValue) (e : End) → Of e.streams → Of (take_frame f e).end.streams
  taken_left f e i = go f
    where
      acked : (a : AckValue) (b : Bool) → Of (ack_taken b a e).end.streams
      acked a true = i
      acked a false = acked_keeps (λ (x : End). Of x.streams) settling (is_above e.numbers.largest_acked a.largest) a (named a e) i

      go : (h : FrameValue) → Of (take_frame h e).end.streams
      go (stream g) = stream_cases e.streams e.waiting.frames g Of (λ b is. i) (λ within none. i) (λ h within part u. value_left e.streams g.id h (after_frame h g) true i)
      go (reset_stream g) = reset_cases e.streams e.waiting.frames g Of (λ b is. i) (λ within none. i) (λ h within part u. value_left e.streams g.id h (after_reset_stream h g.code g.final_size) (not (is_some h.reset)) i)
      go (stop_sending g) = stop_unless_left (sending_refusal e.streams g.id) e.streams g i
      go (max_data limit) = data_left e.streams limit i
      go (max_stream_data g) = limit_unless_left (sending_refusal e.streams g.id) e.streams g.id g.limit i
      go (max_streams g) = count_left (dir_named g.one_way) g.count e.streams i
      go (ack a) = acked a (names_ungiven a e)
      go (datagram m) = message_leaves (λ (x : End). Of x.streams) m e i (λ left. i)
      go (new_connection_id g) = apart_leaves (λ (x : End). Of x.streams) (new_connection_id g) e tt (λ c. i) (λ c most. i)
      go (retire_connection_id n) = apart_leaves (λ (x : End). Of x.streams) (retire_connection_id n) e tt (λ c. i) (λ c most. i)
      go (path_response token) = apart_leaves (λ (x : End). Of x.streams) (path_response token) e tt (λ c. i) (λ c most. i)
      go handshake_done = apart_leaves (λ (x : End). Of x.streams) handshake_done e tt (λ c. i) (λ c most. i)
      go (ack_frequency r) = apart_leaves (λ (x : End). Of x.streams) (ack_frequency r) e tt (λ c. i) (λ c most. i)
      go other = i
