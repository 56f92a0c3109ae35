-- How many streams an end opened changes only by a call that opens one, and how many it may open
-- only where the peer tells it of more: all else leaves both.
use Rattle.std.proofs.Common.{◌≡◌, ℕ, zero, suc, ◌+◌, refl, Bool, true, false, not, ◌==◌, List, [], ◌∷◌, length, take, Option, Some, None, Result, Ok, Err, sym, subst, inl, inr}
use Rattle.std.specs.Prelude.{nat_lt, if◌then◌else◌, ◌&&◌, ◌||◌}
use Rattle.std.specs.Option.{is_some}
use Rattle.std.proofs.lemmas.Bool.{cond_both}
use Rattle.quic_wire_core.specs.declared.stream_id.Dir.{Dir}
use Rattle.quic_wire_core.specs.declared.stream_id.Dir.TheVariants.{Bi, Uni}
use Rattle.quic_wire_core.specs.StreamId.{dir_of, index_of}
use Rattle.quic_wire.specs.Value.{FrameValue, StopSendingValue, StreamCountValue, AckValue, ack, stream, reset_stream, stop_sending, max_data, max_stream_data, max_streams, datagram, new_connection_id, retire_connection_id, path_response, handshake_done, ack_frequency}
use Rattle.quic_assembler.specs.declared.assembler.Chunk.{Chunk}
use Rattle.quic_send_buffer.specs.declared.stream_meta.StreamMeta.{StreamMeta}
use Rattle.quic_streams_parts.specs.declared.answers.Breach.{Breach}
use Rattle.quic_streams_parts.specs.declared.answers.ReadError.{ReadError}
use Rattle.quic_streams_parts.specs.declared.answers.ReadError.TheVariants as read_errors
use Rattle.quic_streams_parts.specs.declared.answers.ReadableError.{ReadableError}
use Rattle.quic_streams_parts.specs.declared.answers.WriteError.{WriteError}
use Rattle.quic_streams_parts.specs.declared.answers.WriteError.TheVariants as write_errors
use Rattle.quic_streams_parts.specs.declared.answers.FinishError.{FinishError}
use Rattle.quic_streams_parts.specs.declared.answers.ClosedStream.{ClosedStream}
use Rattle.quic_streams_parts.specs.declared.answers.Written.{Written}
use Rattle.quic_streams_parts.specs.Dirs.{Counts, of, is_own, is_two_way}
use Rattle.quic_streams_parts.specs.SendHalf.{SendHalf, was_said, is_acked, half_acked}
use Rattle.quic_streams_parts.specs.RecvHalf.{RecvHalf, stopped_now, after_frame, after_reset_stream}
use Rattle.quic_streams_halves.specs.Halves.{is_done}
use Rattle.quic_retransmits.specs.Retransmits.{Retransmits}
use Rattle.quic_streams_state.specs.declared.state.StreamsState.{StreamsState}
use Rattle.quic_streams_state.specs.State.{Streams, Opening, streams_of, room, sending_half, receiving_half, sending_status, receiving_status, with_send, with_recv, done_if, without_send, send_done, recv_done}
use Rattle.quic_streams_state.specs.Limits.{settled}
use Rattle.quic_streams_state.specs.Opening.{opens, with_remote, opened_if, opened_by, after_accept, after_max_streams, sending_refusal}
use Rattle.quic_streams_state.specs.Writing.{write_answer, grown_by, accepted_at, blocked_by_all, blocked_by_own, blocked_at, written_by, after_write, write_chunks_answer, chunks_accepted_at, after_write_chunks, finish_answer, ended_at, finished_by, reset_at, reset_answer, after_reset, priority_at, set_priority_answer, after_set_priority, replaced}
use Rattle.quic_streams_state.specs.Reading.{Told, told_bytes, told_end, told_reset, told_by, read_answer, begun_at, begun_unless, after_read_begun, read_by, after_next, stop_answer, stopped_if, stopped_at, after_stop, received_reset_answer, reset_told, with_stop}
use Rattle.quic_streams_state.specs.Taking.{joined, writable_again, is_used_up, limited_half, limit_raised, limit_at, limit_unless, stop_at, stop_unless, sending_for, readable_if, ended_if, renewed}
use Rattle.quic_streams_state.specs.Acked.{sent_half, finished, acked_on, acked_at, reset_acked_at, lost_at}
use Rattle.quic_streams_state.specs.Telling.{Telling, passed, after_passing, told_behind, polled}
use Rattle.quic_streams_laws.specs.KeepingLaws.{stream_cases, reset_cases}
use Rattle.quic_machine.specs.declared.run.Call.{Call}
use Rattle.quic_machine.specs.declared.run.Call.TheVariants as calls
use Rattle.quic_machine.specs.declared.run.Answer.{Answer}
use Rattle.quic_machine.specs.declared.run.Answer.TheVariants as answers
use Rattle.quic_machine.specs.Policy.{Policy}
use Rattle.quic_machine.specs.Tracking.{dir_named}
use Rattle.quic_machine.specs.Calls.{is_open, after_nexts}
use Rattle.quic_machine.specs.StreamCalls.{if_ok, after_on_streams, IsStreamAnswer}
use Rattle.quic_machine.specs.End.{End, with_closing, streams_at}
use Rattle.quic_machine.specs.Closing.{ticked}
use Rattle.quic_machine.specs.Receive.{is_above, names_ungiven, take_frame}
use Rattle.quic_machine.specs.Poll as poll
use Rattle.quic_machine.specs.LeaveCases.{by_expired, by_event}
use Rattle.quic_machine.specs.CallCases.{is_delivery, by_call, by_done}
use Rattle.quic_machine.specs.FrameCases.{Settling, named, ack_taken, acked_keeps, losses_keep, message_leaves, apart_leaves}
use Rattle.quic_machine.specs.Steps as steps
use Rattle.quic_machine.specs.Machine.{IsAnswer, after_call}
use Rattle.quic_headline.specs.Runs.{Next}
use Rattle.quic_machine.specs.DraftLaws.{Writing, by_writing}
use Rattle.quic_machine.specs.Puts as puts
use Rattle.quic_headline.proofs.Packets.Apart.{by_waits, by_next_id}
use Rattle.quic_streams_laws.specs.QuietLaws.{by_tells}
use Rattle.quic_headline.proofs.Packets.Probes.{poll_state}

-- whether a call opens a stream
abbrev pub opens_one : Call → Bool
opens_one (calls.Open dir) = true
opens_one call = false

-- a fact of how many an end opened, and how many it may open
module _ (P : Counts → Counts → Type 0) where
  abbrev pub Own : StreamsState → Type 0
  Own s = P s.opening.own s.opening.own_limit

  -- ---- small steps

  either : (b : Bool) (x y : StreamsState) → Own x → Own y → Own (if b then x else y)
  either true x y i j = i
  either false x y i j = j

  either_streams : (b : Bool) (x y : Streams) → Own x.state → Own y.state → Own (if b then x else y).state
  either_streams true x y i j = i
  either_streams false x y i j = j

  done_own : (b : Bool) (id : ℕ) (s : StreamsState) → Own s → Own (done_if b id s)
  done_own true id s i = i
  done_own false id s i = i

  -- a half that sends is done
  sent_own : (s : StreamsState) (id : ℕ) → Own s → Own (send_done s id)
  sent_own s id i = done_own (not (is_own s.side id) && is_done (receiving_status s id)) id (without_send s id) i

  -- a stream is blocked
  joined_own : (s : StreamsState) (id : ℕ) (h : SendHalf) → Own s → Own (joined s id h)
  joined_own s id h i = either h.blocked s _ i i

  -- a stream of the peer's is opened
  pub opened_own : (s : StreamsState) (id : ℕ) → Own s → Own (opened_by s id)
  opened_own s id i = go (opens s id)
    where
      by_dir : (dir : Dir) (n : ℕ) (o : Opening) → P o.own o.own_limit → P (with_remote dir n o).own (with_remote dir n o).own_limit
      by_dir Bi n o j = j
      by_dir Uni n o j = j

      go : (b : Bool) → Own (opened_if b id s)
      go true = by_dir (dir_of id) (index_of id + 1) s.opening i
      go false = i

  -- ---- calls of an application about what it sends

  accept_own : (dir : Dir) (s : StreamsState) → Own s → Own (after_accept dir s)
  accept_own dir s i = cond_both {A = Option ℕ × Opening} (nat_lt (of dir s.opening.accepted) (of dir s.opening.remote)) _ _ (λ t. Own (record s { opening = t.1 })) (λ is. i) (λ is. i)

  blocked_own : (o : Option SendHalf) (s : StreamsState) (p : Retransmits) (id : ℕ) → Own s → Own (blocked_at o s p id).state
  blocked_own None s p id i = i
  blocked_own (Some h) s p id i = either_streams (room s.sending == 0) (blocked_by_all s p id h) (blocked_by_own s p id h) (joined_own s id h i) (either_streams (was_said h.said h.limit) _ _ i i)

  accepted_own : (o : Option SendHalf) (s : StreamsState) (id : ℕ) (bytes : List ℕ) → Own s → Own (accepted_at o s id bytes)
  accepted_own None s id bytes i = i
  accepted_own (Some h) s id bytes i = either (length bytes == 0) s (grown_by h s id bytes) i i

  written_own : (r : Result ℕ WriteError) (s : StreamsState) (p : Retransmits) (id : ℕ) (bytes : List ℕ) → Own s → Own (written_by r s p id bytes).state
  written_own (Ok n) s p id bytes i = accepted_own (sending_half s id) s id (take n bytes) i
  written_own (Err write_errors.Blocked) s p id bytes i = blocked_own (sending_half s id) s p id i
  written_own (Err (write_errors.Stopped code)) s p id bytes i = i
  written_own (Err write_errors.ClosedStream) s p id bytes i = i
  written_own (Err write_errors.Memory) s p id bytes i = i

  write_own : (b : Bool) (r : Result ℕ WriteError) (s : StreamsState) (p : Retransmits) (id : ℕ) (bytes : List ℕ) → Own s → Own (after_write b r s p id bytes).state
  write_own true r s p id bytes i = written_own r s p id bytes i
  write_own false r s p id bytes i = i

  chunks_accepted_own : (o : Option SendHalf) (s : StreamsState) (id n : ℕ) (cs : List (List ℕ)) → Own s → Own (chunks_accepted_at o s id n cs)
  chunks_accepted_own None s id n cs i = i
  chunks_accepted_own (Some h) s id zero cs i = i
  chunks_accepted_own (Some h) s id (suc n) cs i = i

  chunks_own : (b : Bool) (r : Result Written WriteError) (s : StreamsState) (p : Retransmits) (id : ℕ) (cs : List (List ℕ)) → Own s → Own (after_write_chunks b r s p id cs).state
  chunks_own true (Ok w) s p id cs i = chunks_accepted_own (sending_half s id) s id w.bytes cs i
  chunks_own true (Err e) s p id cs i = written_own (Err e) s p id [] i
  chunks_own false r s p id cs i = i

  ended_own : (o : Option SendHalf) (s : StreamsState) (id : ℕ) → Own s → Own (ended_at o s id)
  ended_own None s id i = i
  ended_own (Some h) s id i = i

  finished_own : (r : Result (Unit {0}) FinishError) (s : StreamsState) (id : ℕ) → Own s → Own (finished_by r s id)
  finished_own (Ok x) s id i = ended_own (sending_half s id) s id i
  finished_own (Err e) s id i = i

  reset_own : (o : Option SendHalf) (s : StreamsState) (p : Retransmits) (id code : ℕ) → Own s → Own (reset_at o s p id code).state
  reset_own None s p id code i = i
  reset_own (Some h) s p id code i = either_streams (is_some h.reset) _ _ i i

  priority_own : (o : Option SendHalf) (s : StreamsState) (id : ℕ) → (priority : _) → Own s → Own (priority_at o s id priority)
  priority_own None s id priority i = i
  priority_own (Some h) s id priority i = i

  if_done : {A E : Type 0} (r : Result A E) (after before : Streams) → Own after.state → Own before.state → Own (if_ok r after before).state
  if_done (Ok x) after before now i = now
  if_done (Err error) after before now i = i

  -- a half that receives is done
  received_own : (s : StreamsState) (id : ℕ) → Own s → Own (recv_done s id)
  received_own s id i = done_own (not (is_own s.side id) && (not (is_two_way (dir_of id)) || is_done (sending_status s id))) id _ i

  begun_own : (r : Result (Unit {0}) ReadableError) (s : StreamsState) (id : ℕ) (ordered : Bool) → Own s → Own (begun_unless r s id ordered)
  begun_own (Err e) s id ordered i = i
  begun_own (Ok x) s id ordered i = go (receiving_half s id) ordered
    where
      go : (o : Option RecvHalf) (b : Bool) → Own (begun_at o s id b)
      go None b = i
      go (Some h) true = i
      go (Some h) false = i

  read_own : (answer : Result (Option Chunk) ReadError) (o : Option RecvHalf) (s : StreamsState) (id most : ℕ) → Own s → Own (read_by answer o s id most)
  read_own answer None s id most i = i
  read_own (Ok (Some chunk)) (Some h) s id most i = i
  read_own (Ok None) (Some h) s id most i = received_own s id i
  read_own (Err (read_errors.Reset code)) (Some h) s id most i = received_own s id i
  read_own (Err read_errors.Blocked) (Some h) s id most i = i
  read_own (Err read_errors.Memory) (Some h) s id most i = i

  next_own : (told : Told) (answer : Result (Option Chunk) ReadError) (s : StreamsState) (id most : ℕ) → Own s → Own (after_next told answer s id most)
  next_own told_bytes answer s id most i = read_own answer (receiving_half s id) s id most i
  next_own told_end answer s id most i = i
  next_own (told_reset code) answer s id most i = i

  nexts_own : (told : Told) (s : StreamsState) (id : ℕ) (mosts : List ℕ) (answers : List Next) → Own s → Own (after_nexts told s id mosts answers)
  nexts_own told s id (most ∷ mosts) (x ∷ answers) i = nexts_own (told_by x told) (after_next told x s id most) id mosts answers (next_own told x s id most i)
  nexts_own told s id [] answers i = i
  nexts_own told s id (most ∷ mosts) [] i = i

  stop_own : (o : Option RecvHalf) (s : StreamsState) (p : Retransmits) (id code : ℕ) → Own s → Own (stopped_at o s p id code).state
  stop_own None s p id code i = i
  stop_own (Some h) s p id code i = either_streams h.stopped (streams_of s p) (settled (stopped_if (is_some h.final) s id h) (with_stop h.reset id code p)) i (go (is_some h.final))
    where
      go : (b : Bool) → Own (stopped_if b s id h)
      go true = received_own (with_recv s id (stopped_now h)) id i
      go false = i

  reset_told_own : (r : Result (Option ℕ) ClosedStream) (s : StreamsState) (p : Retransmits) (id : ℕ) → Own s → Own (reset_told r s p id).state
  reset_told_own (Ok (Some code)) s p id i = received_own s id i
  reset_told_own (Ok None) s p id i = i
  reset_told_own (Err e) s p id i = i

  -- a call on streams that opens none
  on_streams_own : (b : Bool) (t : Streams) (call : Call) (a : Answer) → opens_one call ≡ false → IsStreamAnswer b t.state call a → Own t.state → Own (after_on_streams b t call a).state
  on_streams_own b t (calls.Open dir) a apart is i = cc
  on_streams_own b t (calls.Write id bytes) a apart (inl is) i = subst (λ (x : Answer). Own (after_on_streams b t (calls.Write id bytes) x).state) (sym is) (write_own b (write_answer b t.state id (length bytes)) t.state t.pending id bytes i)
  on_streams_own b t (calls.Write id bytes) a apart (inr is) i = subst (λ (x : Answer). Own (after_on_streams b t (calls.Write id bytes) x).state) (sym is) (write_own b (Err write_errors.Memory) t.state t.pending id bytes i)
  on_streams_own b t (calls.WriteChunks id chunks) a apart (inl is) i = subst (λ (x : Answer). Own (after_on_streams b t (calls.WriteChunks id chunks) x).state) (sym is) (chunks_own b (write_chunks_answer b t.state id chunks.items) t.state t.pending id chunks.items i)
  on_streams_own b t (calls.WriteChunks id chunks) a apart (inr is) i = subst (λ (x : Answer). Own (after_on_streams b t (calls.WriteChunks id chunks) x).state) (sym is) (chunks_own b (Err write_errors.Memory) t.state t.pending id chunks.items i)
  on_streams_own b t (calls.Finish id) a apart (inl is) i = subst (λ (x : Answer). Own (after_on_streams b t (calls.Finish id) x).state) (sym is) (finished_own (finish_answer t.state id) t.state id i)
  on_streams_own b t (calls.Finish id) a apart (inr is) i = subst (λ (x : Answer). Own (after_on_streams b t (calls.Finish id) x).state) (sym is) i
  on_streams_own b t (calls.Reset id code) a apart (inl is) i = subst (λ (x : Answer). Own (after_on_streams b t (calls.Reset id code) x).state) (sym is) (if_done (reset_answer t.state id) (after_reset t.state t.pending id code) t (reset_own (sending_half t.state id) t.state t.pending id code i) i)
  on_streams_own b t (calls.Reset id code) a apart (inr is) i = subst (λ (x : Answer). Own (after_on_streams b t (calls.Reset id code) x).state) (sym is) i
  on_streams_own b t (calls.SetPriority id priority) a apart (inl is) i = subst (λ (x : Answer). Own (after_on_streams b t (calls.SetPriority id priority) x).state) (sym is) (if_done (set_priority_answer t.state id) (record t { state = after_set_priority t.state id priority }) t (priority_own (sending_half t.state id) t.state id priority i) i)
  on_streams_own b t (calls.SetPriority id priority) a apart (inr is) i = subst (λ (x : Answer). Own (after_on_streams b t (calls.SetPriority id priority) x).state) (sym is) i
  on_streams_own b t (calls.Accept dir) a apart is i = accept_own dir t.state i
  on_streams_own b t (calls.Read read) (answers.Read (Ok said)) apart is i = nexts_own told_bytes (after_read_begun t.state read.id read.ordered) read.id read.nexts.items said (begun_own (read_answer t.state read.id read.ordered) t.state read.id read.ordered i)
  on_streams_own b t (calls.Read read) (answers.Read (Err error)) apart is i = i
  on_streams_own b t (calls.Read read) a apart is i = absurd is
  on_streams_own b t (calls.Stop id code) a apart (inl is) i = subst (λ (x : Answer). Own (after_on_streams b t (calls.Stop id code) x).state) (sym is) (if_done (stop_answer t.state id) (after_stop t.state t.pending id code) t (stop_own (receiving_half t.state id) t.state t.pending id code i) i)
  on_streams_own b t (calls.Stop id code) a apart (inr is) i = subst (λ (x : Answer). Own (after_on_streams b t (calls.Stop id code) x).state) (sym is) i
  on_streams_own b t (calls.ReceivedReset id) a apart is i = reset_told_own (received_reset_answer t.state id) t.state t.pending id i
  on_streams_own b t call a apart is i = absurd is

  -- ---- what is told, acknowledged and lost

  behind_own : (o : Option ℕ) (s : StreamsState) → Own s → Own (told_behind o s).state
  behind_own (Some id) s i = i
  behind_own None s i = i

  polled_own : (s : StreamsState) → Own s → Own (polled s).state
  polled_own s i = cond_both s.events.opened.bi _ _ (λ (t : Telling). Own t.state) (λ is. i)
      (λ is. cond_both s.events.opened.uni _ _ (λ (t : Telling). Own t.state) (λ is. i)
      (λ is. cond_both (room s.sending == 0) _ _ (λ (t : Telling). Own t.state) (λ is. i) (λ is. behind_own (passed s.sending.blocked s.sending.halves.live).found (after_passing s (passed s.sending.blocked s.sending.halves.live)) i)))

  lost_own : (o : Option SendHalf) (s : StreamsState) (m : StreamMeta) → Own s → Own (lost_at o s m)
  lost_own None s m i = i
  lost_own (Some h) s m i = either (is_some h.reset) s _ i i

  acked_own : (o : Option SendHalf) (s : StreamsState) (p : Retransmits) (m : StreamMeta) → Own s → Own (acked_at o s p m).state
  acked_own None s p m i = i
  acked_own (Some h) s p m i = either_streams (is_some h.reset) (streams_of s p) (acked_on h s p m) i
      (either_streams (is_acked (half_acked h m)) (settled (finished (replaced s m.id (half_acked h m)) m.id) p) (streams_of (replaced s m.id (half_acked h m)) p) (sent_own (replaced s m.id (half_acked h m)) m.id i) i)

  reset_acked_own : (o : Option SendHalf) (s : StreamsState) (p : Retransmits) (id : ℕ) → Own s → Own (reset_acked_at o s p id).state
  reset_acked_own None s p id i = i
  reset_acked_own (Some h) s p id i = either_streams (is_some h.reset) (settled (send_done s id) p) (streams_of s p) (sent_own s id i) i

  settling : Settling (λ (e : End). Own e.streams)
  settling (steps.reset id) e i = reset_acked_own (sent_half e.streams id) e.streams e.waiting.frames id i
  settling (steps.acked m) e i = acked_own (sent_half e.streams m.id) e.streams e.waiting.frames m i
  settling (steps.lost m) e i = lost_own (sent_half e.streams m.id) e.streams m i
  settling s e i = i

  -- ---- calls

  -- what goes opens none
  composed_own : (e : End) → Own e.streams → Own (poll.composed e).end.streams
  composed_own e i = by_writing (λ (d : poll.Draft). Own d.end.streams) keep e i
    where
      keep : Writing (λ (d : poll.Draft). Own d.end.streams)
      keep (puts.control kind f) d may j = by_tells Own d.end.streams j j (λ id. j) (λ dir. j) (λ limit. j) (λ id limit. j) f
      keep p d may j = j

  -- any call but a delivery, and one that opens a stream
  pub call_own : (p : Policy) (e : End) (theirs : List (List ℕ)) (call : Call) (a : Answer) → is_delivery call ≡ false → opens_one call ≡ false → IsAnswer p e theirs call a → Own e.streams → Own (after_call p e theirs call a).streams
  call_own p e theirs call a apart quiet is i = by_call p e theirs (λ (f : End). Own f.streams) call a (record {
    same = i;
    on_streams = λ on answer. on_streams_own (is_open e.closing.state) (streams_at e) call a quiet (answer is) i;
    on_messages = λ on answer. i;
    pings = i;
    closes = λ reason f now own. i;
    waits = λ now b set. by_waits (λ (f : End). Own f.streams) b (with_closing e (ticked e.closing now)) i i;
    changes_id = λ uses answer. by_next_id (λ (f : End). Own f.streams) e a i (λ c. i) (λ c most. i);
    says_handshake = λ says answer. by_done (λ (f : End). Own f.streams) e a i i;
    times = λ now expiry set. by_expired p.words e now (λ (f : End). Own f.streams) (λ pending tracking timers waits asked runs packets. i) (λ pending timers waits asked runs. losses_keep (λ (x : End). Own x.streams) settling (with_closing e (ticked e.closing now)) i) (λ x j. j) expiry;
    polls = λ now set. poll_state Own p e now composed_own i;
    hears = λ arrival d set. cc;
    tells = λ asks. by_event e (λ (f : End). Own f.streams) i i (λ told. polled_own e.streams i);
  })

  -- ---- frames that come

  -- a half takes bytes again
  again_own : (t : StreamsState) (id : ℕ) (h : SendHalf) → Own t → Own (writable_again t id h)
  again_own t id h i = either (room t.sending == 0) (joined t id h) _ (joined_own t id h i) i

  limit_own : (o : Option SendHalf) (t : StreamsState) (id limit : ℕ) → Own t → Own (limit_at o t id limit)
  limit_own None t id limit i = i
  limit_own (Some h) t id limit i = either (nat_lt h.limit limit) (limit_raised t id h limit) t
      (either (is_used_up h) (writable_again (with_send t id (limited_half h limit)) id (limited_half h limit)) (with_send t id (limited_half h limit)) (again_own (with_send t id (limited_half h limit)) id (limited_half h limit) i) i) i

  limit_unless_own : (o : Option Breach) (s : StreamsState) (id limit : ℕ) → Own s → Own (limit_unless o s id limit)
  limit_unless_own (Some b) s id limit i = i
  limit_unless_own None s id limit i = limit_own (sending_for s id) (opened_by s id) id limit (opened_own s id i)

  stop_at_own : (o : Option SendHalf) (t : StreamsState) (id code : ℕ) → Own t → Own (stop_at o t id code)
  stop_at_own None t id code i = i
  stop_at_own (Some h) t id code i = either (is_some h.stopped) t _ i i

  stop_unless_own : (o : Option Breach) (s : StreamsState) (f : StopSendingValue) → Own s → Own (stop_unless o s f)
  stop_unless_own (Some b) s f i = i
  stop_unless_own None s f i = stop_at_own (sending_for s f.id) (opened_by s f.id) f.id f.code (opened_own s f.id i)

  -- a half that receives has another value
  value_own : (s : StreamsState) (id : ℕ) (old new : RecvHalf) (tells : Bool) → Own s → Own (renewed s id old new tells)
  value_own s id old new tells i = told (tells && not (old.stopped || opens s id)) (ended_if (new.stopped && is_some new.final) id (with_recv (opened_by s id) id new)) (last (new.stopped && is_some new.final) (opened_own s id i))
    where
      last : (b : Bool) → Own (opened_by s id) → Own (ended_if b id (with_recv (opened_by s id) id new))
      last true j = received_own (with_recv (opened_by s id) id new) id j
      last false j = j

      told : (b : Bool) (t : StreamsState) → Own t → Own (readable_if b id t)
      told true t j = j
      told false t j = j

  -- a frame opens none of this end's, and tells of more only where it says so
  pub frame_own : (f : FrameValue) (e : End) → ((g : StreamCountValue) → f ≡ max_streams g → Own (after_max_streams (dir_named g.one_way) g.count e.streams)) → Own e.streams → Own (take_frame f e).end.streams
  frame_own f e counts i = go f refl
    where
      acked : (a : AckValue) (b : Bool) → Own (ack_taken b a e).end.streams
      acked a true = i
      acked a false = acked_keeps (λ (x : End). Own x.streams) settling (is_above e.numbers.largest_acked a.largest) a (named a e) i

      go : (h : FrameValue) → f ≡ h → Own (take_frame h e).end.streams
      go (stream g) is = stream_cases e.streams e.waiting.frames g Own (λ b is. i) (λ within none. i) (λ h within part u. value_own e.streams g.id h (after_frame h g) true i)
      go (reset_stream g) is = reset_cases e.streams e.waiting.frames g Own (λ b is. i) (λ within none. i) (λ h within part u. value_own e.streams g.id h (after_reset_stream h g.code g.final_size) (not (is_some h.reset)) i)
      go (stop_sending g) is = stop_unless_own (sending_refusal e.streams g.id) e.streams g i
      go (max_data limit) is = i
      go (max_stream_data g) is = limit_unless_own (sending_refusal e.streams g.id) e.streams g.id g.limit i
      go (max_streams g) is = counts g is
      go (ack a) is = acked a (names_ungiven a e)
      go (datagram m) is = message_leaves (λ (x : End). Own x.streams) m e i (λ left. i)
      go (new_connection_id g) is = apart_leaves (λ (x : End). Own x.streams) (new_connection_id g) e tt (λ c. i) (λ c most. i)
      go (retire_connection_id n) is = apart_leaves (λ (x : End). Own x.streams) (retire_connection_id n) e tt (λ c. i) (λ c most. i)
      go (path_response token) is = apart_leaves (λ (x : End). Own x.streams) (path_response token) e tt (λ c. i) (λ c most. i)
      go handshake_done is = apart_leaves (λ (x : End). Own x.streams) handshake_done e tt (λ c. i) (λ c most. i)
      go (ack_frequency r) is = apart_leaves (λ (x : End). Own x.streams) (ack_frequency r) e tt (λ c. i) (λ c most. i)
      go other is = i
