-- What an end received, and which limits its peer was told, changes only where a half that receives
-- changes or is done, and where a frame that tells a limit goes: all else leaves both.
use Rattle.std.proofs.Common.{◌≡◌, ℕ, zero, suc, ◌+◌, Bool, true, false, not, ◌==◌, List, [], ◌∷◌, length, take, Option, Some, None, Result, Ok, Err, refl, sym, ap, subst, inl, inr, ◌⊎◌}
use Rattle.std.specs.Prelude.{nat_lt, nat_le, if◌then◌else◌, ◌&&◌, ◌||◌}
use Rattle.std.specs.Option.{is_some}
use Rattle.std.proofs.lemmas.Bool.{cond_both, and_parts}
use Rattle.quic_wire_core.specs.declared.stream_id.Side.{Side}
use Rattle.quic_wire_core.specs.declared.stream_id.Dir.{Dir}
use Rattle.quic_wire_core.specs.declared.stream_id.Dir.TheVariants.{Bi, Uni}
use Rattle.quic_wire_core.specs.StreamId.{dir_of, index_of}
use Rattle.quic_wire.specs.Value.{FrameValue, StreamValue, ResetStreamValue, StopSendingValue, AckValue, ack, stream, reset_stream, stop_sending, max_data, max_stream_data, max_streams, datagram, new_connection_id, retire_connection_id, path_response, handshake_done, ack_frequency}
use Rattle.quic_assembler.specs.declared.assembler.Chunk.{Chunk}
use Rattle.quic_assembler.specs.Arrived.{bytes_read_of, given_by}
use Rattle.quic_send_buffer.specs.declared.stream_meta.StreamMeta.{StreamMeta}
use Rattle.quic_streams_parts.specs.declared.answers.Breach.{Breach}
use Rattle.quic_streams_parts.specs.declared.answers.ReadError.{ReadError}
use Rattle.quic_streams_parts.specs.declared.answers.ReadError.TheVariants as read_errors
use Rattle.quic_streams_parts.specs.declared.answers.ReadableError.{ReadableError}
use Rattle.quic_streams_parts.specs.declared.answers.WriteError.{WriteError}
use Rattle.quic_streams_parts.specs.declared.answers.WriteError.TheVariants as write_errors
use Rattle.quic_streams_parts.specs.declared.answers.FinishError.{FinishError}
use Rattle.quic_streams_parts.specs.declared.answers.ClosedStream.{ClosedStream}
use Rattle.quic_streams_parts.specs.declared.answers.Written.{Written}
use Rattle.quic_streams_parts.specs.Dirs.{Counts, of, is_own}
use Rattle.quic_streams_parts.specs.Table.{at}
use Rattle.quic_streams_parts.specs.SendHalf.{SendHalf, was_said, is_acked, half_acked}
use Rattle.quic_streams_parts.specs.RecvHalf.{RecvHalf, new_recv_half, next_of, begun, read_on, stopped_now, after_frame, after_reset_stream, end_of, is_read_up, at_end, chunk_or_end, next_unless}
use Rattle.quic_streams_halves.specs.Halves.{is_done}
use Rattle.quic_retransmits.specs.Retransmits.{Retransmits}
use Rattle.quic_streams_state.specs.declared.state.StreamsState.{StreamsState}
use Rattle.quic_streams_state.specs.State.{Streams, Opening, Receiving, streams_of, room, first_window, sending_half, receiving_half, receiving_status, with_send, with_recv, done_if, without_send, send_done, recv_done}
use Rattle.quic_streams_state.specs.Limits.{settled, most_streams}
use Rattle.quic_streams_state.specs.Opening.{opens, with_remote, opened_if, opened_by, beyond, after_open, after_accept, with_own_limit, after_max_streams, sending_refusal}
use Rattle.quic_streams_state.specs.Writing.{write_answer, grown_by, accepted_at, blocked_by_all, blocked_by_own, blocked_at, written_by, after_write, write_chunks_answer, chunks_accepted_at, after_write_chunks, finish_answer, ended_at, finished_by, reset_at, reset_answer, after_reset, priority_at, set_priority_answer, after_set_priority, replaced}
use Rattle.quic_streams_state.specs.Reading.{Told, told_bytes, told_end, told_reset, told_by, read_answer, begun_at, begun_unless, after_read_begun, next_at, next_answer, read_by, after_next, stop_answer, stopped_if, stopped_at, after_stop, reset_of, reset_told, after_received_reset}
use Rattle.quic_streams_state.specs.Taking.{joined, writable_again, is_used_up, limited_half, limit_raised, limit_at, limit_unless, stop_at, stop_unless, sending_for, readable_if, ended_if, renewed, part_for, after_stream, after_reset_frame}
use Rattle.quic_streams_state.specs.Acked.{sent_half, finished, acked_on, acked_at, reset_acked_at, lost_at}
use Rattle.quic_streams_state.specs.Telling.{Telling, passed, after_passing, told_behind, polled}
use Rattle.quic_streams_laws.specs.ContentLaws.{by_next_answer}
use Rattle.quic_streams_laws.specs.KeepingLaws.{Unbroken, by_option, at-half, stream_cases, reset_cases}
use Rattle.quic_streams_laws.specs.LimitedLaws.{WasReceiving, in_use, unused, was_receiving}
use Rattle.quic_machine.specs.declared.run.Call.{Call}
use Rattle.quic_machine.specs.declared.run.Call.TheVariants as calls
use Rattle.quic_machine.specs.declared.run.Answer.{Answer}
use Rattle.quic_machine.specs.declared.run.Answer.TheVariants as answers
use Rattle.quic_machine.specs.Policy.{Policy}
use Rattle.quic_machine.specs.Tracking.{dir_named}
use Rattle.quic_machine.specs.Calls.{is_open, AreNexts, after_nexts}
use Rattle.quic_machine.specs.StreamCalls.{if_ok, after_on_streams, IsStreamAnswer}
use Rattle.quic_machine.specs.End.{End, with_closing, streams_at}
use Rattle.quic_machine.specs.Closing.{ticked}
use Rattle.quic_machine.specs.Receive.{is_above, names_ungiven, take_frame}
use Rattle.quic_machine.specs.Poll as poll
use Rattle.quic_machine.specs.LeaveCases.{by_expired, by_event}
use Rattle.quic_machine.specs.CallCases.{is_delivery, is_poll, by_call, by_done}
use Rattle.quic_machine.specs.FrameCases.{Settling, named, ack_taken, acked_keeps, losses_keep, message_leaves, frames_leave, apart_leaves}
use Rattle.quic_machine.specs.FrameCases as frame_cases
use Rattle.quic_machine.specs.Steps as steps
use Rattle.quic_machine.specs.Machine.{IsAnswer, after_call}
use Rattle.quic_headline.specs.Runs.{Next, In}
use Rattle.quic_headline.proofs.Packets.Apart.{by_waits, by_next_id}
use Rattle.quic_headline.proofs.Halves.QuietSteps.{is_reading}
use Rattle.quic_headline.proofs.Halves.ReadCalls.{IsKept}

-- a fact of an end's side, of what it received, and of the counts that its peer was told and that
-- it lets the peer have
module _ (K : Side → Receiving → Counts → Counts → Type 0) where
  abbrev pub Of : StreamsState → Type 0
  Of s = K s.side s.receiving s.opening.announced s.opening.configured

  -- ---- small steps

  either : (b : Bool) (x y : StreamsState) → Of x → Of y → Of (if b then x else y)
  either true x y i j = i
  either false x y i j = j

  either_streams : (b : Bool) (x y : Streams) → Of x.state → Of y.state → Of (if b then x else y).state
  either_streams true x y i j = i
  either_streams false x y i j = j

  done_left : (b : Bool) (id : ℕ) (s : StreamsState) → Of s → Of (done_if b id s)
  done_left true id s i = i
  done_left false id s i = i

  -- a half that sends is done
  sent_left : (s : StreamsState) (id : ℕ) → Of s → Of (send_done s id)
  sent_left s id i = done_left (not (is_own s.side id) && is_done (receiving_status s id)) id (without_send s id) i

  -- a stream is blocked
  joined_left : (s : StreamsState) (id : ℕ) (h : SendHalf) → Of s → Of (joined s id h)
  joined_left s id h i = either h.blocked s _ i i

  -- a stream of the peer's is opened
  pub opened_left : (s : StreamsState) (id : ℕ) → Of s → Of (opened_by s id)
  opened_left s id i = go (opens s id)
    where
      by_dir : (dir : Dir) (n : ℕ) (o : Opening) → K s.side s.receiving o.announced o.configured → K s.side s.receiving (with_remote dir n o).announced (with_remote dir n o).configured
      by_dir Bi n o j = j
      by_dir Uni n o j = j

      go : (b : Bool) → Of (opened_if b id s)
      go true = by_dir (dir_of id) (index_of id + 1) s.opening i
      go false = i

  -- ---- calls of an application about what it sends

  open_left : (b : Bool) (dir : Dir) (s : StreamsState) → Of s → Of (after_open b dir s)
  open_left true dir s i = cond_both {A = Option ℕ × Opening} (nat_lt (of dir s.opening.own) (of dir s.opening.own_limit)) _ _ (λ t. Of (record s { opening = t.1 })) (λ is. i) (λ is. i)
  open_left false dir s i = i

  accept_left : (dir : Dir) (s : StreamsState) → Of s → Of (after_accept dir s)
  accept_left dir s i = cond_both {A = Option ℕ × Opening} (nat_lt (of dir s.opening.accepted) (of dir s.opening.remote)) _ _ (λ t. Of (record s { opening = t.1 })) (λ is. i) (λ is. i)

  blocked_left : (o : Option SendHalf) (s : StreamsState) (p : Retransmits) (id : ℕ) → Of s → Of (blocked_at o s p id).state
  blocked_left None s p id i = i
  blocked_left (Some h) s p id i = either_streams (room s.sending == 0) (blocked_by_all s p id h) (blocked_by_own s p id h) (joined_left s id h i) (either_streams (was_said h.said h.limit) _ _ i i)

  accepted_left : (o : Option SendHalf) (s : StreamsState) (id : ℕ) (bytes : List ℕ) → Of s → Of (accepted_at o s id bytes)
  accepted_left None s id bytes i = i
  accepted_left (Some h) s id bytes i = either (length bytes == 0) s (grown_by h s id bytes) i i

  written_left : (r : Result ℕ WriteError) (s : StreamsState) (p : Retransmits) (id : ℕ) (bytes : List ℕ) → Of s → Of (written_by r s p id bytes).state
  written_left (Ok n) s p id bytes i = accepted_left (sending_half s id) s id (take n bytes) i
  written_left (Err write_errors.Blocked) s p id bytes i = blocked_left (sending_half s id) s p id i
  written_left (Err (write_errors.Stopped code)) s p id bytes i = i
  written_left (Err write_errors.ClosedStream) s p id bytes i = i
  written_left (Err write_errors.Memory) s p id bytes i = i

  write_left : (b : Bool) (r : Result ℕ WriteError) (s : StreamsState) (p : Retransmits) (id : ℕ) (bytes : List ℕ) → Of s → Of (after_write b r s p id bytes).state
  write_left true r s p id bytes i = written_left r s p id bytes i
  write_left false r s p id bytes i = i

  chunks_accepted_left : (o : Option SendHalf) (s : StreamsState) (id n : ℕ) (cs : List (List ℕ)) → Of s → Of (chunks_accepted_at o s id n cs)
  chunks_accepted_left None s id n cs i = i
  chunks_accepted_left (Some h) s id zero cs i = i
  chunks_accepted_left (Some h) s id (suc n) cs i = i

  chunks_left : (b : Bool) (r : Result Written WriteError) (s : StreamsState) (p : Retransmits) (id : ℕ) (cs : List (List ℕ)) → Of s → Of (after_write_chunks b r s p id cs).state
  chunks_left true (Ok w) s p id cs i = chunks_accepted_left (sending_half s id) s id w.bytes cs i
  chunks_left true (Err e) s p id cs i = written_left (Err e) s p id [] i
  chunks_left false r s p id cs i = i

  ended_left : (o : Option SendHalf) (s : StreamsState) (id : ℕ) → Of s → Of (ended_at o s id)
  ended_left None s id i = i
  ended_left (Some h) s id i = i

  finished_left : (r : Result (Unit {0}) FinishError) (s : StreamsState) (id : ℕ) → Of s → Of (finished_by r s id)
  finished_left (Ok x) s id i = ended_left (sending_half s id) s id i
  finished_left (Err e) s id i = i

  reset_left : (o : Option SendHalf) (s : StreamsState) (p : Retransmits) (id code : ℕ) → Of s → Of (reset_at o s p id code).state
  reset_left None s p id code i = i
  reset_left (Some h) s p id code i = either_streams (is_some h.reset) _ _ i i

  priority_left : (o : Option SendHalf) (s : StreamsState) (id : ℕ) → (priority : _) → Of s → Of (priority_at o s id priority)
  priority_left None s id priority i = i
  priority_left (Some h) s id priority i = i

  if_done : {A E : Type 0} (r : Result A E) (after before : Streams) → Of after.state → Of before.state → Of (if_ok r after before).state
  if_done (Ok x) after before now i = now
  if_done (Err error) after before now i = i

  -- a call on streams by which nothing is read
  on_streams_left : (b : Bool) (t : Streams) (call : Call) (a : Answer) → is_reading call ≡ false → IsStreamAnswer b t.state call a → Of t.state → Of (after_on_streams b t call a).state
  on_streams_left b t (calls.Open dir) a apart is i = open_left b dir t.state i
  on_streams_left b t (calls.Write id bytes) a apart (inl is) i = subst (λ (x : Answer). Of (after_on_streams b t (calls.Write id bytes) x).state) (sym is) (write_left b (write_answer b t.state id (length bytes)) t.state t.pending id bytes i)
  on_streams_left b t (calls.Write id bytes) a apart (inr is) i = subst (λ (x : Answer). Of (after_on_streams b t (calls.Write id bytes) x).state) (sym is) (write_left b (Err write_errors.Memory) t.state t.pending id bytes i)
  on_streams_left b t (calls.WriteChunks id chunks) a apart (inl is) i = subst (λ (x : Answer). Of (after_on_streams b t (calls.WriteChunks id chunks) x).state) (sym is) (chunks_left b (write_chunks_answer b t.state id chunks.items) t.state t.pending id chunks.items i)
  on_streams_left b t (calls.WriteChunks id chunks) a apart (inr is) i = subst (λ (x : Answer). Of (after_on_streams b t (calls.WriteChunks id chunks) x).state) (sym is) (chunks_left b (Err write_errors.Memory) t.state t.pending id chunks.items i)
  on_streams_left b t (calls.Finish id) a apart (inl is) i = subst (λ (x : Answer). Of (after_on_streams b t (calls.Finish id) x).state) (sym is) (finished_left (finish_answer t.state id) t.state id i)
  on_streams_left b t (calls.Finish id) a apart (inr is) i = subst (λ (x : Answer). Of (after_on_streams b t (calls.Finish id) x).state) (sym is) i
  on_streams_left b t (calls.Reset id code) a apart (inl is) i = subst (λ (x : Answer). Of (after_on_streams b t (calls.Reset id code) x).state) (sym is) (if_done (reset_answer t.state id) (after_reset t.state t.pending id code) t (reset_left (sending_half t.state id) t.state t.pending id code i) i)
  on_streams_left b t (calls.Reset id code) a apart (inr is) i = subst (λ (x : Answer). Of (after_on_streams b t (calls.Reset id code) x).state) (sym is) i
  on_streams_left b t (calls.SetPriority id priority) a apart (inl is) i = subst (λ (x : Answer). Of (after_on_streams b t (calls.SetPriority id priority) x).state) (sym is) (if_done (set_priority_answer t.state id) (record t { state = after_set_priority t.state id priority }) t (priority_left (sending_half t.state id) t.state id priority i) i)
  on_streams_left b t (calls.SetPriority id priority) a apart (inr is) i = subst (λ (x : Answer). Of (after_on_streams b t (calls.SetPriority id priority) x).state) (sym is) i
  on_streams_left b t (calls.Accept dir) a apart is i = cc
  on_streams_left b t (calls.Read read) a apart is i = cc
  on_streams_left b t (calls.Stop id code) a apart is i = cc
  on_streams_left b t (calls.ReceivedReset id) a apart is i = cc
  on_streams_left b t call a apart is i = absurd is

  -- ---- what is told, acknowledged and lost

  behind_left : (o : Option ℕ) (s : StreamsState) → Of s → Of (told_behind o s).state
  behind_left (Some id) s i = i
  behind_left None s i = i

  polled_left : (s : StreamsState) → Of s → Of (polled s).state
  polled_left s i = cond_both s.events.opened.bi _ _ (λ (t : Telling). Of t.state) (λ is. i)
      (λ is. cond_both s.events.opened.uni _ _ (λ (t : Telling). Of t.state) (λ is. i)
      (λ is. cond_both (room s.sending == 0) _ _ (λ (t : Telling). Of t.state) (λ is. i) (λ is. behind_left (passed s.sending.blocked s.sending.halves.live).found (after_passing s (passed s.sending.blocked s.sending.halves.live)) i)))

  lost_left : (o : Option SendHalf) (s : StreamsState) (m : StreamMeta) → Of s → Of (lost_at o s m)
  lost_left None s m i = i
  lost_left (Some h) s m i = either (is_some h.reset) s _ i i

  acked_left : (o : Option SendHalf) (s : StreamsState) (p : Retransmits) (m : StreamMeta) → Of s → Of (acked_at o s p m).state
  acked_left None s p m i = i
  acked_left (Some h) s p m i = either_streams (is_some h.reset) (streams_of s p) (acked_on h s p m) i
      (either_streams (is_acked (half_acked h m)) (settled (finished (replaced s m.id (half_acked h m)) m.id) p) (streams_of (replaced s m.id (half_acked h m)) p) (sent_left (replaced s m.id (half_acked h m)) m.id i) i)

  reset_acked_left : (o : Option SendHalf) (s : StreamsState) (p : Retransmits) (id : ℕ) → Of s → Of (reset_acked_at o s p id).state
  reset_acked_left None s p id i = i
  reset_acked_left (Some h) s p id i = either_streams (is_some h.reset) (settled (send_done s id) p) (streams_of s p) (sent_left s id i) i

  pub settling : Settling (λ (e : End). Of e.streams)
  settling (steps.reset id) e i = reset_acked_left (sent_half e.streams id) e.streams e.waiting.frames id i
  settling (steps.acked m) e i = acked_left (sent_half e.streams m.id) e.streams e.waiting.frames m i
  settling (steps.lost m) e i = lost_left (sent_half e.streams m.id) e.streams m i
  settling s e i = i

  -- ---- calls

  -- any call but a delivery, by which nothing is read; of a poll as is shown
  pub quiet_left : (p : Policy) (e : End) (theirs : List (List ℕ)) (call : Call) (a : Answer) → is_delivery call ≡ false → is_reading call ≡ false → IsAnswer p e theirs call a → ((now : ℕ) → is_poll call ≡ true → Of (poll.polled p e now).end.streams) → Of e.streams → Of (after_call p e theirs call a).streams
  quiet_left p e theirs call a apart quiet is polls i = by_call p e theirs (λ (f : End). Of f.streams) call a (record {
    same = i;
    on_streams = λ on answer. on_streams_left (is_open e.closing.state) (streams_at e) call a quiet (answer is) i;
    on_messages = λ on answer. i;
    pings = i;
    closes = λ reason f now own. i;
    waits = λ now b set. by_waits (λ (f : End). Of f.streams) b (with_closing e (ticked e.closing now)) i i;
    changes_id = λ uses answer. by_next_id (λ (f : End). Of f.streams) e a i (λ c. i) (λ c most. i);
    says_handshake = λ says answer. by_done (λ (f : End). Of f.streams) e a i i;
    times = λ now expiry set. by_expired p.words e now (λ (f : End). Of f.streams) (λ pending tracking timers waits asked runs packets. i) (λ pending timers waits asked runs. losses_keep (λ (x : End). Of x.streams) settling (with_closing e (ticked e.closing now)) i) (λ x j. j) expiry;
    polls = polls;
    hears = λ arrival d set. cc;
    tells = λ asks. by_event e (λ (f : End). Of f.streams) i i (λ told. polled_left e.streams i);
  })

  -- ---- frames that come

  -- a half takes bytes again
  again_left : (t : StreamsState) (id : ℕ) (h : SendHalf) → Of t → Of (writable_again t id h)
  again_left t id h i = either (room t.sending == 0) (joined t id h) _ (joined_left t id h i) i

  limit_left : (o : Option SendHalf) (t : StreamsState) (id limit : ℕ) → Of t → Of (limit_at o t id limit)
  limit_left None t id limit i = i
  limit_left (Some h) t id limit i = either (nat_lt h.limit limit) (limit_raised t id h limit) t
      (either (is_used_up h) (writable_again (with_send t id (limited_half h limit)) id (limited_half h limit)) (with_send t id (limited_half h limit)) (again_left (with_send t id (limited_half h limit)) id (limited_half h limit) i) i) i

  limit_unless_left : (o : Option Breach) (s : StreamsState) (id limit : ℕ) → Of s → Of (limit_unless o s id limit)
  limit_unless_left (Some b) s id limit i = i
  limit_unless_left None s id limit i = limit_left (sending_for s id) (opened_by s id) id limit (opened_left s id i)

  stop_at_left : (o : Option SendHalf) (t : StreamsState) (id code : ℕ) → Of t → Of (stop_at o t id code)
  stop_at_left None t id code i = i
  stop_at_left (Some h) t id code i = either (is_some h.stopped) t _ i i

  stop_unless_left : (o : Option Breach) (s : StreamsState) (f : StopSendingValue) → Of s → Of (stop_unless o s f)
  stop_unless_left (Some b) s f i = i
  stop_unless_left None s f i = stop_at_left (sending_for s f.id) (opened_by s f.id) f.id f.code (opened_left s f.id i)

  count_left : (dir : Dir) (count : ℕ) (s : StreamsState) → Of s → Of (after_max_streams dir count s)
  count_left dir count s i = either (nat_le count most_streams && nat_lt (of dir s.opening.own_limit) count) (with_own_limit dir count s) s i i

  -- a frame; of STREAM and RESET_STREAM as is shown
  pub frame_left : (f : FrameValue) (e : End) → ((g : StreamValue) → f ≡ stream g → Of (after_stream e.streams e.waiting.frames g).state) → ((g : ResetStreamValue) → f ≡ reset_stream g → Of (after_reset_frame e.streams e.waiting.frames g).state) → Of e.streams → Of (take_frame f e).end.streams
  frame_left f e brings resets i = go f brings resets
    where
      acked : (a : AckValue) (b : Bool) → Of (ack_taken b a e).end.streams
      acked a true = i
      acked a false = acked_keeps (λ (x : End). Of x.streams) settling (is_above e.numbers.largest_acked a.largest) a (named a e) i

      go : (f : FrameValue) → ((g : StreamValue) → f ≡ stream g → Of (after_stream e.streams e.waiting.frames g).state) → ((g : ResetStreamValue) → f ≡ reset_stream g → Of (after_reset_frame e.streams e.waiting.frames g).state) → Of (take_frame f e).end.streams
      go (stream g) brings resets = brings g refl
      go (reset_stream g) brings resets = resets g refl
      go (stop_sending g) brings resets = stop_unless_left (sending_refusal e.streams g.id) e.streams g i
      go (max_data limit) brings resets = i
      go (max_stream_data g) brings resets = limit_unless_left (sending_refusal e.streams g.id) e.streams g.id g.limit i
      go (max_streams g) brings resets = count_left (dir_named g.one_way) g.count e.streams i
      go (ack a) brings resets = acked a (names_ungiven a e)
      go (datagram m) brings resets = message_leaves (λ (x : End). Of x.streams) m e i (λ left. i)
      go (new_connection_id g) brings resets = apart_leaves (λ (x : End). Of x.streams) (new_connection_id g) e tt (λ c. i) (λ c most. i)
      go (retire_connection_id n) brings resets = apart_leaves (λ (x : End). Of x.streams) (retire_connection_id n) e tt (λ c. i) (λ c most. i)
      go (path_response token) brings resets = apart_leaves (λ (x : End). Of x.streams) (path_response token) e tt (λ c. i) (λ c most. i)
      go handshake_done brings resets = apart_leaves (λ (x : End). Of x.streams) handshake_done e tt (λ c. i) (λ c most. i)
      go (ack_frequency r) brings resets = apart_leaves (λ (x : End). Of x.streams) (ack_frequency r) e tt (λ c. i) (λ c most. i)
      go other brings resets = i

-- ---- halves that receive

-- what becomes of a half: it is read in no order, bytes of it are read, this end stops it, or a
-- frame comes of which G is known, and which breaks no rule
pub data Change (G : FrameValue → Type 0) (r : Receiving) (id : ℕ) (old new : RecvHalf) : Type 0 where
  begins : new ≡ begun old false → Change G r id old new
  reads : (most : ℕ) (c : Chunk) → next_of old most ≡ Ok (Some c) → new ≡ read_on old most → Change G r id old new
  stops : old.stopped ≡ false → new ≡ stopped_now old → Change G r id old new
  takes : (f : StreamValue) → G (stream f) → f.id ≡ id → Unbroken r old (end_of f) f.fin → new ≡ after_frame old f → Change G r id old new
  resets : (f : ResetStreamValue) → G (reset_stream f) → f.id ≡ id → Unbroken r old f.final_size true → new ≡ after_reset_stream old f.code f.final_size → Change G r id old new

-- nothing more comes of a half: its final size is known, or it was reset
abbrev pub IsLast : RecvHalf → Type 0
IsLast h = (is_some h.final ≡ true) ⊎ (is_some h.reset ≡ true)

-- a half that gives its end knows its final size
last_read : (o : Option ℕ) (n : ℕ) → is_read_up o n ≡ true → is_some o ≡ true
last_read None n is = cc
last_read (Some size) n is = refl

last_end : (h : RecvHalf) (most : ℕ) → next_of h most ≡ Ok None → IsLast h
last_end h most e = go h.reset refl e
  where
    ended : (b : Bool) → is_read_up h.final (bytes_read_of h.arrived) ≡ b → at_end b ≡ Ok None → IsLast h
    ended true is f = inl (last_read h.final (bytes_read_of h.arrived) is)
    ended false is f = cc

    given : (o : Option Chunk) → chunk_or_end o h ≡ Ok None → IsLast h
    given (Some chunk) f = cc
    given None f = ended (is_read_up h.final (bytes_read_of h.arrived)) refl f

    go : (o : Option ℕ) → h.reset ≡ o → next_unless o h most ≡ Ok None → IsLast h
    go (Some code) is f = inr (ap is_some is)
    go None is f = given (given_by h.arrived most) f

-- and one that gives its reset was reset
last_reset : (h : RecvHalf) (most code : ℕ) → next_of h most ≡ Err (read_errors.Reset code) → IsLast h
last_reset h most code e = go h.reset refl e
  where
    ended : (b : Bool) → at_end b ≡ Err (read_errors.Reset code) → IsLast h
    ended true f = cc
    ended false f = cc

    given : (o : Option Chunk) → chunk_or_end o h ≡ Err (read_errors.Reset code) → IsLast h
    given (Some chunk) f = cc
    given None f = ended (is_read_up h.final (bytes_read_of h.arrived)) f

    go : (o : Option ℕ) → h.reset ≡ o → next_unless o h most ≡ Err (read_errors.Reset code) → IsLast h
    go (Some c) is f = inr (ap is_some is)
    go None is f = given (given_by h.arrived most) f

-- a stream of the peer's is opened: what was received stays
pub opened_receiving : (s : StreamsState) (id : ℕ) → (opened_by s id).receiving ≡ s.receiving
opened_receiving s id = go (opens s id)
  where
    go : (b : Bool) → (opened_if b id s).receiving ≡ s.receiving
    go true = refl
    go false = refl

-- What each change of a half keeps, where I is known of the streams before it.
pub record Steps (G : FrameValue → Type 0) (I : StreamsState → Type 0) (K : Side → Receiving → Counts → Counts → Type 0) : Type 0 where
  pub known : (s : StreamsState) (id : ℕ) (old new : RecvHalf) → receiving_half s id ≡ Some old → Change G s.receiving id old new → I s → I (with_recv s id new)
  pub changes : (s : StreamsState) (id : ℕ) (old new : RecvHalf) → receiving_half s id ≡ Some old → Change G s.receiving id old new → I s → Of K s → Of K (with_recv s id new)
  pub ends : (s : StreamsState) (id : ℕ) (h : RecvHalf) → at s.receiving.halves.live id ≡ Some h → IsLast h → I s → Of K s → Of K (recv_done s id)

module _ (G : FrameValue → Type 0) (I : StreamsState → Type 0) (kept : IsKept I) (K : Side → Receiving → Counts → Counts → Type 0) (k : Steps G I K) where
  -- a half of which nothing more comes is in use
  ends_of : (s : StreamsState) (id : ℕ) (h : RecvHalf) → receiving_half s id ≡ Some h → IsLast h → I s → Of K s → Of K (recv_done s id)
  ends_of s id h e last known i = go (was_receiving s id h e)
    where
      fresh : (g : RecvHalf) (window : ℕ) → g ≡ new_recv_half window → IsLast g → ⊥
      fresh g window same (inl some) = let none : is_some g.final ≡ false = ap (λ (x : RecvHalf). is_some x.final) same in cc
      fresh g window same (inr some) = let none : is_some g.reset ≡ false = ap (λ (x : RecvHalf). is_some x.reset) same in cc

      go : WasReceiving s id h → Of K (recv_done s id)
      go (in_use is) = k.ends s id h is last known i
      go (unused is free same) = absurd (fresh h (first_window s.receiving) same last)

  -- a read begins
  begins_left : (s : StreamsState) (id : ℕ) (ordered : Bool) → I s → Of K s → Of K (after_read_begun s id ordered)
  begins_left s id ordered known i = go (read_answer s id ordered)
    where
      begun_left : (b : Bool) → Of K (begun_at (receiving_half s id) s id b)
      begun_left true = by_option (receiving_half s id) (λ o. Of K (begun_at o s id true)) (λ e. i) (λ h e. i)
      begun_left false = by_option (receiving_half s id) (λ o. Of K (begun_at o s id false)) (λ e. i) (λ h e. k.changes s id h (begun h false) e (begins refl) known i)

      go : (answer : Result (Unit {0}) ReadableError) → Of K (begun_unless answer s id ordered)
      go (Ok x) = begun_left ordered
      go (Err e) = i

  -- it goes on
  next_left : (told : Told) (s : StreamsState) (id most : ℕ) → I s → Of K s → Of K (after_next told (next_answer told s id most) s id most)
  next_left told_end s id most known i = i
  next_left (told_reset code) s id most known i = i
  next_left told_bytes s id most known i = by_option (receiving_half s id) (λ o. Of K (read_by (next_at told_bytes o most) o s id most)) (λ e. i) (λ h e. go h e (next_of h most) refl)
    where
      go : (h : RecvHalf) → receiving_half s id ≡ Some h → (answer : Result (Option Chunk) ReadError) → next_of h most ≡ answer → Of K (read_by answer (Some h) s id most)
      go h is (Ok (Some chunk)) e = k.changes s id h (read_on h most) is (reads most chunk e refl) known i
      go h is (Ok None) e = ends_of s id h is (last_end h most e) known i
      go h is (Err (read_errors.Reset code)) e = ends_of s id h is (last_reset h most code e) known i
      go h is (Err read_errors.Blocked) e = i
      go h is (Err read_errors.Memory) e = i

  nexts_left : (told : Told) (s : StreamsState) (id : ℕ) (mosts : List ℕ) (answers : List Next) → AreNexts told s id mosts answers → I s → Of K s → Of K (after_nexts told s id mosts answers)
  nexts_left told s id [] [] are known i = i
  nexts_left told s id [] (x ∷ answers) are known i = absurd are
  nexts_left told s id (most ∷ mosts) [] are known i = absurd are
  nexts_left told s id (most ∷ mosts) (x ∷ answers) are known i =
      nexts_left (told_by x told) (after_next told x s id most) id mosts answers are.1 (kept.next told s id most x are.0 known) (by_next_answer (Of K) told s id most x are.0 (next_left told s id most known i) i)

  -- this end stops a half
  stop_left : (s : StreamsState) (p : Retransmits) (id code : ℕ) → I s → Of K s → Of K (after_stop s p id code).state
  stop_left s p id code known i = by_option (receiving_half s id) (λ o. Of K (stopped_at o s p id code).state) (λ e. i) (λ h e. cond_both {A = Streams} h.stopped _ _ (λ (t : Streams). Of K t.state) (λ f. i) (λ f. (
      let change : Change G s.receiving id h (stopped_now h) = stops f refl in
      go h (is_some h.final) refl (at-half s.side s.receiving.halves id (stopped_now h)) (k.known s id h (stopped_now h) e change known) (k.changes s id h (stopped_now h) e change known i))))
    where
      go : (h : RecvHalf) (b : Bool) → is_some h.final ≡ b → at (with_recv s id (stopped_now h)).receiving.halves.live id ≡ Some (stopped_now h) → I (with_recv s id (stopped_now h)) → Of K (with_recv s id (stopped_now h)) → Of K (stopped_if b s id h)
      go h true is there known now = k.ends (with_recv s id (stopped_now h)) id (stopped_now h) there (inl is) known now
      go h false is there known now = now

  -- its reset is asked for
  reset_told_left : (s : StreamsState) (p : Retransmits) (id : ℕ) → I s → Of K s → Of K (after_received_reset s p id).state
  reset_told_left s p id known i = by_option (receiving_half s id) (λ o. Of K (reset_told (reset_of o) s p id).state) (λ e. i) (λ h e. cond_both {A = Result (Option ℕ) ClosedStream} h.stopped _ _ (λ t. Of K (reset_told t s p id).state) (λ f. i) (λ f. go h e h.reset refl))
    where
      go : (h : RecvHalf) → receiving_half s id ≡ Some h → (o : Option ℕ) → h.reset ≡ o → Of K (reset_told (Ok o) s p id).state
      go h is None e = i
      go h is (Some code) e = ends_of s id h is (inr (ap is_some e)) known i

  -- ---- calls

  module _ (p : Policy) (e : End) (theirs : List (List ℕ)) (known : I e.streams) (i : Of K e.streams) where
    stop_call : (id code : ℕ) (a : Answer) → IsAnswer p e theirs (calls.Stop id code) a → Of K (after_call p e theirs (calls.Stop id code) a).streams
    stop_call id code a (inl is) = subst (λ (b : Answer). Of K (after_call p e theirs (calls.Stop id code) b).streams) (sym is) (if_done K (stop_answer e.streams id) (after_stop e.streams e.waiting.frames id code) (streams_at e) (stop_left e.streams e.waiting.frames id code known i) i)
    stop_call id code a (inr is) = subst (λ (b : Answer). Of K (after_call p e theirs (calls.Stop id code) b).streams) (sym is) i

    -- any call but a delivery; of a poll as is shown
    pub call_left : (call : Call) (a : Answer) → is_delivery call ≡ false → IsAnswer p e theirs call a → ((now : ℕ) → is_poll call ≡ true → Of K (poll.polled p e now).end.streams) → Of K (after_call p e theirs call a).streams
    call_left (calls.Accept dir) a apart is polls = accept_left K dir e.streams i
    call_left (calls.Read rd) (answers.Read (Ok said)) apart is polls = nexts_left told_bytes (after_read_begun e.streams rd.id rd.ordered) rd.id rd.nexts.items said is.1 (kept.begun e.streams rd.id rd.ordered known) (begins_left e.streams rd.id rd.ordered known i)
    call_left (calls.Read rd) a apart is polls = i
    call_left (calls.Stop id code) a apart is polls = stop_call id code a is
    call_left (calls.ReceivedReset id) a apart is polls = reset_told_left e.streams e.waiting.frames id known i
    call_left call a apart is polls = quiet_left K p e theirs call a apart refl is polls i

  -- ---- frames that come

  -- a half that has another value is done where it ends
  pub renewed_left : (s : StreamsState) (id : ℕ) (old new : RecvHalf) (tells : Bool) → I (with_recv (opened_by s id) id new) → Of K (with_recv (opened_by s id) id new) → Of K (renewed s id old new tells)
  renewed_left s id old new tells known now = tell (ended_if (new.stopped && is_some new.final) id t) (tells && not (old.stopped || opens s id)) (go (new.stopped && is_some new.final) refl)
    where
      t : StreamsState
      t = with_recv (opened_by s id) id new

      go : (b : Bool) → (new.stopped && is_some new.final) ≡ b → Of K (ended_if b id (with_recv (opened_by s id) id new))
      go true is = k.ends (with_recv (opened_by s id) id new) id new (at-half (opened_by s id).side (opened_by s id).receiving.halves id new) (inl (and_parts new.stopped (is_some new.final) is).1) known now
      go false is = now

      tell : (u : StreamsState) (b : Bool) → Of K u → Of K (readable_if b id u)
      tell u true j = j
      tell u false j = j

  module _ (opens_known : (s : StreamsState) (id : ℕ) → beyond s id ≡ None → I s → I (opened_by s id)) where
    -- the half of a frame has another value
    value_left : (s : StreamsState) (id : ℕ) (old new : RecvHalf) (tells : Bool) → beyond s id ≡ None → part_for s id ≡ Some old → Change G s.receiving id old new → I s → Of K s → Of K (renewed s id old new tells)
    value_left s id old new tells within part change known i =
        let u : StreamsState = opened_by s id in
        let on : Change G u.receiving id old new = subst (λ (r : Receiving). Change G r id old new) (sym (opened_receiving s id)) change in
        let there : I u = opens_known s id within known in
        renewed_left s id old new tells (k.known u id old new part on there) (k.changes u id old new part on there (opened_left K s id i))

    pub stream_left : (s : StreamsState) (p : Retransmits) (f : StreamValue) → G (stream f) → I s → Of K s → Of K (after_stream s p f).state
    stream_left s p f says known i = stream_cases s p f (Of K) (λ b is. i) (λ within none. i) (λ h within part u. value_left s f.id h (after_frame h f) true within part (takes f says refl u refl) known i)

    pub reset_frame_left : (s : StreamsState) (p : Retransmits) (f : ResetStreamValue) → G (reset_stream f) → I s → Of K s → Of K (after_reset_frame s p f).state
    reset_frame_left s p f says known i = reset_cases s p f (Of K) (λ b is. i) (λ within none. i) (λ h within part u. value_left s f.id h (after_reset_stream h f.code f.final_size) (not (is_some h.reset)) within part (resets f says refl u refl) known i)

    -- a frame
    pub frame_kept : (f : FrameValue) (e : End) → G f → I e.streams → Of K e.streams → Of K (take_frame f e).end.streams
    frame_kept f e says known i = frame_left K f e (λ g is. stream_left e.streams e.waiting.frames g (subst G is says) known i) (λ g is. reset_frame_left e.streams e.waiting.frames g (subst G is says) known i) i

    -- all frames of a packet
    pub frames_left : ((f : FrameValue) (e : End) → I e.streams → I (take_frame f e).end.streams) → (fs : List FrameValue) (e : End) → ((f : FrameValue) → In f fs → G f) → I e.streams → Of K e.streams → Of K (frame_cases.passed fs e).end.streams
    frames_left stays fs e says known i = (frames_leave (λ (left : List FrameValue) (x : End). ((f : FrameValue) → In f left → G f) × I x.streams × Of K x.streams) (λ f left x all. (
      λ g among. all.0 g (inr among),
      stays f x all.1,
      frame_kept f x (all.0 f (inl refl)) all.1 all.2,
    )) fs e (says, known, i)).1.2
