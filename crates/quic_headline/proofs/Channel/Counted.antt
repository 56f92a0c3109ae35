-- What the peer was told of counts, and how many streams it opened, changes only by frames that
-- open a stream or tell a count: all else leaves both.
use Rattle.std.proofs.Common.{◌≡◌, ℕ, zero, suc, Bool, true, false, not, ◌==◌, List, [], ◌∷◌, length, take, Option, Some, None, Result, Ok, Err, refl, sym, subst}
use Rattle.std.specs.Prelude.{nat_lt, if◌then◌else◌, ◌&&◌, ◌||◌}
use Rattle.std.specs.Option.{is_some}
use Rattle.std.proofs.lemmas.Bool.{cond_both}
use Rattle.quic_wire_core.specs.declared.stream_id.Side.{Side}
use Rattle.quic_wire_core.specs.declared.stream_id.Dir.{Dir}
use Rattle.quic_wire_core.specs.declared.stream_id.Dir.TheVariants.{Bi, Uni}
use Rattle.quic_wire_core.specs.StreamId.{dir_of}
use Rattle.quic_wire.specs.Value.{FrameValue, StopSendingValue, StreamCountValue, ack, stream, reset_stream, stop_sending, max_data, max_stream_data, max_streams, datagram, new_connection_id, retire_connection_id, path_response, handshake_done, ack_frequency}
use Rattle.quic_assembler.specs.declared.assembler.Chunk.{Chunk}
use Rattle.quic_send_buffer.specs.declared.stream_meta.StreamMeta.{StreamMeta}
use Rattle.quic_streams_parts.specs.declared.answers.Breach.{Breach}
use Rattle.quic_streams_parts.specs.declared.answers.ReadError.{ReadError}
use Rattle.quic_streams_parts.specs.declared.answers.ReadError.TheVariants as read_errors
use Rattle.quic_streams_parts.specs.declared.answers.ReadableError.{ReadableError}
use Rattle.quic_streams_parts.specs.declared.answers.StreamEvent.{StreamEvent}
use Rattle.quic_streams_parts.specs.declared.answers.StreamEvent.TheVariants as stream_events
use Rattle.quic_streams_parts.specs.declared.answers.WriteError.{WriteError}
use Rattle.quic_streams_parts.specs.declared.answers.WriteError.TheVariants as write_errors
use Rattle.quic_streams_parts.specs.declared.answers.FinishError.{FinishError}
use Rattle.quic_streams_parts.specs.declared.answers.ClosedStream.{ClosedStream}
use Rattle.quic_streams_parts.specs.declared.answers.Written.{Written}
use Rattle.quic_streams_parts.specs.Dirs.{Counts, of, with_of, is_own, is_two_way}
use Rattle.quic_streams_parts.specs.Events.{Events, with_event, after_event}
use Rattle.quic_streams_parts.specs.SendHalf.{SendHalf, was_said, is_acked, half_acked}
use Rattle.quic_streams_parts.specs.RecvHalf.{RecvHalf, after_frame, after_reset_stream}
use Rattle.quic_streams_halves.specs.Halves.{is_done}
use Rattle.quic_retransmits.specs.Retransmits.{Retransmits}
use Rattle.quic_streams_state.specs.declared.state.StreamsState.{StreamsState}
use Rattle.quic_streams_state.specs.State.{Streams, Opening, streams_of, room, sending_half, receiving_half, sending_status, receiving_status, with_send, with_recv, done_if, without_send, send_done, recv_done}
use Rattle.quic_streams_state.specs.Limits.{settled}
use Rattle.quic_streams_state.specs.Opening.{opens, opened_by, after_open, after_accept, after_max_streams, sending_refusal}
use Rattle.quic_streams_state.specs.Writing.{write_answer, grown_by, accepted_at, blocked_by_all, blocked_by_own, blocked_at, written_by, after_write, write_chunks_answer, chunks_accepted_at, after_write_chunks, finish_answer, ended_at, finished_by, reset_at, priority_at, replaced}
use Rattle.quic_streams_state.specs.Reading.{Told, told_bytes, told_end, told_reset, read_answer, begun_at, begun_unless, next_answer, read_by, after_next, stopped_if, stopped_at, received_reset_answer, reset_told, with_stop}
use Rattle.quic_streams_state.specs.Taking.{joined, writable_again, is_used_up, limited_half, limit_raised, limit_at, limit_unless, stopped_half, stop_at, stop_unless, sending_for, readable_if, ended_if, renewed}
use Rattle.quic_streams_state.specs.Acked.{sent_half, finished, acked_on, acked_at, reset_acked_at, lost_at}
use Rattle.quic_streams_state.specs.Telling.{Telling, passed, after_passing, told_behind, polled}
use Rattle.quic_streams_laws.specs.KeepingLaws.{stream_cases, reset_cases}
use Rattle.quic_streams_laws.specs.Written.{Wrote}
use Rattle.quic_machine.specs.declared.run.Call.{Call}
use Rattle.quic_machine.specs.declared.run.Answer.{Answer}
use Rattle.quic_machine.specs.Policy.{Policy}
use Rattle.quic_machine.specs.Tracking.{dir_named}
use Rattle.quic_machine.specs.Calls.{is_open}
use Rattle.quic_machine.specs.StreamCalls.{is_on_streams}
use Rattle.quic_machine.specs.End.{End, with_closing, streams_at}
use Rattle.quic_machine.specs.Closing.{ticked}
use Rattle.quic_machine.specs.Receive.{is_above, names_ungiven, take_frame}
use Rattle.quic_machine.specs.Poll.{Draft, composed}
use Rattle.quic_machine.specs.Poll as poll
use Rattle.quic_machine.specs.DraftLaws.{Writing, by_writing}
use Rattle.quic_machine.specs.Puts as puts
use Rattle.quic_machine.specs.LeaveCases.{by_expired, by_event}
use Rattle.quic_machine.specs.CallCases.{is_delivery, asks_event, by_call, by_done}
use Rattle.quic_machine.specs.FrameCases.{Settling, named, ack_taken, acked_keeps, losses_keep, message_leaves, apart_leaves}
use Rattle.quic_machine.specs.Steps as steps
use Rattle.quic_machine.specs.Machine.{IsAnswer, after_call}
use Rattle.quic_headline.specs.Runs.{OpensStream}
use Rattle.quic_headline.proofs.Packets.Apart.{by_waits, by_next_id}
use Rattle.quic_streams_laws.specs.QuietLaws.{by_tells}
use Rattle.quic_headline.proofs.Halves.Words.{CallWords, call_with}
use Rattle.quic_headline.proofs.Halves.WordsCalls.{call_on_is}
use Rattle.quic_headline.proofs.Packets.Probes.{poll_state}

-- a fact of an end's side, of how many streams it may open, of how many the peer opened, of what is
-- to be told, and of the streams whose write the connection blocked, which stays where more is, and
-- where one joins these
module _ (K : Side → Counts → Counts → Events → List ℕ → Type 0) (more : (side : Side) (limits remote : Counts) (ev : Events) (blocked : List ℕ) (event : StreamEvent) → K side limits remote ev blocked → K side limits remote (with_event event ev) blocked)
    (joins : (side : Side) (limits remote : Counts) (ev : Events) (blocked : List ℕ) (id : ℕ) → K side limits remote ev blocked → K side limits remote ev (id ∷ blocked)) where
  abbrev pub Listed : StreamsState → Type 0
  Listed s = K s.side s.opening.own_limit s.opening.remote s.events s.sending.blocked

  -- something is to be told
  one_event : (s : StreamsState) (event : StreamEvent) → Listed s → Listed (record s { events = with_event event s.events })
  one_event s event i = more s.side s.opening.own_limit s.opening.remote s.events s.sending.blocked event i

  -- ---- small steps

  either : (b : Bool) (x y : StreamsState) → Listed x → Listed y → Listed (if b then x else y)
  either true x y i j = i
  either false x y i j = j

  either_streams : (b : Bool) (x y : Streams) → Listed x.state → Listed y.state → Listed (if b then x else y).state
  either_streams true x y i j = i
  either_streams false x y i j = j

  done_counts : (b : Bool) (id : ℕ) (s : StreamsState) → Listed s → Listed (done_if b id s)
  done_counts true id s i = i
  done_counts false id s i = i

  -- a half is done
  sent_counts : (s : StreamsState) (id : ℕ) → Listed s → Listed (send_done s id)
  sent_counts s id i = done_counts (not (is_own s.side id) && is_done (receiving_status s id)) id (without_send s id) i

  received_counts : (s : StreamsState) (id : ℕ) → Listed s → Listed (recv_done s id)
  received_counts s id i = done_counts (not (is_own s.side id) && (not (is_two_way (dir_of id)) || is_done (sending_status s id))) id _ i

  -- a stream is blocked
  joined_counts : (s : StreamsState) (id : ℕ) (h : SendHalf) → Listed s → Listed (joined s id h)
  joined_counts s id h i = either h.blocked s _ i (joins s.side s.opening.own_limit s.opening.remote s.events s.sending.blocked id i)

  -- ---- calls of an application

  open_counts : (b : Bool) (dir : Dir) (s : StreamsState) → Listed s → Listed (after_open b dir s)
  open_counts true dir s i = cond_both {A = Option ℕ × Opening} (nat_lt (of dir s.opening.own) (of dir s.opening.own_limit)) _ _ (λ t. Listed (record s { opening = t.1 })) (λ is. i) (λ is. i)
  open_counts false dir s i = i

  accept_counts : (dir : Dir) (s : StreamsState) → Listed s → Listed (after_accept dir s)
  accept_counts dir s i = cond_both {A = Option ℕ × Opening} (nat_lt (of dir s.opening.accepted) (of dir s.opening.remote)) _ _ (λ t. Listed (record s { opening = t.1 })) (λ is. i) (λ is. i)

  blocked_counts : (o : Option SendHalf) (s : StreamsState) (p : Retransmits) (id : ℕ) → Listed s → Listed (blocked_at o s p id).state
  blocked_counts None s p id i = i
  blocked_counts (Some h) s p id i = either_streams (room s.sending == 0) (blocked_by_all s p id h) (blocked_by_own s p id h) (joined_counts s id h i) (either_streams (was_said h.said h.limit) _ _ i i)

  accepted_counts : (o : Option SendHalf) (s : StreamsState) (id : ℕ) (bytes : List ℕ) → Listed s → Listed (accepted_at o s id bytes)
  accepted_counts None s id bytes i = i
  accepted_counts (Some h) s id bytes i = either (length bytes == 0) s (grown_by h s id bytes) i i

  written_counts : (r : Result ℕ WriteError) (s : StreamsState) (p : Retransmits) (id : ℕ) (bytes : List ℕ) → Listed s → Listed (written_by r s p id bytes).state
  written_counts (Ok n) s p id bytes i = accepted_counts (sending_half s id) s id (take n bytes) i
  written_counts (Err write_errors.Blocked) s p id bytes i = blocked_counts (sending_half s id) s p id i
  written_counts (Err (write_errors.Stopped code)) s p id bytes i = i
  written_counts (Err write_errors.ClosedStream) s p id bytes i = i
  written_counts (Err write_errors.Memory) s p id bytes i = i

  write_counts : (b : Bool) (r : Result ℕ WriteError) (s : StreamsState) (p : Retransmits) (id : ℕ) (bytes : List ℕ) → Listed s → Listed (after_write b r s p id bytes).state
  write_counts true r s p id bytes i = written_counts r s p id bytes i
  write_counts false r s p id bytes i = i

  chunks_accepted_counts : (o : Option SendHalf) (s : StreamsState) (id n : ℕ) (cs : List (List ℕ)) → Listed s → Listed (chunks_accepted_at o s id n cs)
  chunks_accepted_counts None s id n cs i = i
  chunks_accepted_counts (Some h) s id zero cs i = i
  chunks_accepted_counts (Some h) s id (suc n) cs i = i

  chunks_counts : (b : Bool) (r : Result Written WriteError) (s : StreamsState) (p : Retransmits) (id : ℕ) (cs : List (List ℕ)) → Listed s → Listed (after_write_chunks b r s p id cs).state
  chunks_counts true (Ok w) s p id cs i = chunks_accepted_counts (sending_half s id) s id w.bytes cs i
  chunks_counts true (Err e) s p id cs i = written_counts (Err e) s p id [] i
  chunks_counts false r s p id cs i = i

  ended_counts : (o : Option SendHalf) (s : StreamsState) (id : ℕ) → Listed s → Listed (ended_at o s id)
  ended_counts None s id i = i
  ended_counts (Some h) s id i = i

  finished_counts : (r : Result (Unit {0}) FinishError) (s : StreamsState) (id : ℕ) → Listed s → Listed (finished_by r s id)
  finished_counts (Ok x) s id i = ended_counts (sending_half s id) s id i
  finished_counts (Err e) s id i = i

  reset_counts : (o : Option SendHalf) (s : StreamsState) (p : Retransmits) (id code : ℕ) → Listed s → Listed (reset_at o s p id code).state
  reset_counts None s p id code i = i
  reset_counts (Some h) s p id code i = either_streams (is_some h.reset) _ _ i i

  begun_counts : (r : Result (Unit {0}) ReadableError) (o : Option RecvHalf) (s : StreamsState) (id : ℕ) (ordered : Bool) → receiving_half s id ≡ o → Listed s → Listed (begun_unless r s id ordered)
  begun_counts (Err e) o s id ordered is i = i
  begun_counts (Ok x) o s id ordered is i = subst (λ (q : Option RecvHalf). Listed (begun_at q s id ordered)) (sym is) (go o ordered)
    where
      go : (o : Option RecvHalf) (b : Bool) → Listed (begun_at o s id b)
      go None b = i
      go (Some h) true = i
      go (Some h) false = i

  read_counts : (answer : Result (Option Chunk) ReadError) (o : Option RecvHalf) (s : StreamsState) (id most : ℕ) → Listed s → Listed (read_by answer o s id most)
  read_counts answer None s id most i = i
  read_counts (Ok (Some chunk)) (Some h) s id most i = i
  read_counts (Ok None) (Some h) s id most i = received_counts s id i
  read_counts (Err (read_errors.Reset code)) (Some h) s id most i = received_counts s id i
  read_counts (Err read_errors.Blocked) (Some h) s id most i = i
  read_counts (Err read_errors.Memory) (Some h) s id most i = i

  next_counts : (told : Told) (answer : Result (Option Chunk) ReadError) (s : StreamsState) (id most : ℕ) → Listed s → Listed (after_next told answer s id most)
  next_counts told_bytes answer s id most i = read_counts answer (receiving_half s id) s id most i
  next_counts told_end answer s id most i = i
  next_counts (told_reset code) answer s id most i = i

  stop_counts : (o : Option RecvHalf) (s : StreamsState) (p : Retransmits) (id code : ℕ) → Listed s → Listed (stopped_at o s p id code).state
  stop_counts None s p id code i = i
  stop_counts (Some h) s p id code i = either_streams h.stopped (streams_of s p) (settled (stopped_if (is_some h.final) s id h) (with_stop h.reset id code p)) i (go (is_some h.final))
    where
      go : (b : Bool) → Listed (stopped_if b s id h)
      go true = received_counts _ id i
      go false = i

  told_counts : (r : Result (Option ℕ) ClosedStream) (s : StreamsState) (p : Retransmits) (id : ℕ) → Listed s → Listed (reset_told r s p id).state
  told_counts (Ok (Some code)) s p id i = received_counts s id i
  told_counts (Ok None) s p id i = i
  told_counts (Err e) s p id i = i

  priority_counts : (o : Option SendHalf) (s : StreamsState) (id : ℕ) → (priority : _) → Listed s → Listed (priority_at o s id priority)
  priority_counts None s id priority i = i
  priority_counts (Some h) s id priority i = i

  words : CallWords (λ (done : ℕ → Wrote) (s : StreamsState). Listed s)
  words = record {
    writes = λ b w s p id bytes i. write_counts b (write_answer b s id (length bytes)) s p id bytes i;
    writes_chunks = λ b w s p id chunks i. chunks_counts b (write_chunks_answer b s id chunks) s p id chunks i;
    finishes = λ w s id i. finished_counts (finish_answer s id) s id i;
    resets = λ w s p id code i. reset_counts (sending_half s id) s p id code i;
    opens = λ b dir w s i. open_counts b dir s i;
    accepts = λ dir w s i. accept_counts dir s i;
    sets_priority = λ w s id priority i. priority_counts (sending_half s id) s id priority i;
    begins = λ w s id ordered i. begun_counts (read_answer s id ordered) (receiving_half s id) s id ordered refl i;
    nexts = λ w told s id most i. next_counts told (next_answer told s id most) s id most i;
    finalizes = λ w s p id i. i;
    stops = λ w s p id code i. stop_counts (receiving_half s id) s p id code i;
    hears_reset = λ w s p id i. told_counts (received_reset_answer s id) s p id i;
  }

  -- ---- what is told, and what goes

  composed_counts : (e : End) → Listed e.streams → Listed (composed e).end.streams
  composed_counts e i = by_writing (λ (d : Draft). Listed d.end.streams) keep e i
    where
      keep : Writing (λ (d : Draft). Listed d.end.streams)
      keep (puts.control kind f) d may j = by_tells Listed d.end.streams j j (λ id. j) (λ dir. j) (λ limit. j) (λ id limit. j) f
      keep p d may j = j

  poll_counts : (p : Policy) (e : End) (now : ℕ) → Listed e.streams → Listed (poll.polled p e now).end.streams
  poll_counts p e now i = poll_state Listed p e now composed_counts i

  -- ---- what is acknowledged or lost

  lost_counts : (o : Option SendHalf) (s : StreamsState) (m : StreamMeta) → Listed s → Listed (lost_at o s m)
  lost_counts None s m i = i
  lost_counts (Some h) s m i = either (is_some h.reset) s _ i i

  acked_counts : (o : Option SendHalf) (s : StreamsState) (p : Retransmits) (m : StreamMeta) → Listed s → Listed (acked_at o s p m).state
  acked_counts None s p m i = i
  acked_counts (Some h) s p m i = either_streams (is_some h.reset) (streams_of s p) (acked_on h s p m) i
      (either_streams (is_acked (half_acked h m)) (settled (finished (replaced s m.id (half_acked h m)) m.id) p) (streams_of (replaced s m.id (half_acked h m)) p) (one_event (send_done (replaced s m.id (half_acked h m)) m.id) (stream_events.Finished m.id) (sent_counts (replaced s m.id (half_acked h m)) m.id i)) i)

  reset_acked_counts : (o : Option SendHalf) (s : StreamsState) (p : Retransmits) (id : ℕ) → Listed s → Listed (reset_acked_at o s p id).state
  reset_acked_counts None s p id i = i
  reset_acked_counts (Some h) s p id i = either_streams (is_some h.reset) (settled (send_done s id) p) (streams_of s p) (sent_counts s id i) i

  settling : Settling (λ (e : End). Listed e.streams)
  settling (steps.reset id) e i = reset_acked_counts (sent_half e.streams id) e.streams e.waiting.frames id i
  settling (steps.acked m) e i = acked_counts (sent_half e.streams m.id) e.streams e.waiting.frames m i
  settling (steps.lost m) e i = lost_counts (sent_half e.streams m.id) e.streams m i
  settling s e i = i

  -- any call but a delivery
  pub listed_call : (p : Policy) (e : End) (theirs : List (List ℕ)) (call : Call) (a : Answer) → is_delivery call ≡ false → IsAnswer p e theirs call a → (asks_event call ≡ true → Listed (polled e.streams).state) → Listed e.streams → Listed (after_call p e theirs call a).streams
  listed_call p e theirs call a apart is asked i = go (is_on_streams call) refl
    where
      nothing : ℕ → Wrote
      nothing id = record { bytes = []; ended = false; reset = None }

      go : (b : Bool) → is_on_streams call ≡ b → Listed (after_call p e theirs call a).streams
      go true on =
          let c = call_on_is p e theirs call a on in
          subst (λ (s : StreamsState). Listed s) (sym c.leaves) (call_with (λ (done : ℕ → Wrote) (s : StreamsState). Listed s) words (is_open e.closing.state) nothing (streams_at e) i call a (c.answer is))
      go false off = by_call p e theirs (λ (f : End). Listed f.streams) call a (record {
        same = i;
        on_streams = λ on answer. cc;
        on_messages = λ on answer. i;
        pings = i;
        closes = λ reason f now own. i;
        waits = λ now b set. by_waits (λ (f : End). Listed f.streams) b (with_closing e (ticked e.closing now)) i i;
        changes_id = λ uses answer. by_next_id (λ (f : End). Listed f.streams) e a i (λ c. i) (λ c most. i);
        says_handshake = λ says answer. by_done (λ (f : End). Listed f.streams) e a i i;
        times = λ now expiry set. by_expired p.words e now (λ (f : End). Listed f.streams) (λ pending tracking timers waits asked runs packets. i) (λ pending timers waits asked runs. losses_keep (λ (x : End). Listed x.streams) settling (with_closing e (ticked e.closing now)) i) (λ x j. j) expiry;
        polls = λ now set. poll_counts p e now i;
        hears = λ arrival d set. cc;
        tells = λ asks. by_event e (λ (f : End). Listed f.streams) i i (λ told. asked asks);
      })

  -- ---- what comes

  -- a part has another value
  renewed_counts : (s : StreamsState) (id : ℕ) (old new : RecvHalf) (tells : Bool) → Listed (opened_by s id) → Listed (renewed s id old new tells)
  renewed_counts s id old new tells i = readable (tells && not (old.stopped || opens s id)) (ended_if (new.stopped && is_some new.final) id (with_recv (opened_by s id) id new)) (ended (new.stopped && is_some new.final))
    where
      readable : (b : Bool) (t : StreamsState) → Listed t → Listed (readable_if b id t)
      readable true t j = one_event t (stream_events.Readable id) j
      readable false t j = j

      ended : (b : Bool) → Listed (ended_if b id (with_recv (opened_by s id) id new))
      ended true = received_counts (with_recv (opened_by s id) id new) id i
      ended false = i

  -- a half takes bytes again
  again_counts : (t : StreamsState) (id : ℕ) (h : SendHalf) → Listed t → Listed (writable_again t id h)
  again_counts t id h i = either (room t.sending == 0) (joined t id h) _ (joined_counts t id h i) (one_event t (stream_events.Writable id) i)

  limit_counts : (o : Option SendHalf) (t : StreamsState) (id limit : ℕ) → Listed t → Listed (limit_at o t id limit)
  limit_counts None t id limit i = i
  limit_counts (Some h) t id limit i = either (nat_lt h.limit limit) (limit_raised t id h limit) t
      (either (is_used_up h) (writable_again (with_send t id (limited_half h limit)) id (limited_half h limit)) (with_send t id (limited_half h limit)) (again_counts (with_send t id (limited_half h limit)) id (limited_half h limit) i) i) i

  limit_unless_counts : (o : Option Breach) (s : StreamsState) (id limit : ℕ) → Listed s → Listed (opened_by s id) → Listed (limit_unless o s id limit)
  limit_unless_counts (Some b) s id limit i opened = i
  limit_unless_counts None s id limit i opened = limit_counts (sending_for s id) (opened_by s id) id limit opened

  stop_at_counts : (o : Option SendHalf) (t : StreamsState) (id code : ℕ) → Listed t → Listed (stop_at o t id code)
  stop_at_counts None t id code i = i
  stop_at_counts (Some h) t id code i = either (is_some h.stopped) t _ i (one_event (with_send t id (stopped_half h code)) (stream_events.Stopped id code) i)

  stop_unless_counts : (o : Option Breach) (s : StreamsState) (f : StopSendingValue) → Listed s → Listed (opened_by s f.id) → Listed (stop_unless o s f)
  stop_unless_counts (Some b) s f i opened = i
  stop_unless_counts None s f i opened = stop_at_counts (sending_for s f.id) (opened_by s f.id) f.id f.code opened

  -- a frame, by what it opens and which count it tells
  pub listed_frame : (f : FrameValue) (e : End) → ((id : ℕ) → OpensStream f id → Listed (opened_by e.streams id)) → ((g : StreamCountValue) → f ≡ max_streams g → Listed (after_max_streams (dir_named g.one_way) g.count e.streams)) → Listed e.streams → Listed (take_frame f e).end.streams
  listed_frame (stream g) e opens tells i = stream_cases e.streams e.waiting.frames g Listed (λ b is. i) (λ within none. i) (λ h within part u. renewed_counts e.streams g.id h (after_frame h g) true (opens g.id refl))
  listed_frame (reset_stream g) e opens tells i = reset_cases e.streams e.waiting.frames g Listed (λ b is. i) (λ within none. i) (λ h within part u. renewed_counts e.streams g.id h (after_reset_stream h g.code g.final_size) (not (is_some h.reset)) (opens g.id refl))
  listed_frame (stop_sending g) e opens tells i = stop_unless_counts (sending_refusal e.streams g.id) e.streams g i (opens g.id refl)
  listed_frame (max_data limit) e opens tells i = i
  listed_frame (max_stream_data g) e opens tells i = limit_unless_counts (sending_refusal e.streams g.id) e.streams g.id g.limit i (opens g.id refl)
  listed_frame (max_streams g) e opens tells i = tells g refl
  listed_frame (ack a) e opens tells i = go (names_ungiven a e)
    where
      go : (b : Bool) → Listed (ack_taken b a e).end.streams
      go true = i
      go false = acked_keeps (λ (x : End). Listed x.streams) settling (is_above e.numbers.largest_acked a.largest) a (named a e) i
  listed_frame (datagram m) e opens tells i = message_leaves (λ (x : End). Listed x.streams) m e i (λ left. i)
  listed_frame (new_connection_id g) e opens tells i = apart_leaves (λ (x : End). Listed x.streams) (new_connection_id g) e tt (λ c. i) (λ c most. i)
  listed_frame (retire_connection_id n) e opens tells i = apart_leaves (λ (x : End). Listed x.streams) (retire_connection_id n) e tt (λ c. i) (λ c most. i)
  listed_frame (path_response token) e opens tells i = apart_leaves (λ (x : End). Listed x.streams) (path_response token) e tt (λ c. i) (λ c most. i)
  listed_frame handshake_done e opens tells i = apart_leaves (λ (x : End). Listed x.streams) handshake_done e tt (λ c. i) (λ c most. i)
  listed_frame (ack_frequency r) e opens tells i = apart_leaves (λ (x : End). Listed x.streams) (ack_frequency r) e tt (λ c. i) (λ c most. i)
  listed_frame f e opens tells i = i

-- a fact of the same but for the streams that are blocked
module _ (K : Side → Counts → Counts → Events → Type 0) (more : (side : Side) (limits remote : Counts) (ev : Events) (event : StreamEvent) → K side limits remote ev → K side limits remote (with_event event ev)) where
  abbrev pub Flagged : StreamsState → Type 0
  Flagged s = K s.side s.opening.own_limit s.opening.remote s.events

  abbrev AnyBlocked : Side → Counts → Counts → Events → List ℕ → Type 0
  AnyBlocked side limits remote ev blocked = K side limits remote ev

  more_so : (side : Side) (limits remote : Counts) (ev : Events) (blocked : List ℕ) (event : StreamEvent) → K side limits remote ev → K side limits remote (with_event event ev)
  more_so side limits remote ev blocked event i = more side limits remote ev event i

  joins_so : (side : Side) (limits remote : Counts) (ev : Events) (blocked : List ℕ) (id : ℕ) → K side limits remote ev → K side limits remote ev
  joins_so side limits remote ev blocked id i = i

  behind_counts : (o : Option ℕ) (s : StreamsState) → K s.side s.opening.own_limit s.opening.remote (after_event s.events) → Flagged s → Flagged (told_behind o s).state
  behind_counts (Some id) s next i = i
  behind_counts None s next i = next

  -- where it is told that the peer opened streams of a kind, or what came first, as is shown
  pub polled_counts : (s : StreamsState) → ((dir : Dir) → K s.side s.opening.own_limit s.opening.remote (record s.events { opened = with_of dir false s.events.opened })) → K s.side s.opening.own_limit s.opening.remote (after_event s.events) → Flagged s → Flagged (polled s).state
  polled_counts s untold next i = cond_both s.events.opened.bi _ _ (λ (t : Telling). Flagged t.state) (λ is. untold Bi)
      (λ is. cond_both s.events.opened.uni _ _ (λ (t : Telling). Flagged t.state) (λ is. untold Uni)
      (λ is. cond_both (room s.sending == 0) _ _ (λ (t : Telling). Flagged t.state) (λ is. next) (λ is. behind_counts (passed s.sending.blocked s.sending.halves.live).found (after_passing s (passed s.sending.blocked s.sending.halves.live)) next i)))

  -- any call but a delivery
  pub flagged_call : (p : Policy) (e : End) (theirs : List (List ℕ)) (call : Call) (a : Answer) → is_delivery call ≡ false → IsAnswer p e theirs call a → (asks_event call ≡ true → Flagged (polled e.streams).state) → Flagged e.streams → Flagged (after_call p e theirs call a).streams
  flagged_call p e theirs call a apart is asked i = listed_call AnyBlocked more_so joins_so p e theirs call a apart is asked i

  -- a frame, by what it opens and which count it tells
  pub flagged_frame : (f : FrameValue) (e : End) → ((id : ℕ) → OpensStream f id → Flagged (opened_by e.streams id)) → ((g : StreamCountValue) → f ≡ max_streams g → Flagged (after_max_streams (dir_named g.one_way) g.count e.streams)) → Flagged e.streams → Flagged (take_frame f e).end.streams
  flagged_frame f e opens tells i = listed_frame AnyBlocked more_so joins_so f e opens tells i

-- a fact of an end's side, of how many streams it may open, and of how many the peer opened
module _ (K : Side → Counts → Counts → Type 0) where
  abbrev pub Counted : StreamsState → Type 0
  Counted s = K s.side s.opening.own_limit s.opening.remote

  abbrev AnyEvents : Side → Counts → Counts → Events → Type 0
  AnyEvents side limits remote ev = K side limits remote

  any_more : (side : Side) (limits remote : Counts) (ev : Events) (event : StreamEvent) → K side limits remote → K side limits remote
  any_more side limits remote ev event i = i

  -- any call but a delivery
  pub call_counts : (p : Policy) (e : End) (theirs : List (List ℕ)) (call : Call) (a : Answer) → is_delivery call ≡ false → IsAnswer p e theirs call a → Counted e.streams → Counted (after_call p e theirs call a).streams
  call_counts p e theirs call a apart is i = flagged_call AnyEvents any_more p e theirs call a apart is (λ asks. polled_counts AnyEvents any_more e.streams (λ dir. i) i i) i

  -- a frame, by what it opens and which count it tells
  pub frame_counts : (f : FrameValue) (e : End) → ((id : ℕ) → OpensStream f id → Counted (opened_by e.streams id)) → ((g : StreamCountValue) → f ≡ max_streams g → Counted (after_max_streams (dir_named g.one_way) g.count e.streams)) → Counted e.streams → Counted (take_frame f e).end.streams
  frame_counts f e opens tells i = flagged_frame AnyEvents any_more f e opens tells i
