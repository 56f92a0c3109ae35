-- Words about streams leave how far the peer was told that it may come on all of them, and how many
-- it may open, with what was used up of both and what waits to be told; or limits are decided anew.
use Rattle.std.proofs.Common.{◌≡◌, ℕ, zero, suc, ◌+◌, Bool, true, false, not, ◌==◌, List, [], length, take, Option, Some, None, Result, Ok, Err, refl}
use Rattle.std.specs.Prelude.{nat_lt, if◌then◌else◌}
use Rattle.std.specs.Option.{is_some}
use Rattle.std.proofs.lemmas.Bool.{cond_both}
use Rattle.quic_wire_core.specs.declared.stream_id.Dir.{Dir}
use Rattle.quic_wire_core.specs.declared.stream_id.Dir.TheVariants.{Bi, Uni}
use Rattle.quic_wire_core.specs.StreamId.{dir_of, index_of}
use Rattle.quic_wire.specs.Value.{FrameValue, StreamValue, ResetStreamValue, StopSendingValue, stream, reset_stream, stop_sending, max_data, max_stream_data, max_streams}
use Rattle.quic_send_buffer.specs.declared.stream_meta.StreamMeta.{StreamMeta}
use Rattle.quic_streams_parts.specs.declared.answers.Breach.{Breach}
use Rattle.quic_streams_parts.specs.declared.answers.WriteError.{WriteError}
use Rattle.quic_streams_parts.specs.declared.answers.WriteError.TheVariants as write_errors
use Rattle.quic_streams_parts.specs.declared.answers.FinishError.{FinishError}
use Rattle.quic_streams_parts.specs.declared.answers.ClosedStream.{ClosedStream}
use Rattle.quic_streams_parts.specs.declared.answers.Written.{Written}
use Rattle.quic_streams_parts.specs.Dirs.{Counts, Flags, of}
use Rattle.quic_streams_parts.specs.Events.{with_opened}
use Rattle.quic_streams_parts.specs.SendHalf.{SendHalf, was_said, is_acked, half_acked}
use Rattle.quic_streams_parts.specs.RecvHalf.{RecvHalf, after_frame, after_reset_stream}
use Rattle.quic_retransmits.specs.Retransmits.{Retransmits}
use Rattle.quic_streams_state.specs.declared.state.StreamsState.{StreamsState}
use Rattle.quic_streams_state.specs.State.{Streams, Opening, Receiving, streams_of, room, sending_half, receiving_half, with_send, recv_done, send_done}
use Rattle.quic_streams_state.specs.Limits.{decided, settled}
use Rattle.quic_streams_state.specs.Opening.{opens, opened_if, opened_by, with_remote, after_open, after_accept, after_max_streams, sending_refusal}
use Rattle.quic_streams_state.specs.Writing.{grown_by, accepted_at, blocked_by_all, blocked_by_own, blocked_at, written_by, after_write, chunks_accepted_at, after_write_chunks, ended_at, finished_by, reset_at, after_reset, after_set_priority, priority_at, replaced}
use Rattle.quic_streams_state.specs.Reading.{with_stop, stopped_if, stopped_at, after_stop, received_reset_answer, reset_told}
use Rattle.quic_streams_state.specs.Taking.{joined, writable_again, is_used_up, limited_half, limit_raised, limit_at, limit_unless, stop_at, stop_unless, sending_for, part_for, renewed, refusal, stream_at, stream_unless, reset_breach, reset_unless}
use Rattle.quic_streams_state.specs.Taking as taking
use Rattle.quic_streams_state.specs.Acked.{sent_half, finished, acked_on, acked_at, after_stream_acked, reset_acked_at, after_reset_acked, lost_at, after_stream_lost}
use Rattle.quic_streams_state.specs.Telling.{Telling, passed, after_passing, told_behind, polled}
use Rattle.quic_machine.specs.declared.run.Call.{Call}
use Rattle.quic_machine.specs.declared.run.Call.TheVariants as calls
use Rattle.quic_machine.specs.declared.run.Answer.{Answer}
use Rattle.quic_machine.specs.declared.run.Answer.TheVariants as answers
use Rattle.quic_machine.specs.Tracking.{dir_named}
use Rattle.quic_machine.specs.End.{End, streams_at}
use Rattle.quic_machine.specs.StreamCalls.{if_ok, after_on_streams}
use Rattle.quic_machine.specs.FrameCases.{OnStreams}
use Rattle.quic_machine.specs.Receive.{take_frame}

-- whether a call is a read
abbrev pub is_read : Call → Bool
is_read (calls.Read read) = true
is_read call = false

-- the same limits wait to be told
pub record LimitsAlike (p q : Retransmits) : Type 0 where
  pub bytes : q.max_data ≡ p.max_data
  pub counts : q.max_stream_id ≡ p.max_stream_id
  pub streams : q.max_stream_data ≡ p.max_stream_data

alike : (p : Retransmits) → LimitsAlike p p
alike p = record { bytes = refl; counts = refl; streams = refl }

-- a fact of what is received; of how many streams the peer was told that it may open, may have open
-- at once, and are done; and of what waits to be told: MAX_DATA, MAX_STREAMS, and MAX_STREAM_DATA
-- of these streams
module _ (K : Receiving → Counts → Counts → Counts → Bool → Flags → List ℕ → Type 0) where
  abbrev pub Kept : StreamsState → Retransmits → Type 0
  Kept s p = K s.receiving s.opening.announced s.opening.configured s.opening.done p.max_data p.max_stream_id p.max_stream_data

  abbrev pub KeptIn : Streams → Type 0
  KeptIn t = Kept t.state t.pending

  -- it holds of any streams once their limits are decided, where it held of what waits
  abbrev pub Decides : Type 0
  Decides = (s t : StreamsState) (p q : Retransmits) → LimitsAlike p q → Kept s p → Kept t (decided t q)

  module _ (decides : Decides) where
    -- ---- small steps

    either : (b : Bool) (x y : Streams) → KeptIn x → KeptIn y → KeptIn (if b then x else y)
    either true x y i j = i
    either false x y i j = j

    either_state : (b : Bool) (x y : StreamsState) (p : Retransmits) → Kept x p → Kept y p → Kept (if b then x else y) p
    either_state true x y p i j = i
    either_state false x y p i j = j

    joined_keeps : (s : StreamsState) (p : Retransmits) (id : ℕ) (h : SendHalf) → Kept s p → Kept (joined s id h) p
    joined_keeps s p id h i = either_state h.blocked s _ p i i

    opened_keeps : (b : Bool) (s : StreamsState) (p : Retransmits) (id : ℕ) → Kept s p → Kept (opened_if b id s) p
    opened_keeps false s p id i = i
    opened_keeps true s p id i = go (dir_of id) (dir_of id)
      where
        go : (d e : Dir) → Kept (record s { opening = with_remote d (index_of id + 1) s.opening; events = with_opened e s.events }) p
        go Bi e = i
        go Uni e = i

    -- ---- calls of an application

    open_keeps : (b : Bool) (dir : Dir) (s : StreamsState) (p : Retransmits) → Kept s p → Kept (after_open b dir s) p
    open_keeps true dir s p i = cond_both {A = Option ℕ × Opening} (nat_lt (of dir s.opening.own) (of dir s.opening.own_limit)) _ _ (λ t. Kept (record s { opening = t.1 }) p) (λ is. i) (λ is. i)
    open_keeps false dir s p i = i

    accept_keeps : (dir : Dir) (s : StreamsState) (p : Retransmits) → Kept s p → Kept (after_accept dir s) p
    accept_keeps dir s p i = cond_both {A = Option ℕ × Opening} (nat_lt (of dir s.opening.accepted) (of dir s.opening.remote)) _ _ (λ t. Kept (record s { opening = t.1 }) p) (λ is. i) (λ is. i)

    blocked_keeps : (o : Option SendHalf) (s : StreamsState) (p : Retransmits) (id : ℕ) → Kept s p → KeptIn (blocked_at o s p id)
    blocked_keeps None s p id i = i
    blocked_keeps (Some h) s p id i = either (room s.sending == 0) (blocked_by_all s p id h) (blocked_by_own s p id h) (joined_keeps s p id h i) (either (was_said h.said h.limit) _ _ i i)

    accepted_keeps : (o : Option SendHalf) (s : StreamsState) (p : Retransmits) (id : ℕ) (bytes : List ℕ) → Kept s p → Kept (accepted_at o s id bytes) p
    accepted_keeps None s p id bytes i = i
    accepted_keeps (Some h) s p id bytes i = either_state (length bytes == 0) s (grown_by h s id bytes) p i i

    written_keeps : (r : Result ℕ WriteError) (s : StreamsState) (p : Retransmits) (id : ℕ) (bytes : List ℕ) → Kept s p → KeptIn (written_by r s p id bytes)
    written_keeps (Ok n) s p id bytes i = accepted_keeps (sending_half s id) s p id (take n bytes) i
    written_keeps (Err write_errors.Blocked) s p id bytes i = blocked_keeps (sending_half s id) s p id i
    written_keeps (Err (write_errors.Stopped code)) s p id bytes i = i
    written_keeps (Err write_errors.ClosedStream) s p id bytes i = i
    written_keeps (Err write_errors.Memory) s p id bytes i = i

    write_keeps : (b : Bool) (r : Result ℕ WriteError) (s : StreamsState) (p : Retransmits) (id : ℕ) (bytes : List ℕ) → Kept s p → KeptIn (after_write b r s p id bytes)
    write_keeps true r s p id bytes i = written_keeps r s p id bytes i
    write_keeps false r s p id bytes i = i

    chunks_accepted_keep : (o : Option SendHalf) (s : StreamsState) (p : Retransmits) (id n : ℕ) (cs : List (List ℕ)) → Kept s p → Kept (chunks_accepted_at o s id n cs) p
    chunks_accepted_keep None s p id n cs i = i
    chunks_accepted_keep (Some h) s p id zero cs i = i
    chunks_accepted_keep (Some h) s p id (suc n) cs i = i

    chunks_keep : (b : Bool) (r : Result Written WriteError) (s : StreamsState) (p : Retransmits) (id : ℕ) (cs : List (List ℕ)) → Kept s p → KeptIn (after_write_chunks b r s p id cs)
    chunks_keep true (Ok w) s p id cs i = chunks_accepted_keep (sending_half s id) s p id w.bytes cs i
    chunks_keep true (Err e) s p id cs i = written_keeps (Err e) s p id [] i
    chunks_keep false r s p id cs i = i

    ended_keeps : (o : Option SendHalf) (s : StreamsState) (p : Retransmits) (id : ℕ) → Kept s p → Kept (ended_at o s id) p
    ended_keeps None s p id i = i
    ended_keeps (Some h) s p id i = i

    finished_keeps : (r : Result (Unit {0}) FinishError) (s : StreamsState) (p : Retransmits) (id : ℕ) → Kept s p → Kept (finished_by r s id) p
    finished_keeps (Ok x) s p id i = ended_keeps (sending_half s id) s p id i
    finished_keeps (Err e) s p id i = i

    reset_keeps : (o : Option SendHalf) (s : StreamsState) (p : Retransmits) (id code : ℕ) → Kept s p → KeptIn (reset_at o s p id code)
    reset_keeps None s p id code i = i
    reset_keeps (Some h) s p id code i = either (is_some h.reset) _ _ i i

    priority_keeps : (o : Option SendHalf) (s : StreamsState) (p : Retransmits) (id : ℕ) → (priority : _) → Kept s p → Kept (priority_at o s id priority) p
    priority_keeps None s p id priority i = i
    priority_keeps (Some h) s p id priority i = i

    stop_keeps : (o : Option RecvHalf) (s : StreamsState) (p : Retransmits) (id code : ℕ) → Kept s p → KeptIn (stopped_at o s p id code)
    stop_keeps None s p id code i = i
    stop_keeps (Some h) s p id code i =
        either h.stopped (streams_of s p) (settled (stopped_if (is_some h.final) s id h) (with_stop h.reset id code p)) i (decides s (stopped_if (is_some h.final) s id h) p (with_stop h.reset id code p) (same h.reset) i)
      where
        same : (o : Option ℕ) → LimitsAlike p (with_stop o id code p)
        same (Some reset) = alike p
        same None = record { bytes = refl; counts = refl; streams = refl }

    reset_told_keeps : (r : Result (Option ℕ) ClosedStream) (s : StreamsState) (p : Retransmits) (id : ℕ) → Kept s p → KeptIn (reset_told r s p id)
    reset_told_keeps (Ok (Some code)) s p id i = decides s (recv_done s id) p p (alike p) i
    reset_told_keeps (Ok None) s p id i = i
    reset_told_keeps (Err e) s p id i = i

    ok_keeps : {A E : Type 0} (r : Result A E) (after before : Streams) → KeptIn after → KeptIn before → KeptIn (if_ok r after before)
    ok_keeps (Ok x) after before i j = i
    ok_keeps (Err e) after before i j = j

    -- any call on streams but a read
    pub calls_keep : (b : Bool) (t : Streams) (call : Call) (a : Answer) → is_read call ≡ false → KeptIn t → KeptIn (after_on_streams b t call a)
    calls_keep b t (calls.Open dir) a apart i = open_keeps b dir t.state t.pending i
    calls_keep b t (calls.Accept dir) a apart i = accept_keeps dir t.state t.pending i
    calls_keep b t (calls.Write id bytes) (answers.Write answer) apart i = write_keeps b answer t.state t.pending id bytes i
    calls_keep b t (calls.WriteChunks id chunks) (answers.WriteChunks answer) apart i = chunks_keep b answer t.state t.pending id chunks.items i
    calls_keep b t (calls.Finish id) (answers.Finish answer) apart i = finished_keeps answer t.state t.pending id i
    calls_keep b t (calls.Reset id code) (answers.Reset answer) apart i = ok_keeps answer (after_reset t.state t.pending id code) t (reset_keeps (sending_half t.state id) t.state t.pending id code i) i
    calls_keep b t (calls.SetPriority id priority) (answers.SetPriority answer) apart i = ok_keeps answer (record t { state = after_set_priority t.state id priority }) t (priority_keeps (sending_half t.state id) t.state t.pending id priority i) i
    calls_keep b t (calls.Read read) a apart i = cc
    calls_keep b t (calls.Stop id code) (answers.Stop answer) apart i = ok_keeps answer (after_stop t.state t.pending id code) t (stop_keeps (receiving_half t.state id) t.state t.pending id code i) i
    calls_keep b t (calls.ReceivedReset id) a apart i = reset_told_keeps (received_reset_answer t.state id) t.state t.pending id i
    calls_keep b t call a apart i = i

    -- ---- what is told

    behind_keeps : (o : Option ℕ) (s : StreamsState) (p : Retransmits) → Kept s p → Kept (told_behind o s).state p
    behind_keeps (Some id) s p i = i
    behind_keeps None s p i = i

    pub polled_keeps : (s : StreamsState) (p : Retransmits) → Kept s p → Kept (polled s).state p
    polled_keeps s p i = cond_both s.events.opened.bi _ _ (λ (t : Telling). Kept t.state p) (λ is. i)
        (λ is. cond_both s.events.opened.uni _ _ (λ (t : Telling). Kept t.state p) (λ is. i)
        (λ is. cond_both (room s.sending == 0) _ _ (λ (t : Telling). Kept t.state p) (λ is. i) (λ is. behind_keeps (passed s.sending.blocked s.sending.halves.live).found (after_passing s (passed s.sending.blocked s.sending.halves.live)) p i)))

    -- ---- what is acknowledged and lost

    pub acked_keeps : (s : StreamsState) (p : Retransmits) (m : StreamMeta) → Kept s p → KeptIn (after_stream_acked s p m)
    acked_keeps s p m i = go (sent_half s m.id)
      where
        go : (o : Option SendHalf) → KeptIn (acked_at o s p m)
        go None = i
        go (Some h) = either (is_some h.reset) (streams_of s p) (acked_on h s p m) i
            (either (is_acked (half_acked h m)) (settled (finished (replaced s m.id (half_acked h m)) m.id) p) (streams_of (replaced s m.id (half_acked h m)) p) (decides s (finished (replaced s m.id (half_acked h m)) m.id) p p (alike p) i) i)

    pub reset_acked_keeps : (s : StreamsState) (p : Retransmits) (id : ℕ) → Kept s p → KeptIn (after_reset_acked s p id)
    reset_acked_keeps s p id i = go (sent_half s id)
      where
        go : (o : Option SendHalf) → KeptIn (reset_acked_at o s p id)
        go None = i
        go (Some h) = either (is_some h.reset) (settled (send_done s id) p) (streams_of s p) (decides s (send_done s id) p p (alike p) i) i

    pub lost_keeps : (s : StreamsState) (p : Retransmits) (m : StreamMeta) → Kept s p → Kept (after_stream_lost s m) p
    lost_keeps s p m i = go (sent_half s m.id)
      where
        go : (o : Option SendHalf) → Kept (lost_at o s m) p
        go None = i
        go (Some h) = either_state (is_some h.reset) s _ p i i

    -- ---- frames

    again_keeps : (t : StreamsState) (p : Retransmits) (id : ℕ) (h : SendHalf) → Kept t p → Kept (writable_again t id h) p
    again_keeps t p id h i = either_state (room t.sending == 0) (joined t id h) _ p (joined_keeps t p id h i) i

    limit_keeps : (o : Option SendHalf) (t : StreamsState) (p : Retransmits) (id limit : ℕ) → Kept t p → Kept (limit_at o t id limit) p
    limit_keeps None t p id limit i = i
    limit_keeps (Some h) t p id limit i = either_state (nat_lt h.limit limit) (limit_raised t id h limit) t p
        (either_state (is_used_up h) (writable_again (with_send t id (limited_half h limit)) id (limited_half h limit)) (with_send t id (limited_half h limit)) p (again_keeps (with_send t id (limited_half h limit)) p id (limited_half h limit) i) i) i

    limit_unless_keeps : (o : Option Breach) (s : StreamsState) (p : Retransmits) (id limit : ℕ) → Kept s p → Kept (limit_unless o s id limit) p
    limit_unless_keeps (Some b) s p id limit i = i
    limit_unless_keeps None s p id limit i = limit_keeps (sending_for s id) (opened_by s id) p id limit (opened_keeps (opens s id) s p id i)

    stop_at_keeps : (o : Option SendHalf) (t : StreamsState) (p : Retransmits) (id code : ℕ) → Kept t p → Kept (stop_at o t id code) p
    stop_at_keeps None t p id code i = i
    stop_at_keeps (Some h) t p id code i = either_state (is_some h.stopped) t _ p i i

    stop_unless_keeps : (o : Option Breach) (s : StreamsState) (p : Retransmits) (f : StopSendingValue) → Kept s p → Kept (stop_unless o s f) p
    stop_unless_keeps (Some b) s p f i = i
    stop_unless_keeps None s p f i = stop_at_keeps (sending_for s f.id) (opened_by s f.id) p f.id f.code (opened_keeps (opens s f.id) s p f.id i)

    stream_keeps : (s : StreamsState) (p : Retransmits) (f : StreamValue) → Kept s p → KeptIn (taking.after_stream s p f)
    stream_keeps s p f i = go (refusal s f.id _ f.fin)
      where
        at_part : (o : Option RecvHalf) → KeptIn (stream_at o s p f)
        at_part None = i
        at_part (Some h) = decides s (renewed s f.id h (after_frame h f) true) p p (alike p) i

        go : (o : Option Breach) → KeptIn (stream_unless o s p f)
        go (Some b) = i
        go None = at_part (part_for s f.id)

    reset_frame_keeps : (s : StreamsState) (p : Retransmits) (f : ResetStreamValue) → Kept s p → KeptIn (taking.after_reset_frame s p f)
    reset_frame_keeps s p f i = go (reset_breach s f)
      where
        at_part : (o : Option RecvHalf) → KeptIn (taking.reset_at o s p f)
        at_part None = i
        at_part (Some h) = decides s (renewed s f.id h (after_reset_stream h f.code f.final_size) (not (is_some h.reset))) p p (alike p) i

        go : (o : Option Breach) → KeptIn (reset_unless o s p f)
        go (Some b) = i
        go None = at_part (part_for s f.id)

    counts_keep : (dir : Dir) (count : ℕ) (s : StreamsState) (p : Retransmits) → Kept s p → Kept (after_max_streams dir count s) p
    counts_keep dir count s p i = either_state _ _ s p i i

    -- a frame on streams
    pub frame_keeps : (f : FrameValue) (e : End) → OnStreams f → KeptIn (streams_at e) → KeptIn (streams_at (take_frame f e).end)
    frame_keeps (stream f) e on i = stream_keeps e.streams e.waiting.frames f i
    frame_keeps (reset_stream f) e on i = reset_frame_keeps e.streams e.waiting.frames f i
    frame_keeps (stop_sending f) e on i = stop_unless_keeps (sending_refusal e.streams f.id) e.streams e.waiting.frames f i
    frame_keeps (max_data limit) e on i = i
    frame_keeps (max_stream_data f) e on i = limit_unless_keeps (sending_refusal e.streams f.id) e.streams e.waiting.frames f.id f.limit i
    frame_keeps (max_streams f) e on i = counts_keep (dir_named f.one_way) f.count e.streams e.waiting.frames i
    frame_keeps f e on i = absurd on
