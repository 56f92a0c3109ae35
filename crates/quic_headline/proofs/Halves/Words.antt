-- A fact of what was done on streams and of their state, that each word about streams keeps, is
-- kept by each call, by what goes and by what comes.
use Rattle.std.proofs.Common.{◌≡◌, ℕ, ◌^◌, ◌<◌, Bool, true, false, List, [], ◌∷◌, length, Option, Some, None, Result, Ok, Err, refl, sym, subst, inl, inr}
use Rattle.std.specs.Prelude.{ℤ}
use Rattle.quic_wire_core.specs.declared.stream_id.Dir.{Dir}
use Rattle.quic_wire.specs.Value.{FrameValue, StreamValue, ResetStreamValue, StopSendingValue, stream, reset_stream, stop_sending, max_data, max_stream_data, max_streams}
use Rattle.quic_assembler.specs.declared.assembler.Chunk.{Chunk}
use Rattle.quic_send_buffer.specs.declared.stream_meta.StreamMeta.{StreamMeta}
use Rattle.quic_streams_parts.specs.declared.answers.ReadError.{ReadError}
use Rattle.quic_streams_parts.specs.declared.answers.ReadError.TheVariants as read_errors
use Rattle.quic_streams_parts.specs.declared.answers.WriteError.TheVariants as write_errors
use Rattle.quic_streams_parts.specs.declared.answers.UpdateError.{UpdateError}
use Rattle.quic_streams_parts.specs.Table.{at}
use Rattle.quic_streams_parts.specs.SendHalf.{SendHalf}
use Rattle.quic_streams_parts.specs.RecvHalf.{RecvHalf}
use Rattle.quic_retransmits.specs.Retransmits.{Retransmits}
use Rattle.quic_streams_state.specs.declared.state.StreamsState.{StreamsState}
use Rattle.quic_streams_state.specs.Control.{frame_told}
use Rattle.quic_streams_state.specs.State.{Streams, receiving_half}
use Rattle.quic_streams_state.specs.Opening.{after_open, after_accept, after_max_streams}
use Rattle.quic_streams_state.specs.Writing.{write_answer, after_write, write_chunks_answer, after_write_chunks, finish_answer, after_finish, reset_answer, after_reset, set_priority_answer, after_set_priority}
use Rattle.quic_streams_state.specs.Reading.{Told, told_bytes, told_end, told_reset, next_answer, told_by, read_by, after_next, after_read_begun, after_finalize, stop_answer, after_stop, after_received_reset}
use Rattle.quic_streams_state.specs.Taking.{after_stream, after_reset_frame, after_stop_sending, after_max_data, after_max_stream_data}
use Rattle.quic_streams_state.specs.Acked.{after_stream_lost}
use Rattle.quic_streams_state.specs.Telling.{polled}
use Rattle.quic_streams_state.specs.Frames.{after_frame_sent}
use Rattle.quic_streams_laws.specs.Written.{Wrote, wrote_by, wrote_chunks_by, wrote_end_by, wrote_reset_by}
use Rattle.quic_machine.specs.declared.run.Call.{Call}
use Rattle.quic_machine.specs.declared.run.Call.TheVariants as calls
use Rattle.quic_machine.specs.declared.run.Answer.{Answer}
use Rattle.quic_machine.specs.declared.run.Answer.TheVariants as answers
use Rattle.quic_machine.specs.Tracking.{dir_named}
use Rattle.quic_machine.specs.End.{End}
use Rattle.quic_machine.specs.Calls.{AreNexts, after_nexts}
use Rattle.quic_machine.specs.StreamCalls.{IsStreamAnswer, if_ok, after_on_streams}
use Rattle.quic_machine.specs.Receive.{take_frame}
use Rattle.quic_machine.specs.Poll.{Draft, composed}
use Rattle.quic_machine.specs.DraftLaws.{Writing, by_writing}
use Rattle.quic_machine.specs.Puts as puts
use Rattle.quic_machine.specs.FrameCases.{OnStreams}
use Rattle.quic_headline.proofs.Halves.Wrote.{done_by}
use Rattle.quic_headline.proofs.Halves.Small.{IsSmallLimit}

-- ---- words

-- What each word about streams keeps of a fact of what was done on them: first those of an
-- application, then those of what comes and goes.
pub record Words (F : (ℕ → Wrote) → StreamsState → Type 0) : Type 0 where
  pub writes : (is_open : Bool) (done : ℕ → Wrote) (s : StreamsState) (p : Retransmits) (id : ℕ) (bytes : List ℕ) → F done s → F (wrote_by (write_answer is_open s id (length bytes)) id bytes done) (after_write is_open (write_answer is_open s id (length bytes)) s p id bytes).state
  pub writes_chunks : (is_open : Bool) (done : ℕ → Wrote) (s : StreamsState) (p : Retransmits) (id : ℕ) (chunks : List (List ℕ)) → F done s
      → F (wrote_chunks_by (write_chunks_answer is_open s id chunks) id chunks done) (after_write_chunks is_open (write_chunks_answer is_open s id chunks) s p id chunks).state
  pub finishes : (done : ℕ → Wrote) (s : StreamsState) (id : ℕ) → F done s → F (wrote_end_by (finish_answer s id) id done) (after_finish s id)
  pub resets : (done : ℕ → Wrote) (s : StreamsState) (p : Retransmits) (id code : ℕ) → F done s → F (wrote_reset_by (reset_answer s id) id code done) (after_reset s p id code).state
  pub opens : (is_open : Bool) (dir : Dir) (done : ℕ → Wrote) (s : StreamsState) → F done s → F done (after_open is_open dir s)
  pub accepts : (dir : Dir) (done : ℕ → Wrote) (s : StreamsState) → F done s → F done (after_accept dir s)
  pub sets_priority : (done : ℕ → Wrote) (s : StreamsState) (id : ℕ) (priority : ℤ) → F done s → F done (after_set_priority s id priority)
  pub begins : (done : ℕ → Wrote) (s : StreamsState) (id : ℕ) (ordered : Bool) → F done s → F done (after_read_begun s id ordered)
  pub nexts : (done : ℕ → Wrote) (told : Told) (s : StreamsState) (id most : ℕ) → F done s → F done (after_next told (next_answer told s id most) s id most)
  pub finalizes : (done : ℕ → Wrote) (s : StreamsState) (p : Retransmits) (id : ℕ) → F done s → F done (after_finalize s p id).state
  pub stops : (done : ℕ → Wrote) (s : StreamsState) (p : Retransmits) (id code : ℕ) → F done s → F done (after_stop s p id code).state
  pub hears_reset : (done : ℕ → Wrote) (s : StreamsState) (p : Retransmits) (id : ℕ) → F done s → F done (after_received_reset s p id).state
  pub polls : (done : ℕ → Wrote) (s : StreamsState) → F done s → F done (polled s).state
  -- frames that come
  pub stream : (done : ℕ → Wrote) (s : StreamsState) (p : Retransmits) (f : StreamValue) → F done s → F done (after_stream s p f).state
  pub reset_frame : (done : ℕ → Wrote) (s : StreamsState) (p : Retransmits) (f : ResetStreamValue) → F done s → F done (after_reset_frame s p f).state
  pub stop_sending : (done : ℕ → Wrote) (s : StreamsState) (f : StopSendingValue) → F done s → F done (after_stop_sending s f)
  pub max_data : (done : ℕ → Wrote) (s : StreamsState) (limit : ℕ) → limit < 2 ^ 62 → F done s → F done (after_max_data s limit)
  pub max_stream_data : (done : ℕ → Wrote) (s : StreamsState) (id limit : ℕ) → limit < 2 ^ 62 → F done s → F done (after_max_stream_data s id limit)
  pub max_streams : (dir : Dir) (count : ℕ) (done : ℕ → Wrote) (s : StreamsState) → F done s → F done (after_max_streams dir count s)
  -- a STREAM frame is lost that had the end only where there is one
  pub lost : (done : ℕ → Wrote) (s : StreamsState) (m : StreamMeta) → (m.fin ≡ true → (done m.id).ended ≡ true) → F done s → F done (after_stream_lost s m)
  -- frames that go
  pub sends : (fair : Bool) (done : ℕ → Wrote) (s : StreamsState) (id : ℕ) (h : SendHalf) (room : ℕ) → at s.sending.halves.live id ≡ Some h → F done s → F done (after_frame_sent fair s id h room)
  pub tells : (f : FrameValue) (done : ℕ → Wrote) (s : StreamsState) → F done s → F done (frame_told f s)

-- those of an application alone
pub record CallWords (F : (ℕ → Wrote) → StreamsState → Type 0) : Type 0 where
  pub writes : (is_open : Bool) (done : ℕ → Wrote) (s : StreamsState) (p : Retransmits) (id : ℕ) (bytes : List ℕ) → F done s → F (wrote_by (write_answer is_open s id (length bytes)) id bytes done) (after_write is_open (write_answer is_open s id (length bytes)) s p id bytes).state
  pub writes_chunks : (is_open : Bool) (done : ℕ → Wrote) (s : StreamsState) (p : Retransmits) (id : ℕ) (chunks : List (List ℕ)) → F done s
      → F (wrote_chunks_by (write_chunks_answer is_open s id chunks) id chunks done) (after_write_chunks is_open (write_chunks_answer is_open s id chunks) s p id chunks).state
  pub finishes : (done : ℕ → Wrote) (s : StreamsState) (id : ℕ) → F done s → F (wrote_end_by (finish_answer s id) id done) (after_finish s id)
  pub resets : (done : ℕ → Wrote) (s : StreamsState) (p : Retransmits) (id code : ℕ) → F done s → F (wrote_reset_by (reset_answer s id) id code done) (after_reset s p id code).state
  pub opens : (is_open : Bool) (dir : Dir) (done : ℕ → Wrote) (s : StreamsState) → F done s → F done (after_open is_open dir s)
  pub accepts : (dir : Dir) (done : ℕ → Wrote) (s : StreamsState) → F done s → F done (after_accept dir s)
  pub sets_priority : (done : ℕ → Wrote) (s : StreamsState) (id : ℕ) (priority : ℤ) → F done s → F done (after_set_priority s id priority)
  pub begins : (done : ℕ → Wrote) (s : StreamsState) (id : ℕ) (ordered : Bool) → F done s → F done (after_read_begun s id ordered)
  pub nexts : (done : ℕ → Wrote) (told : Told) (s : StreamsState) (id most : ℕ) → F done s → F done (after_next told (next_answer told s id most) s id most)
  pub finalizes : (done : ℕ → Wrote) (s : StreamsState) (p : Retransmits) (id : ℕ) → F done s → F done (after_finalize s p id).state
  pub stops : (done : ℕ → Wrote) (s : StreamsState) (p : Retransmits) (id code : ℕ) → F done s → F done (after_stop s p id code).state
  pub hears_reset : (done : ℕ → Wrote) (s : StreamsState) (p : Retransmits) (id : ℕ) → F done s → F done (after_received_reset s p id).state

-- those of an application that write nothing
pub record OtherWords (F : (ℕ → Wrote) → StreamsState → Type 0) : Type 0 where
  pub finishes : (done : ℕ → Wrote) (s : StreamsState) (id : ℕ) → F done s → F (wrote_end_by (finish_answer s id) id done) (after_finish s id)
  pub resets : (done : ℕ → Wrote) (s : StreamsState) (p : Retransmits) (id code : ℕ) → F done s → F (wrote_reset_by (reset_answer s id) id code done) (after_reset s p id code).state
  pub opens : (is_open : Bool) (dir : Dir) (done : ℕ → Wrote) (s : StreamsState) → F done s → F done (after_open is_open dir s)
  pub accepts : (dir : Dir) (done : ℕ → Wrote) (s : StreamsState) → F done s → F done (after_accept dir s)
  pub sets_priority : (done : ℕ → Wrote) (s : StreamsState) (id : ℕ) (priority : ℤ) → F done s → F done (after_set_priority s id priority)
  pub begins : (done : ℕ → Wrote) (s : StreamsState) (id : ℕ) (ordered : Bool) → F done s → F done (after_read_begun s id ordered)
  pub nexts : (done : ℕ → Wrote) (told : Told) (s : StreamsState) (id most : ℕ) → F done s → F done (after_next told (next_answer told s id most) s id most)
  pub finalizes : (done : ℕ → Wrote) (s : StreamsState) (p : Retransmits) (id : ℕ) → F done s → F done (after_finalize s p id).state
  pub stops : (done : ℕ → Wrote) (s : StreamsState) (p : Retransmits) (id code : ℕ) → F done s → F done (after_stop s p id code).state
  pub hears_reset : (done : ℕ → Wrote) (s : StreamsState) (p : Retransmits) (id : ℕ) → F done s → F done (after_received_reset s p id).state

-- the same, of all that an application does
abbrev pub others_of : (F : (ℕ → Wrote) → StreamsState → Type 0) → CallWords F → OtherWords F
others_of F w = record {
  finishes = w.finishes;
  resets = w.resets;
  opens = w.opens;
  accepts = w.accepts;
  sets_priority = w.sets_priority;
  begins = w.begins;
  nexts = w.nexts;
  finalizes = w.finalizes;
  stops = w.stops;
  hears_reset = w.hears_reset;
}

-- whether a call writes
abbrev pub is_write : Call → Bool
is_write (calls.Write id bytes) = true
is_write (calls.WriteChunks id chunks) = true
is_write call = false

abbrev pub calls_of : (F : (ℕ → Wrote) → StreamsState → Type 0) → Words F → CallWords F
calls_of F w = record {
  writes = w.writes;
  writes_chunks = w.writes_chunks;
  finishes = w.finishes;
  resets = w.resets;
  opens = w.opens;
  accepts = w.accepts;
  sets_priority = w.sets_priority;
  begins = w.begins;
  nexts = w.nexts;
  finalizes = w.finalizes;
  stops = w.stops;
  hears_reset = w.hears_reset;
}

module _ (F : (ℕ → Wrote) → StreamsState → Type 0) (w : OtherWords F) where
  -- ---- calls

  -- a read that finds no memory
  next_lacks : (done : ℕ → Wrote) (told : Told) (s : StreamsState) (id most : ℕ) → F done s → F done (after_next told (Err read_errors.Memory) s id most)
  next_lacks done told_bytes s id most i = go (receiving_half s id)
    where
      go : (o : Option RecvHalf) → F done (read_by (Err read_errors.Memory) o s id most)
      go None = i
      go (Some h) = i
  next_lacks done told_end s id most i = i
  next_lacks done (told_reset code) s id most i = i

  -- several `next`s of a read
  nexts_on : (done : ℕ → Wrote) (told : Told) (s : StreamsState) (id : ℕ) (mosts : List ℕ) (said : List (Result (Option Chunk) ReadError)) → AreNexts told s id mosts said → F done s → F done (after_nexts told s id mosts said)
  nexts_on done told s id [] [] are i = i
  nexts_on done told s id [] (answer ∷ said) are i = absurd are
  nexts_on done told s id (most ∷ mosts) [] are i = absurd are
  nexts_on done told s id (most ∷ mosts) (answer ∷ said) are i = nexts_on done (told_by answer told) (after_next told answer s id most) id mosts said are.1 (elim are.0 [
    | inl is ↦ subst (λ (a : Result (Option Chunk) ReadError). F done (after_next told a s id most)) (sym is) (w.nexts done told s id most i)
    | inr is ↦ subst (λ (a : Result (Option Chunk) ReadError). F done (after_next told a s id most)) (sym is) (next_lacks done told s id most i)
  ])

  -- a read
  read_on : (b : Bool) (done : ℕ → Wrote) (t : Streams) (id : ℕ) (ordered : Bool) (mosts : List ℕ) (said : List (Result (Option Chunk) ReadError)) → AreNexts told_bytes (after_read_begun t.state id ordered) id mosts said → F done t.state
      → F done (after_finalize (after_nexts told_bytes (after_read_begun t.state id ordered) id mosts said) t.pending id).state
  read_on b done t id ordered mosts said are i = w.finalizes done _ t.pending id (nexts_on done told_bytes (after_read_begun t.state id ordered) id mosts said are (w.begins done t.state id ordered i))

  module _ (b : Bool) (done : ℕ → Wrote) (t : Streams) (i : F done t.state) where
    -- an update that is answered or refused
    if_done : {A E : Type 0} (r : Result A E) (after : Streams) → F done after.state → F done (if_ok r after t).state
    if_done (Ok x) after now = now
    if_done (Err error) after now = i

    reset_on : (r : Result (Unit {0}) UpdateError) (id code : ℕ) (after : Streams) → F (wrote_reset_by r id code done) after.state → F (wrote_reset_by r id code done) (if_ok r after t).state
    reset_on (Ok x) id code after now = now
    reset_on (Err error) id code after now = i

    -- what a call on streams leaves
    abbrev CallOn : Call → Answer → Type 0
    CallOn call a = F (done_by call a done) (after_on_streams b t call a).state

    pub other_with : (call : Call) (a : Answer) → is_write call ≡ false → IsStreamAnswer b t.state call a → CallOn call a
    other_with (calls.Open dir) a none is = w.opens b dir done t.state i
    other_with (calls.Accept dir) a none is = w.accepts dir done t.state i
    other_with (calls.Finish id) a none (inl is) = subst (CallOn (calls.Finish id)) (sym is) (w.finishes done t.state id i)
    other_with (calls.Finish id) a none (inr is) = subst (CallOn (calls.Finish id)) (sym is) i
    other_with (calls.Reset id code) a none (inl is) = subst (CallOn (calls.Reset id code)) (sym is) (reset_on (reset_answer t.state id) id code (after_reset t.state t.pending id code) (w.resets done t.state t.pending id code i))
    other_with (calls.Reset id code) a none (inr is) = subst (CallOn (calls.Reset id code)) (sym is) i
    other_with (calls.SetPriority id priority) a none (inl is) =
        subst (CallOn (calls.SetPriority id priority)) (sym is) (if_done (set_priority_answer t.state id) (record t { state = after_set_priority t.state id priority }) (w.sets_priority done t.state id priority i))
    other_with (calls.SetPriority id priority) a none (inr is) = subst (CallOn (calls.SetPriority id priority)) (sym is) i
    other_with (calls.Read read) (answers.Read (Ok said)) none is = read_on b done t read.id read.ordered read.nexts.items said is.1 i
    other_with (calls.Read read) (answers.Read (Err error)) none is = i
    other_with (calls.Read read) a none is = absurd is
    other_with (calls.Stop id code) a none (inl is) = subst (CallOn (calls.Stop id code)) (sym is) (if_done (stop_answer t.state id) (after_stop t.state t.pending id code) (w.stops done t.state t.pending id code i))
    other_with (calls.Stop id code) a none (inr is) = subst (CallOn (calls.Stop id code)) (sym is) i
    other_with (calls.ReceivedReset id) a none is = w.hears_reset done t.state t.pending id i
    other_with (calls.Write id bytes) a none is = cc
    other_with (calls.WriteChunks id chunks) a none is = cc
    other_with call a none is = absurd is

module _ (F : (ℕ → Wrote) → StreamsState → Type 0) (w : CallWords F) where
  module _ (b : Bool) (done : ℕ → Wrote) (t : Streams) (i : F done t.state) where
    -- a write that finds no memory
    write_lacks : (c : Bool) (id : ℕ) (bytes : List ℕ) → F done (after_write c (Err write_errors.Memory) t.state t.pending id bytes).state
    write_lacks true id bytes = i
    write_lacks false id bytes = i

    chunks_lack : (c : Bool) (id : ℕ) (chunks : List (List ℕ)) → F done (after_write_chunks c (Err write_errors.Memory) t.state t.pending id chunks).state
    chunks_lack true id chunks = i
    chunks_lack false id chunks = i

    -- what a call on streams leaves
    abbrev Leaves : Call → Answer → Type 0
    Leaves call a = F (done_by call a done) (after_on_streams b t call a).state

    pub call_with : (call : Call) (a : Answer) → IsStreamAnswer b t.state call a → Leaves call a
    call_with (calls.Write id bytes) a (inl is) = subst (Leaves (calls.Write id bytes)) (sym is) (w.writes b done t.state t.pending id bytes i)
    call_with (calls.Write id bytes) a (inr is) = subst (Leaves (calls.Write id bytes)) (sym is) (write_lacks b id bytes)
    call_with (calls.WriteChunks id chunks) a (inl is) = subst (Leaves (calls.WriteChunks id chunks)) (sym is) (w.writes_chunks b done t.state t.pending id chunks.items i)
    call_with (calls.WriteChunks id chunks) a (inr is) = subst (Leaves (calls.WriteChunks id chunks)) (sym is) (chunks_lack b id chunks.items)
    call_with call a is = other_with F (others_of F w) b done t i call a refl is

module _ (F : (ℕ → Wrote) → StreamsState → Type 0) (w : Words F) where
  -- ---- calls

  pub call_on : (b : Bool) (done : ℕ → Wrote) (t : Streams) → F done t.state → (call : Call) (a : Answer) → IsStreamAnswer b t.state call a → F (done_by call a done) (after_on_streams b t call a).state
  call_on b done t i call a is = call_with F (calls_of F w) b done t i call a is

  -- ---- what goes

  -- whichever frames go
  pub composed_on : (done : ℕ → Wrote) (e : End) → F done e.streams → F done (composed e).end.streams
  composed_on done e i = by_writing (λ (d : Draft). F done d.end.streams) keep e i
    where
      keep : Writing (λ (d : Draft). F done d.end.streams)
      keep (puts.control kind f) d may i = w.tells f done d.end.streams i
      keep (puts.stream id h room) d (found, first, some, is, counts) f = w.sends d.end.transport.send_fairness done d.end.streams id h room found f
      keep p d may f = f

  -- ---- what comes

  -- a frame on streams
  pub frame_on : (done : ℕ → Wrote) (f : FrameValue) (e : End) → OnStreams f → IsSmallLimit f → F done e.streams → F done (take_frame f e).end.streams
  frame_on done (stream f) e on small i = w.stream done e.streams e.waiting.frames f i
  frame_on done (reset_stream f) e on small i = w.reset_frame done e.streams e.waiting.frames f i
  frame_on done (stop_sending f) e on small i = w.stop_sending done e.streams f i
  frame_on done (max_data limit) e on small i = w.max_data done e.streams limit small i
  frame_on done (max_stream_data f) e on small i = w.max_stream_data done e.streams f.id f.limit small i
  frame_on done (max_streams f) e on small i = w.max_streams (dir_named f.one_way) f.count done e.streams i
  frame_on done f e on small i = absurd on
