-- No word about streams but an acknowledgement, and what is told, changes which streams wait to be
-- told finished.
use Rattle.std.proofs.Common.{◌≡◌, ℕ, ◌+◌, Bool, true, false, List, [], ◌∷◌, length, Option, Some, None, Result, Ok, Err, refl, ap, ◌∙◌, arith}
use Rattle.std.specs.Prelude.{zero, suc, ◌==◌, ◌&&◌, ◌||◌, not, nat_le, nat_lt, take, ℤ}
use Rattle.std.specs.Option.{is_some}
use Rattle.std.proofs.lemmas.Bool.{cond_both}
use Rattle.quic_wire_core.specs.StreamId.{dir_of}
use Rattle.quic_wire_core.specs.declared.stream_id.Dir.{Dir}
use Rattle.quic_wire.specs.Value.{FrameValue, StreamValue, ResetStreamValue, StopSendingValue}
use Rattle.quic_assembler.specs.declared.assembler.Chunk.{Chunk}
use Rattle.quic_send_buffer.specs.declared.stream_meta.StreamMeta.{StreamMeta}
use Rattle.quic_streams_parts.specs.declared.answers.Breach.{Breach}
use Rattle.quic_streams_parts.specs.declared.answers.ClosedStream.{ClosedStream}
use Rattle.quic_streams_parts.specs.declared.answers.FinishError.{FinishError}
use Rattle.quic_streams_parts.specs.declared.answers.ReadError.{ReadError}
use Rattle.quic_streams_parts.specs.declared.answers.ReadError.TheVariants as read_errors
use Rattle.quic_streams_parts.specs.declared.answers.ReadableError.{ReadableError}
use Rattle.quic_streams_parts.specs.declared.answers.StreamEvent.{StreamEvent}
use Rattle.quic_streams_parts.specs.declared.answers.StreamEvent.TheVariants as stream_events
use Rattle.quic_streams_parts.specs.declared.answers.WriteError.{WriteError}
use Rattle.quic_streams_parts.specs.declared.answers.WriteError.TheVariants as write_errors
use Rattle.quic_streams_parts.specs.declared.answers.Written.{Written}
use Rattle.quic_streams_parts.specs.Dirs.{of, is_own, is_two_way}
use Rattle.quic_streams_parts.specs.Events.{with_event}
use Rattle.quic_streams_parts.specs.Table.{at}
use Rattle.quic_streams_parts.specs.SendHalf.{SendHalf, was_said}
use Rattle.quic_streams_parts.specs.RecvHalf.{RecvHalf, after_frame, after_reset_stream}
use Rattle.quic_streams_halves.specs.Halves.{is_done, without_half}
use Rattle.quic_retransmits.specs.Retransmits.{Retransmits}
use Rattle.quic_streams_state.specs.declared.state.StreamsState.{StreamsState}
use Rattle.quic_streams_state.specs.Control.{frame_told}
use Rattle.quic_streams_state.specs.State.{Streams, receiving_half, sending_half, with_recv, with_send, send_done, without_send, recv_done, done_if, receiving_status, sending_status, seen_at, room}
use Rattle.quic_streams_state.specs.Limits.{most_streams}
use Rattle.quic_streams_state.specs.Opening.{opened_if, opened_by, opens, after_open, after_max_streams, sending_refusal}
use Rattle.quic_streams_state.specs.Taking.{joined, part_for, readable_if, ended_if, renewed, stream_at, stream_unless, after_stream, refusal, reset_at as taken_reset_at, reset_unless, after_reset_frame, sending_for, stop_at, stop_unless, after_stop_sending, writable_again, limited_half, limit_raised, limit_at, limit_unless, after_max_stream_data, stopped_half, is_used_up}
use Rattle.quic_streams_state.specs.Writing.{after_write, written_by, blocked_at, accepted_at, after_write_chunks, chunks_written_by, chunks_accepted_at, finish_answer, after_finish, finished_by, ended_at, after_reset, reset_at, after_set_priority, priority_at}
use Rattle.quic_streams_state.specs.Reading.{Told, told_bytes, told_end, told_reset, after_next, read_by, after_read_begun, read_answer, begun_unless, begun_at, stopped_if, stopped_at, after_stop, reset_told, received_reset_answer, after_received_reset}
use Rattle.quic_streams_state.specs.Acked.{after_stream_lost, lost_at, after_reset_acked, reset_acked_at}
use Rattle.quic_streams_laws.specs.Keeping.{finishes_in}
use Rattle.quic_streams_laws.specs.KeepingLaws.{finishes_append}
use Rattle.quic_streams_laws.specs.QuietLaws.{by_tells}

-- as often each stream waits to be told finished in both
abbrev pub AsOften : List StreamEvent → List StreamEvent → Type 0
AsOften new old = (id : ℕ) → finishes_in id new ≡ finishes_in id old

-- the same is to be told, in both
abbrev pub SameTold : StreamsState → StreamsState → Type 0
SameTold s t = AsOften t.events.queue s.events.queue

pub same_told : (s t : StreamsState) → t.events.queue ≡ s.events.queue → SameTold s t
same_told s t is id = ap (finishes_in id) is

told_then : (s t u : StreamsState) → SameTold s t → SameTold t u → SameTold s u
told_then s t u one two id = two id ∙ one id

-- an event behind the others, of another kind
more_told : (s : StreamsState) (event : StreamEvent) → ((id : ℕ) → finishes_in id (event ∷ []) ≡ 0) → SameTold s (record s { events = with_event event s.events })
more_told s event none id = let all = finishes_append id s.events.queue (event ∷ []) in let zero = none id in omega arith

-- ---- halves

done_queue : (b : Bool) (id : ℕ) (s : StreamsState) → (done_if b id s).events.queue ≡ s.events.queue
done_queue true id s = refl
done_queue false id s = refl

pub sent_queue : (s : StreamsState) (id : ℕ) → (send_done s id).events.queue ≡ s.events.queue
sent_queue s id = done_queue (not (is_own s.side id) && is_done (receiving_status s id)) id (without_send s id)

pub received_queue : (s : StreamsState) (id : ℕ) → (recv_done s id).events.queue ≡ s.events.queue
received_queue s id = done_queue (not (is_own s.side id) && (not (is_two_way (dir_of id)) || is_done (sending_status s id))) id (record s { receiving = record s.receiving { halves = without_half s.receiving.halves id; gone = s.receiving.gone + seen_at (at s.receiving.halves.live id) } })

joined_queue : (s : StreamsState) (id : ℕ) (h : SendHalf) → (joined s id h).events.queue ≡ s.events.queue
joined_queue s id h = cond_both h.blocked s _ (λ (t : StreamsState). t.events.queue ≡ s.events.queue) (λ e. refl) (λ e. refl)

opened_queue : (b : Bool) (id : ℕ) (s : StreamsState) → (opened_if b id s).events.queue ≡ s.events.queue
opened_queue true id s = refl
opened_queue false id s = refl

-- ---- calls

accepted_queue : (o : Option SendHalf) (s : StreamsState) (id : ℕ) (bytes : List ℕ) → (accepted_at o s id bytes).events.queue ≡ s.events.queue
accepted_queue None s id bytes = refl
accepted_queue (Some h) s id bytes = cond_both (length bytes == 0) s _ (λ (t : StreamsState). t.events.queue ≡ s.events.queue) (λ e. refl) (λ e. refl)

blocked_queue : (o : Option SendHalf) (s : StreamsState) (p : Retransmits) (id : ℕ) → (blocked_at o s p id).state.events.queue ≡ s.events.queue
blocked_queue None s p id = refl
blocked_queue (Some h) s p id = cond_both {A = Streams} (room s.sending == 0) _ _ (λ (t : Streams). t.state.events.queue ≡ s.events.queue) (λ e. joined_queue s id h)
    (λ e. cond_both {A = Streams} (was_said h.said h.limit) _ _ (λ (t : Streams). t.state.events.queue ≡ s.events.queue) (λ f. refl) (λ f. refl))

written_queue : (answer : Result ℕ WriteError) (s : StreamsState) (p : Retransmits) (id : ℕ) (bytes : List ℕ) → (written_by answer s p id bytes).state.events.queue ≡ s.events.queue
written_queue (Ok n) s p id bytes = accepted_queue (sending_half s id) s id (take n bytes)
written_queue (Err write_errors.Blocked) s p id bytes = blocked_queue (sending_half s id) s p id
written_queue (Err (write_errors.Stopped code)) s p id bytes = refl
written_queue (Err write_errors.ClosedStream) s p id bytes = refl
written_queue (Err write_errors.Memory) s p id bytes = refl

pub write_queue : (b : Bool) (answer : Result ℕ WriteError) (s : StreamsState) (p : Retransmits) (id : ℕ) (bytes : List ℕ) → (after_write b answer s p id bytes).state.events.queue ≡ s.events.queue
write_queue true answer s p id bytes = written_queue answer s p id bytes
write_queue false answer s p id bytes = refl

chunks_taken_queue : (o : Option SendHalf) (s : StreamsState) (id n : ℕ) (cs : List (List ℕ)) → (chunks_accepted_at o s id n cs).events.queue ≡ s.events.queue
chunks_taken_queue None s id n cs = refl
chunks_taken_queue (Some h) s id zero cs = refl
chunks_taken_queue (Some h) s id (suc n) cs = refl

chunks_written_queue : (answer : Result Written WriteError) (s : StreamsState) (p : Retransmits) (id : ℕ) (cs : List (List ℕ)) → (chunks_written_by answer s p id cs).state.events.queue ≡ s.events.queue
chunks_written_queue (Ok w) s p id cs = chunks_taken_queue (sending_half s id) s id w.bytes cs
chunks_written_queue (Err e) s p id cs = written_queue (Err e) s p id []

pub chunks_queue : (b : Bool) (answer : Result Written WriteError) (s : StreamsState) (p : Retransmits) (id : ℕ) (cs : List (List ℕ)) → (after_write_chunks b answer s p id cs).state.events.queue ≡ s.events.queue
chunks_queue true answer s p id cs = chunks_written_queue answer s p id cs
chunks_queue false answer s p id cs = refl

pub finish_queue : (s : StreamsState) (id : ℕ) → (after_finish s id).events.queue ≡ s.events.queue
finish_queue s id = go (finish_answer s id)
  where
    on : (o : Option SendHalf) → (ended_at o s id).events.queue ≡ s.events.queue
    on None = refl
    on (Some h) = refl

    go : (r : Result (Unit {0}) FinishError) → (finished_by r s id).events.queue ≡ s.events.queue
    go (Ok x) = on (sending_half s id)
    go (Err e) = refl

pub reset_queue : (s : StreamsState) (p : Retransmits) (id code : ℕ) → (after_reset s p id code).state.events.queue ≡ s.events.queue
reset_queue s p id code = go (sending_half s id)
  where
    go : (o : Option SendHalf) → (reset_at o s p id code).state.events.queue ≡ s.events.queue
    go None = refl
    go (Some h) = cond_both {A = Streams} (is_some h.reset) _ _ (λ (t : Streams). t.state.events.queue ≡ s.events.queue) (λ e. refl) (λ e. refl)

pub open_queue : (b : Bool) (dir : Dir) (s : StreamsState) → (after_open b dir s).events.queue ≡ s.events.queue
open_queue true dir s = refl
open_queue false dir s = refl

pub priority_queue : (s : StreamsState) (id : ℕ) (priority : ℤ) → (after_set_priority s id priority).events.queue ≡ s.events.queue
priority_queue s id priority = go (sending_half s id)
  where
    go : (o : Option SendHalf) → (priority_at o s id priority).events.queue ≡ s.events.queue
    go None = refl
    go (Some h) = refl

pub begun_queue : (s : StreamsState) (id : ℕ) (ordered : Bool) → (after_read_begun s id ordered).events.queue ≡ s.events.queue
begun_queue s id ordered = go (read_answer s id ordered)
  where
    on : (o : Option RecvHalf) (b : Bool) → (begun_at o s id b).events.queue ≡ s.events.queue
    on None b = refl
    on (Some h) true = refl
    on (Some h) false = refl

    go : (r : Result (Unit {0}) ReadableError) → (begun_unless r s id ordered).events.queue ≡ s.events.queue
    go (Ok x) = on (receiving_half s id) ordered
    go (Err e) = refl

pub next_queue : (told : Told) (answer : Result (Option Chunk) ReadError) (s : StreamsState) (id most : ℕ) → (after_next told answer s id most).events.queue ≡ s.events.queue
next_queue told_bytes answer s id most = go answer (receiving_half s id)
  where
    go : (r : Result (Option Chunk) ReadError) (o : Option RecvHalf) → (read_by r o s id most).events.queue ≡ s.events.queue
    go r None = refl
    go (Ok (Some c)) (Some h) = refl
    go (Ok None) (Some h) = received_queue s id
    go (Err (read_errors.Reset code)) (Some h) = received_queue s id
    go (Err read_errors.Blocked) (Some h) = refl
    go (Err read_errors.Memory) (Some h) = refl
next_queue told_end answer s id most = refl
next_queue (told_reset code) answer s id most = refl

pub stop_queue : (s : StreamsState) (p : Retransmits) (id code : ℕ) → (after_stop s p id code).state.events.queue ≡ s.events.queue
stop_queue s p id code = go (receiving_half s id)
  where
    on : (b : Bool) (h : RecvHalf) → (stopped_if b s id h).events.queue ≡ s.events.queue
    on true h = received_queue (with_recv s id _) id
    on false h = refl

    go : (o : Option RecvHalf) → (stopped_at o s p id code).state.events.queue ≡ s.events.queue
    go None = refl
    go (Some h) = cond_both {A = Streams} h.stopped _ _ (λ (t : Streams). t.state.events.queue ≡ s.events.queue) (λ e. refl) (λ e. on (is_some h.final) h)

pub hears_queue : (s : StreamsState) (p : Retransmits) (id : ℕ) → (after_received_reset s p id).state.events.queue ≡ s.events.queue
hears_queue s p id = go (received_reset_answer s id)
  where
    go : (r : Result (Option ℕ) ClosedStream) → (reset_told r s p id).state.events.queue ≡ s.events.queue
    go (Ok (Some code)) = received_queue s id
    go (Ok None) = refl
    go (Err e) = refl

-- ---- frames that come

renewed_told : (s : StreamsState) (id : ℕ) (old new : RecvHalf) (tells : Bool) → SameTold s (renewed s id old new tells)
renewed_told s id old new tells = told_then s ended (renewed s id old new tells) (same_told s ended (over (new.stopped && is_some new.final) ∙ opened_queue (opens s id) id s)) (readable (tells && not (old.stopped || opens s id)) ended)
  where
    with_new : StreamsState
    with_new = with_recv (opened_by s id) id new

    ended : StreamsState
    ended = ended_if (new.stopped && is_some new.final) id with_new

    over : (b : Bool) → (ended_if b id with_new).events.queue ≡ with_new.events.queue
    over true = received_queue with_new id
    over false = refl

    readable : (b : Bool) (t : StreamsState) → SameTold t (readable_if b id t)
    readable true t = more_told t (stream_events.Readable id) (λ q. refl)
    readable false t = λ q. refl

pub stream_told : (s : StreamsState) (p : Retransmits) (f : StreamValue) → SameTold s (after_stream s p f).state
stream_told s p f = go (refusal s f.id _ f.fin)
  where
    on : (o : Option RecvHalf) → SameTold s (stream_at o s p f).state
    on None = λ q. refl
    on (Some h) = renewed_told s f.id h (after_frame h f) true

    go : (o : Option Breach) → SameTold s (stream_unless o s p f).state
    go (Some b) = λ q. refl
    go None = on (part_for s f.id)

pub reset_told_on : (s : StreamsState) (p : Retransmits) (f : ResetStreamValue) → SameTold s (after_reset_frame s p f).state
reset_told_on s p f = go (refusal s f.id f.final_size true)
  where
    on : (o : Option RecvHalf) → SameTold s (taken_reset_at o s p f).state
    on None = λ q. refl
    on (Some h) = renewed_told s f.id h (after_reset_stream h f.code f.final_size) (not (is_some h.reset))

    go : (o : Option Breach) → SameTold s (reset_unless o s p f).state
    go (Some b) = λ q. refl
    go None = on (part_for s f.id)

pub stop_sending_told : (s : StreamsState) (f : StopSendingValue) → SameTold s (after_stop_sending s f)
stop_sending_told s f = go (sending_refusal s f.id)
  where
    opened : StreamsState
    opened = opened_by s f.id

    on : (o : Option SendHalf) → SameTold opened (stop_at o opened f.id f.code)
    on None = λ q. refl
    on (Some h) = cond_both (is_some h.stopped) opened _ (SameTold opened) (λ e q. refl) (λ e. more_told (with_send opened f.id (stopped_half h f.code)) (stream_events.Stopped f.id f.code) (λ q. refl))

    go : (o : Option Breach) → SameTold s (stop_unless o s f)
    go (Some b) = λ q. refl
    go None = told_then s opened (stop_at (sending_for s f.id) opened f.id f.code) (same_told s opened (opened_queue (opens s f.id) f.id s)) (on (sending_for s f.id))

pub max_stream_data_told : (s : StreamsState) (id limit : ℕ) → SameTold s (after_max_stream_data s id limit)
max_stream_data_told s id limit = go (sending_refusal s id)
  where
    opened : StreamsState
    opened = opened_by s id

    again : (t : StreamsState) (h : SendHalf) → SameTold t (writable_again t id h)
    again t h = cond_both (room t.sending == 0) _ _ (SameTold t) (λ e. same_told t (joined t id h) (joined_queue t id h)) (λ e. more_told t (stream_events.Writable id) (λ q. refl))

    raised : (h : SendHalf) → SameTold opened (limit_raised opened id h limit)
    raised h = cond_both (is_used_up h) _ _ (SameTold opened) (λ e. again (with_send opened id (limited_half h limit)) (limited_half h limit)) (λ e q. refl)

    on : (o : Option SendHalf) → SameTold opened (limit_at o opened id limit)
    on None = λ q. refl
    on (Some h) = cond_both (nat_lt h.limit limit) _ _ (SameTold opened) (λ e. raised h) (λ e q. refl)

    go : (o : Option Breach) → SameTold s (limit_unless o s id limit)
    go (Some b) = λ q. refl
    go None = told_then s opened (limit_at (sending_for s id) opened id limit) (same_told s opened (opened_queue (opens s id) id s)) (on (sending_for s id))

pub max_streams_told : (dir : Dir) (count : ℕ) (s : StreamsState) → SameTold s (after_max_streams dir count s)
max_streams_told dir count s = cond_both (nat_le count most_streams && nat_lt (of dir s.opening.own_limit) count) _ _ (SameTold s) (λ e. more_told s (stream_events.Available dir) (λ q. refl)) (λ e q. refl)

pub lost_queue : (s : StreamsState) (m : StreamMeta) → (after_stream_lost s m).events.queue ≡ s.events.queue
lost_queue s m = go (at s.sending.halves.live m.id)
  where
    go : (o : Option SendHalf) → (lost_at o s m).events.queue ≡ s.events.queue
    go None = refl
    go (Some h) = cond_both (is_some h.reset) s _ (λ (t : StreamsState). t.events.queue ≡ s.events.queue) (λ e. refl) (λ e. refl)

pub reset_acked_queue : (s : StreamsState) (p : Retransmits) (id : ℕ) → (after_reset_acked s p id).state.events.queue ≡ s.events.queue
reset_acked_queue s p id = go (at s.sending.halves.live id)
  where
    go : (o : Option SendHalf) → (reset_acked_at o s p id).state.events.queue ≡ s.events.queue
    go None = refl
    go (Some h) = cond_both {A = Streams} (is_some h.reset) _ _ (λ (t : Streams). t.state.events.queue ≡ s.events.queue) (λ e. sent_queue s id) (λ e. refl)

-- ---- frames that go

pub told_queue : (f : FrameValue) (s : StreamsState) → (frame_told f s).events.queue ≡ s.events.queue
told_queue f s = by_tells (λ (t : StreamsState). t.events.queue ≡ s.events.queue) s refl refl (λ id. refl) (λ dir. refl) (λ limit. refl) (λ id limit. refl) f
