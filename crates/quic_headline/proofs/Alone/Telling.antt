-- How much there is to tell of the streams of an end: each word about them adds at most as much as
-- frames and blocked writes allow it, and what is told is no longer to be told.
use Rattle.std.proofs.Common.{◌≡◌, ℕ, ◌+◌, ◌≤◌, Bool, true, false, List, [], ◌∷◌, ◌++◌, length, Option, Some, None, Result, Ok, Err, refl, ap, arith}
use Rattle.std.specs.Prelude.{ℤ, nat_lt, nat_le, ◌==◌, ◌&&◌, ◌||◌, not, if◌then◌else◌}
use Rattle.std.specs.Option.{is_some}
use Rattle.quic_wire_core.specs.declared.stream_id.Dir.{Dir}
use Rattle.quic_wire_core.specs.declared.stream_id.Dir.TheVariants.{Bi, Uni}
use Rattle.quic_wire_core.specs.StreamId.{dir_of}
use Rattle.quic_wire.specs.Value.{StreamValue, ResetStreamValue, StopSendingValue}
use Rattle.quic_send_buffer.specs.declared.stream_meta.StreamMeta.{StreamMeta}
use Rattle.quic_retransmits.specs.Retransmits.{Retransmits, with_id}
use Rattle.quic_streams_parts.specs.declared.answers.Breach.{Breach}
use Rattle.quic_streams_parts.specs.declared.answers.StreamEvent.{StreamEvent}
use Rattle.quic_streams_parts.specs.declared.answers.StreamEvent.TheVariants.{Opened, Readable, Writable, Finished, Stopped, Available}
use Rattle.quic_streams_parts.specs.declared.answers.ReadError.TheVariants as read_errors
use Rattle.quic_streams_parts.specs.declared.answers.ReadableError.{ReadableError}
use Rattle.quic_streams_parts.specs.declared.answers.ClosedStream.{ClosedStream}
use Rattle.quic_streams_parts.specs.declared.answers.FinishError.{FinishError}
use Rattle.quic_streams_parts.specs.Table.{Table, at}
use Rattle.quic_streams_parts.specs.Dirs.{of, is_own, is_two_way}
use Rattle.quic_streams_parts.specs.Events.{Events, with_opened, with_event, first_of, others_of}
use Rattle.quic_streams_parts.specs.SendHalf.{SendHalf, was_said, Queued, is_acked, half_acked, half_lost}
use Rattle.quic_streams_parts.specs.RecvHalf.{RecvHalf, end_of, after_frame, after_reset_stream, stopped_now}
use Rattle.quic_streams_halves.specs.Halves.{without_half, is_done}
use Rattle.quic_streams_state.specs.declared.state.StreamsState.{StreamsState}
use Rattle.quic_streams_state.specs.State.{room, sending_half, receiving_half, sending_status, receiving_status, streams_of, with_send, with_recv, done_if, without_send, send_done, recv_done, seen_at}
use Rattle.quic_streams_state.specs.Limits.{most_streams, settled}
use Rattle.quic_streams_state.specs.Opening.{opens, opened_if, opened_by, after_open, sending_refusal, with_own_limit, after_max_streams}
use Rattle.quic_streams_state.specs.Taking.{part_for, refusal, readable_if, ended_if, renewed, stream_at, stream_unless, after_stream, reset_breach, reset_at as taken_reset, reset_unless, after_reset_frame, sending_for, stopped_half, stop_at, stop_unless, after_stop_sending, joined, writable_again, limited_half, is_used_up, limit_raised, limit_at, limit_unless, after_max_stream_data}
use Rattle.quic_streams_state.specs.Sends.{with_queued, reset_half}
use Rattle.quic_streams_state.specs.Writing.{blocked_by_all, blocked_by_own, blocked_at, replaced, finish_answer, ended_at, finished_by, after_finish, reset_at, after_reset, priority_at, after_set_priority}
use Rattle.quic_streams_state.specs.Reading.{Told, told_bytes, told_end, told_reset, read_answer, begun_at, begun_unless, after_read_begun, read_by, after_next, with_stop, stopped_if, stopped_at, after_stop, reset_told, received_reset_answer, after_received_reset}
use Rattle.quic_streams_state.specs.Acked.{sent_half, finished, acked_on, acked_at, after_stream_acked, reset_acked_at, after_reset_acked, lost_at, after_stream_lost}
use Rattle.quic_streams_state.specs.Telling.{Telling, Passing, is_writable, unblocked_at, passed, after_passing, told_next, told_behind, told_writable, told_opened, polled}
use Rattle.quic_headline.specs.Runs.{Next}
use Rattle.quic_headline.proofs.Alone.Streams.{CallsKeep, write_leaves, chunks_leave}

-- ---- how much there is to tell

-- how many events wait, but those that a stream is finished
abbrev pub others_in : List StreamEvent → ℕ
others_in [] = 0
others_in (Finished id ∷ events) = others_in events
others_in (event ∷ events) = 1 + others_in events

-- whether streams were opened, as a count
abbrev pub flag : Bool → ℕ
flag true = 1
flag false = 0

-- that streams were opened, what else happened, and the streams whose write the connection blocked
abbrev pub waiting : Events → List ℕ → ℕ
waiting v blocked = others_in v.queue + flag v.opened.bi + flag v.opened.uni + length blocked

-- with so much beside, there is at most so much to tell
abbrev pub Owes : ℕ → ℕ → StreamsState → Type 0
Owes k n s = waiting s.events s.sending.blocked + k ≤ n

-- ---- one event

events_append : (events : List StreamEvent) (event : StreamEvent) → others_in (events ++ event ∷ []) ≡ others_in events + others_in (event ∷ [])
events_append [] event = omega arith
events_append (Finished id ∷ events) event = events_append events event
events_append (Opened dir ∷ events) event = let more = events_append events event in omega arith
events_append (Readable id ∷ events) event = let more = events_append events event in omega arith
events_append (Writable id ∷ events) event = let more = events_append events event in omega arith
events_append (Stopped id code ∷ events) event = let more = events_append events event in omega arith
events_append (Available dir ∷ events) event = let more = events_append events event in omega arith

told_once : (event : StreamEvent) → others_in (event ∷ []) ≤ 1
told_once (Finished id) = omega arith
told_once (Opened dir) = omega arith
told_once (Readable id) = omega arith
told_once (Writable id) = omega arith
told_once (Stopped id code) = omega arith
told_once (Available dir) = omega arith

-- one that happens
queued : (k n : ℕ) (event : StreamEvent) (s : StreamsState) → Owes (1 + k) n s → Owes k n (record s { events = with_event event s.events })
queued k n event s i = let more = events_append s.events.queue event in let one = told_once event in omega arith

-- that a stream is finished
finishes : (k n id : ℕ) (s : StreamsState) → Owes k n s → Owes k n (record s { events = with_event (Finished id) s.events })
finishes k n id s i = let more = events_append s.events.queue (Finished id) in omega arith

-- with less beside
lighter : (j k n : ℕ) (s : StreamsState) → Owes (j + k) n s → Owes k n s
lighter j k n s i = omega arith

-- the peer opens streams of a kind
opens_kind : (k n : ℕ) (dir : Dir) (v : Events) (blocked : List ℕ) → waiting v blocked + (1 + k) ≤ n → waiting (with_opened dir v) blocked + k ≤ n
opens_kind k n Bi v blocked i = omega arith
opens_kind k n Uni v blocked i = omega arith

opens_it : (k n id : ℕ) (s : StreamsState) → Owes (1 + k) n s → Owes k n (opened_if true id s)
opens_it k n id s i = opens_kind k n (dir_of id) s.events s.sending.blocked i

opens_maybe : (k n : ℕ) (b : Bool) (id : ℕ) (s : StreamsState) → Owes (1 + k) n s → Owes k n (opened_if b id s)
opens_maybe k n true id s i = opens_it k n id s i
opens_maybe k n false id s i = lighter 1 k n s i

-- ---- halves that are done

done : (k n : ℕ) (b : Bool) (id : ℕ) (s : StreamsState) → Owes k n s → Owes k n (done_if b id s)
done k n true id s i = i
done k n false id s i = i

send_ends : (k n id : ℕ) (s : StreamsState) → Owes k n s → Owes k n (send_done s id)
send_ends k n id s i = done k n (not (is_own s.side id) && is_done (receiving_status s id)) id (without_send s id) i

recv_ends : (k n id : ℕ) (s : StreamsState) → Owes k n s → Owes k n (recv_done s id)
recv_ends k n id s i =
    done k n (not (is_own s.side id) && (not (is_two_way (dir_of id)) || is_done (sending_status s id))) id (record s { receiving = record s.receiving { halves = without_half s.receiving.halves id; gone = s.receiving.gone + seen_at (at s.receiving.halves.live id) } }) i

-- ---- frames that come

-- a part has another value: that its stream was opened is told, or else that it may be read
read_again : (k n : ℕ) (b : Bool) (id : ℕ) (s : StreamsState) → Owes (1 + k) n s → Owes k n (readable_if b id s)
read_again k n true id s i = queued k n (Readable id) s i
read_again k n false id s i = lighter 1 k n s i

opened_alone : (k n : ℕ) (tells stopped : Bool) (id : ℕ) (s : StreamsState) → Owes k n s → Owes k n (readable_if (tells && not (stopped || true)) id s)
opened_alone k n true true id s i = i
opened_alone k n true false id s i = i
opened_alone k n false stopped id s i = i

ends : (k n : ℕ) (b : Bool) (id : ℕ) (s : StreamsState) → Owes k n s → Owes k n (ended_if b id s)
ends k n true id s i = recv_ends k n id s i
ends k n false id s i = i

renews : (k n : ℕ) (s : StreamsState) (id : ℕ) (old new : RecvHalf) (tells : Bool) → Owes (1 + k) n s → Owes k n (renewed s id old new tells)
renews k n s id old new tells i = go (opens s id)
  where
    b : Bool
    b = new.stopped && is_some new.final

    go : (o : Bool) → Owes k n (readable_if (tells && not (old.stopped || o)) id (ended_if b id (with_recv (opened_if o id s) id new)))
    go true = let t : StreamsState = with_recv (opened_if true id s) id new in opened_alone k n tells old.stopped id (ended_if b id t) (ends k n b id t (opens_it k n id s i))
    go false = let t : StreamsState = with_recv s id new in read_again k n (tells && not (old.stopped || false)) id (ended_if b id t) (ends (1 + k) n b id t i)

-- STREAM
pub stream_owes : (k n : ℕ) (s : StreamsState) (p : Retransmits) (f : StreamValue) → Owes (1 + k) n s → Owes k n (after_stream s p f).state
stream_owes k n s p f i = go (refusal s f.id (end_of f) f.fin)
  where
    part : (o : Option RecvHalf) → Owes k n (stream_at o s p f).state
    part None = lighter 1 k n s i
    part (Some h) = renews k n s f.id h (after_frame h f) true i

    go : (o : Option Breach) → Owes k n (stream_unless o s p f).state
    go (Some b) = lighter 1 k n s i
    go None = part (part_for s f.id)

-- RESET_STREAM
pub reset_owes : (k n : ℕ) (s : StreamsState) (p : Retransmits) (f : ResetStreamValue) → Owes (1 + k) n s → Owes k n (after_reset_frame s p f).state
reset_owes k n s p f i = go (reset_breach s f)
  where
    part : (o : Option RecvHalf) → Owes k n (taken_reset o s p f).state
    part None = lighter 1 k n s i
    part (Some h) = renews k n s f.id h (after_reset_stream h f.code f.final_size) (not (is_some h.reset)) i

    go : (o : Option Breach) → Owes k n (reset_unless o s p f).state
    go (Some b) = lighter 1 k n s i
    go None = part (part_for s f.id)

-- STOP_SENDING: it may open its stream, too
pub stop_owes : (k n : ℕ) (s : StreamsState) (f : StopSendingValue) → Owes (2 + k) n s → Owes k n (after_stop_sending s f)
stop_owes k n s f i = go (sending_refusal s f.id)
  where
    t : StreamsState
    t = opened_by s f.id

    twice : Owes (1 + (1 + k)) n s
    twice = omega arith

    now : Owes (1 + k) n t
    now = opens_maybe (1 + k) n (opens s f.id) f.id s twice

    stops : (h : SendHalf) (b : Bool) → Owes k n (if b then t else (let u = with_send t f.id (stopped_half h f.code) in record u { events = with_event (Stopped f.id f.code) u.events }))
    stops h true = lighter 1 k n t now
    stops h false = queued k n (Stopped f.id f.code) t now

    part : (o : Option SendHalf) → Owes k n (stop_at o t f.id f.code)
    part None = lighter 1 k n t now
    part (Some h) = stops h (is_some h.stopped)

    go : (o : Option Breach) → Owes k n (stop_unless o s f)
    go (Some b) = lighter 2 k n s i
    go None = part (sending_for s f.id)

-- a stream is among those whose write the connection blocked
joins : (k n : ℕ) (s : StreamsState) (id : ℕ) (h : SendHalf) → Owes (1 + k) n s → Owes k n (joined s id h)
joins k n s id h i = go h.blocked
  where
    go : (b : Bool) → Owes k n (if b then s else (let t = with_send s id (record h { blocked = true }) in record t { sending = record t.sending { blocked = id ∷ t.sending.blocked } }))
    go true = lighter 1 k n s i
    go false = omega arith

-- a stream takes bytes again, now or once the connection has room
takes_again : (k n : ℕ) (s : StreamsState) (id : ℕ) (h : SendHalf) → Owes (1 + k) n s → Owes k n (writable_again s id h)
takes_again k n s id h i = go (room s.sending == 0)
  where
    go : (b : Bool) → Owes k n (if b then joined s id h else record s { events = with_event (Writable id) s.events })
    go true = joins k n s id h i
    go false = queued k n (Writable id) s i

-- MAX_STREAM_DATA: it may open its stream, too
pub limit_owes : (k n : ℕ) (s : StreamsState) (id limit : ℕ) → Owes (2 + k) n s → Owes k n (after_max_stream_data s id limit)
limit_owes k n s id limit i = go (sending_refusal s id)
  where
    t : StreamsState
    t = opened_by s id

    twice : Owes (1 + (1 + k)) n s
    twice = omega arith

    now : Owes (1 + k) n t
    now = opens_maybe (1 + k) n (opens s id) id s twice

    raised : (h : SendHalf) (b : Bool) → Owes k n (let u = with_send t id (limited_half h limit) in if b then writable_again u id (limited_half h limit) else u)
    raised h true = takes_again k n (with_send t id (limited_half h limit)) id (limited_half h limit) now
    raised h false = lighter 1 k n t now

    higher : (h : SendHalf) (b : Bool) → Owes k n (if b then limit_raised t id h limit else t)
    higher h true = raised h (is_used_up h)
    higher h false = lighter 1 k n t now

    part : (o : Option SendHalf) → Owes k n (limit_at o t id limit)
    part None = lighter 1 k n t now
    part (Some h) = higher h (nat_lt h.limit limit)

    go : (o : Option Breach) → Owes k n (limit_unless o s id limit)
    go (Some b) = lighter 2 k n s i
    go None = part (sending_for s id)

-- MAX_STREAMS
pub count_owes : (k n : ℕ) (dir : Dir) (count : ℕ) (s : StreamsState) → Owes (1 + k) n s → Owes k n (after_max_streams dir count s)
count_owes k n dir count s i = go (nat_le count most_streams && nat_lt (of dir s.opening.own_limit) count)
  where
    go : (b : Bool) → Owes k n (if b then with_own_limit dir count s else s)
    go true = queued k n (Available dir) s i
    go false = lighter 1 k n s i

-- ---- what is acknowledged or lost

pub acked_owes : (k n : ℕ) (s : StreamsState) (p : Retransmits) (m : StreamMeta) → Owes k n s → Owes k n (after_stream_acked s p m).state
acked_owes k n s p m i = go (sent_half s m.id)
  where
    all : (h : SendHalf) (b : Bool) → Owes k n (if b then settled (finished (replaced s m.id (half_acked h m)) m.id) p else streams_of (replaced s m.id (half_acked h m)) p).state
    all h true = let t : StreamsState = replaced s m.id (half_acked h m) in finishes k n m.id (send_done t m.id) (send_ends k n m.id t i)
    all h false = i

    on : (h : SendHalf) (b : Bool) → Owes k n (if b then streams_of s p else acked_on h s p m).state
    on h true = i
    on h false = all h (is_acked (half_acked h m))

    go : (o : Option SendHalf) → Owes k n (acked_at o s p m).state
    go None = i
    go (Some h) = on h (is_some h.reset)

pub lost_owes : (k n : ℕ) (s : StreamsState) (m : StreamMeta) → Owes k n s → Owes k n (after_stream_lost s m)
lost_owes k n s m i = go (sent_half s m.id)
  where
    on : (h : SendHalf) (b : Bool) → Owes k n (if b then s else replaced s m.id (half_lost h m))
    on h true = i
    on h false = i

    go : (o : Option SendHalf) → Owes k n (lost_at o s m)
    go None = i
    go (Some h) = on h (is_some h.reset)

pub reset_acked_owes : (k n : ℕ) (s : StreamsState) (p : Retransmits) (id : ℕ) → Owes k n s → Owes k n (after_reset_acked s p id).state
reset_acked_owes k n s p id i = go (sent_half s id)
  where
    on : (b : Bool) → Owes k n (if b then settled (send_done s id) p else streams_of s p).state
    on true = send_ends k n id s i
    on false = i

    go : (o : Option SendHalf) → Owes k n (reset_acked_at o s p id).state
    go None = i
    go (Some h) = on (is_some h.reset)

-- ---- calls

-- a write that is blocked, by the connection or by the stream's own limit
blocked_owes : (k n : ℕ) (s : StreamsState) (p : Retransmits) (id : ℕ) → Owes (1 + k) n s → Owes k n (blocked_at (sending_half s id) s p id).state
blocked_owes k n s p id i = go (sending_half s id)
  where
    own : (h : SendHalf) (b : Bool) → Owes k n (if b then streams_of s p else streams_of (with_send s id h) (record p { stream_data_blocked = with_id id p.stream_data_blocked })).state
    own h true = lighter 1 k n s i
    own h false = lighter 1 k n s i

    on : (h : SendHalf) (b : Bool) → Owes k n (if b then blocked_by_all s p id h else blocked_by_own s p id h).state
    on h true = joins k n s id h i
    on h false = own h (was_said h.said h.limit)

    go : (o : Option SendHalf) → Owes k n (blocked_at o s p id).state
    go None = lighter 1 k n s i
    go (Some h) = on h (room s.sending == 0)

opens_own : (k n : ℕ) (is_open : Bool) (dir : Dir) (s : StreamsState) → Owes k n s → Owes k n (after_open is_open dir s)
opens_own k n true dir s i = i
opens_own k n false dir s i = i

finish_owes : (k n : ℕ) (s : StreamsState) (id : ℕ) → Owes k n s → Owes k n (after_finish s id)
finish_owes k n s id i = go (finish_answer s id)
  where
    part : (o : Option SendHalf) → Owes k n (ended_at o s id)
    part None = i
    part (Some h) = i

    go : (r : Result (Unit {0}) FinishError) → Owes k n (finished_by r s id)
    go (Ok x) = part (sending_half s id)
    go (Err error) = i

resets_owe : (k n : ℕ) (s : StreamsState) (p : Retransmits) (id code : ℕ) → Owes k n s → Owes k n (after_reset s p id code).state
resets_owe k n s p id code i = go (sending_half s id)
  where
    on : (h : SendHalf) (b : Bool) → Owes k n (if b then streams_of s p else streams_of (record s { sending = reset_half h s.sending s.side id }) (record p { reset_stream = p.reset_stream ++ (id, code) ∷ [] })).state
    on h true = i
    on h false = i

    go : (o : Option SendHalf) → Owes k n (reset_at o s p id code).state
    go None = i
    go (Some h) = on h (is_some h.reset)

priority_owes : (k n : ℕ) (s : StreamsState) (id : ℕ) (priority : ℤ) → Owes k n s → Owes k n (after_set_priority s id priority)
priority_owes k n s id priority i = go (sending_half s id)
  where
    go : (o : Option SendHalf) → Owes k n (priority_at o s id priority)
    go None = i
    go (Some h) = i

begun_owes : (k n : ℕ) (s : StreamsState) (id : ℕ) (ordered : Bool) → Owes k n s → Owes k n (after_read_begun s id ordered)
begun_owes k n s id ordered i = go (read_answer s id ordered)
  where
    part : (o : Option RecvHalf) (b : Bool) → Owes k n (begun_at o s id b)
    part None b = i
    part (Some h) true = i
    part (Some h) false = i

    go : (r : Result (Unit {0}) ReadableError) → Owes k n (begun_unless r s id ordered)
    go (Ok x) = part (receiving_half s id) ordered
    go (Err error) = i

next_owes : (k n : ℕ) (told : Told) (s : StreamsState) (id most : ℕ) (answer : Next) → Owes k n s → Owes k n (after_next told answer s id most)
next_owes k n told_end s id most answer i = i
next_owes k n (told_reset code) s id most answer i = i
next_owes k n told_bytes s id most answer i = go answer (receiving_half s id)
  where
    go : (r : Next) (o : Option RecvHalf) → Owes k n (read_by r o s id most)
    go r None = i
    go (Ok (Some chunk)) (Some h) = i
    go (Ok None) (Some h) = recv_ends k n id s i
    go (Err (read_errors.Reset code)) (Some h) = recv_ends k n id s i
    go (Err read_errors.Blocked) (Some h) = i
    go (Err read_errors.Memory) (Some h) = i

stop_owes_here : (k n : ℕ) (s : StreamsState) (p : Retransmits) (id code : ℕ) → Owes k n s → Owes k n (after_stop s p id code).state
stop_owes_here k n s p id code i = go (receiving_half s id)
  where
    ended : (h : RecvHalf) (b : Bool) → Owes k n (stopped_if b s id h)
    ended h true = recv_ends k n id (with_recv s id (stopped_now h)) i
    ended h false = i

    on : (h : RecvHalf) (b : Bool) → Owes k n (if b then streams_of s p else settled (stopped_if (is_some h.final) s id h) (with_stop h.reset id code p)).state
    on h true = i
    on h false = ended h (is_some h.final)

    go : (o : Option RecvHalf) → Owes k n (stopped_at o s p id code).state
    go None = i
    go (Some h) = on h h.stopped

received_owes : (k n : ℕ) (s : StreamsState) (p : Retransmits) (id : ℕ) → Owes k n s → Owes k n (after_received_reset s p id).state
received_owes k n s p id i = go (received_reset_answer s id)
  where
    go : (r : Result (Option ℕ) ClosedStream) → Owes k n (reset_told r s p id).state
    go (Ok (Some code)) = recv_ends k n id s i
    go (Ok None) = i
    go (Err error) = i

-- each call adds nothing but a write that is blocked, which adds one
pub calls_owe : (k n : ℕ) → CallsKeep (Owes k n) (Owes (1 + k) n)
calls_owe k n = record {
  opens = opens_own k n;
  accept = λ dir s i. i;
  write = λ b answer s p id bytes full i. write_leaves (Owes k n) puts b answer s p id bytes (λ same. blocked_owes k n s p id (full same)) i;
  chunks = λ b answer s p id chunks full i. chunks_leave (Owes k n) puts b answer s p id chunks (λ same. blocked_owes k n s p id (full same)) i;
  finishes = finish_owes k n;
  resets = resets_owe k n;
  sets_priority = priority_owes k n;
  begun = begun_owes k n;
  next = λ told s id most answer is i. next_owes k n told s id most answer i;
  stop = stop_owes_here k n;
  received_reset = received_owes k n;
}
  where
    puts : (s : StreamsState) (id : ℕ) (h : SendHalf) (q : Queued) (m : ℕ) → sending_half s id ≡ Some h → Owes k n s → Owes k n (record s { sending = record (with_queued s.sending s.side id q) { accepted = m } })
    puts s id h q m is i = i

-- ---- what is told

-- how many events are told, but that a stream is finished
abbrev pub told_of : Option StreamEvent → ℕ
told_of None = 0
told_of (Some (Finished id)) = 0
told_of (Some event) = 1

-- whether a stream was found, as a count
abbrev found : Option ℕ → ℕ
found None = 0
found (Some id) = 1

-- the first event of a queue
first_told : (events : List StreamEvent) → told_of (first_of events) + others_in (others_of events) ≤ others_in events
first_told [] = omega arith
first_told (Finished id ∷ events) = omega arith
first_told (Opened dir ∷ events) = omega arith
first_told (Readable id ∷ events) = omega arith
first_told (Writable id ∷ events) = omega arith
first_told (Stopped id code ∷ events) = omega arith
first_told (Available dir ∷ events) = omega arith

next_told : (s : StreamsState) → told_of (told_next s).answer + waiting (told_next s).state.events (told_next s).state.sending.blocked ≤ waiting s.events s.sending.blocked
next_told s = let first = first_told s.events.queue in omega arith

-- of the streams that are blocked one is found at most, and it is blocked no more
passed_fewer : (ids : List ℕ) (halves : Table SendHalf) → found (passed ids halves).found + length (passed ids halves).blocked ≤ length ids
passed_fewer [] halves = omega arith
passed_fewer (id ∷ ids) halves = go (is_writable (at halves id)) (passed_fewer ids (unblocked_at (at halves id) halves id))
  where
    rest : Table SendHalf
    rest = unblocked_at (at halves id) halves id

    go : (b : Bool) → found (passed ids rest).found + length (passed ids rest).blocked ≤ length ids → (let p = (if b then record { found = Some id; blocked = ids; halves = rest } else passed ids rest) in found p.found + length p.blocked) ≤ length (id ∷ ids)
    go true fewer = omega arith
    go false fewer = omega arith

behind_told : (o : Option ℕ) (s : StreamsState) → told_of (told_behind o s).answer + waiting (told_behind o s).state.events (told_behind o s).state.sending.blocked ≤ found o + waiting s.events s.sending.blocked
behind_told (Some id) s = omega arith
behind_told None s = let next = next_told s in omega arith

-- what is told next of streams is no longer to be told
pub polled_told : (s : StreamsState) → told_of (polled s).answer + waiting (polled s).state.events (polled s).state.sending.blocked ≤ waiting s.events s.sending.blocked
polled_told s = go s.events.opened.bi s.events.opened.uni refl refl
  where
    Less : Telling → Type 0
    Less t = told_of t.answer + waiting t.state.events t.state.sending.blocked ≤ waiting s.events s.sending.blocked

    passing : Passing
    passing = passed s.sending.blocked s.sending.halves.live

    writable : (b : Bool) → Less (if b then told_next s else told_behind passing.found (after_passing s passing))
    writable true = next_told s
    writable false = let fewer = passed_fewer s.sending.blocked s.sending.halves.live in let told = behind_told passing.found (after_passing s passing) in omega arith

    go : (bi uni : Bool) → s.events.opened.bi ≡ bi → s.events.opened.uni ≡ uni → Less (if bi then told_opened Bi s else (if uni then told_opened Uni s else told_writable s))
    go true uni is other = let one : flag s.events.opened.bi ≡ 1 = ap flag is in omega arith
    go false true is other = let one : flag s.events.opened.uni ≡ 1 = ap flag other in omega arith
    go false false is other = writable (room s.sending == 0)
