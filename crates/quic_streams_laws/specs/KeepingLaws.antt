-- A fact that each small change keeps is kept by every call and frame.
use Rattle.std.proofs.Common.{◌≡◌, ℕ, zero, suc, ◌+◌, ◌-◌, ◌^◌, ◌<◌, ◌≤◌, length, take, min, [], ◌∷◌, ◌++◌, Bool, true, false, List, Option, Some, None, Result, Ok, Err, refl, sym, ap, ◌∙◌, subst, arith, ◌⊎◌, inl, inr, length-append, length-drop, length-take}
use Rattle.std.specs.Prelude.{nat_lt, nat_le, ◌==◌, ◌&&◌, ◌||◌, not, max, if◌then◌else◌, ℤ, unwrap_or}
use Rattle.std.specs.Option.{is_some}
use Rattle.std.proofs.lemmas.Bool.{cond_both, ltb-true, ltb-false, leb-true, leb-false, eqb-true, eqb-false, lt-ltb, or_left, or_right, and_parts, or_parts, or_from, not-false, cases_lt}
use Rattle.quic_wire_core.specs.declared.stream_id.Dir.{Dir}
use Rattle.quic_wire_core.specs.declared.stream_id.Side.{Side}
use Rattle.quic_wire_core.specs.StreamId.{dir_of}
use Rattle.quic_wire.specs.Value.{StreamValue, ResetStreamValue, StopSendingValue}
use Rattle.quic_send_buffer.specs.Buffered.{Buffered, written, has_unsent, after_write, bytes_in, passed, acknowledged, done, first_unacknowledged}
use Rattle.quic_send_buffer.specs.Source.{bytes_of, cut_to}
use Rattle.quic_send_buffer.specs.WritesLaws.{writes_add}
use Rattle.quic_send_buffer.specs.WritesLaws as writes
use Rattle.quic_send_buffer.specs.declared.stream_meta.StreamMeta.{StreamMeta}
use Rattle.quic_streams_parts.specs.declared.answers.WriteError.{WriteError}
use Rattle.quic_streams_parts.specs.declared.answers.WriteError.TheVariants as write_errors
use Rattle.quic_streams_parts.specs.declared.answers.Breach.{Breach}
use Rattle.quic_streams_parts.specs.declared.answers.Breach.TheVariants as breaches
use Rattle.quic_streams_parts.specs.declared.answers.FinishError.{FinishError}
use Rattle.quic_streams_parts.specs.declared.answers.FinishError.TheVariants as finish_errors
use Rattle.quic_streams_parts.specs.declared.answers.StreamEvent.{StreamEvent}
use Rattle.quic_streams_parts.specs.declared.answers.StreamEvent.TheVariants as stream_events
use Rattle.quic_streams_parts.specs.Events.{others_of}
use Rattle.quic_streams_parts.specs.Table.{at}
use Rattle.quic_streams_parts.specs.TableLaws.{at-put, at-added}
use Rattle.quic_streams_parts.specs.Dirs.{of, is_own, is_two_way}
use Rattle.quic_streams_parts.specs.SendHalf.{SendHalf, new_send_half, was_said, written_on, room_on, is_ready, has_pending, written_to, taken_unless, grown, grown_all, ended, reset_now, half_after, half_acked, half_lost, is_acked, requeued_at, Queued, finish_of, finish_unless}
use Rattle.quic_streams_parts.specs.RecvHalf.{RecvHalf, credit, raised_on, breaks_final, with_offsets_of, with_frame, reset_by, new_recv_half, stopped_now, begun, read_on, next_of, end_of, after_frame, after_reset_stream}
use Rattle.quic_streams_halves.specs.Halves.{Halves, half_of, status_from, with_half, placed, has_place, changed_at}
use Rattle.quic_retransmits.specs.Retransmits.{Retransmits}
use Rattle.quic_streams_state.specs.declared.state.StreamsState.{StreamsState}
use Rattle.quic_streams_state.specs.State.{Receiving, seen, Streams, Opening, is_opened, sends_on, receives_on, first_limit, first_window, sending_half, receiving_half, with_send, with_recv, send_done, recv_done, room}
use Rattle.quic_streams_state.specs.Limits.{most_streams, raised_data}
use Rattle.quic_streams_state.specs.Opening.{opens, opened_if, opened_by, after_open, after_accept, after_max_streams, beyond, sending_refusal, receiving_refusal}
use Rattle.quic_streams_state.specs.Taking.{part_for, renewed, readable_if, ended_if, after_max_data, after_max_stream_data, after_stop_sending, stop_at, stop_unless, stopped_half, limit_at, limit_unless, limit_raised, limited_half, is_used_up}
use Rattle.quic_streams_state.specs.Writing.{put_queued, replaced, write_answer, after_write as after_writing, written_by, blocked_at, accepted_at, grown_by, chunks_of, chunks_accepted_at, chunks_written_by, write_chunks_answer, after_write_chunks, after_finish, finished_by, finish_answer, ended_at, after_reset, reset_at, after_set_priority, priority_at}
use Rattle.quic_assembler.specs.Arrived.{bytes_read_of, after_read}
use Rattle.quic_assembler.specs.declared.assembler.Chunk.{Chunk}
use Rattle.quic_streams_parts.specs.declared.answers.ReadError.{ReadError}
use Rattle.quic_streams_parts.specs.declared.answers.ReadError.TheVariants as read_errors
use Rattle.quic_streams_parts.specs.declared.answers.ReadableError.{ReadableError}
use Rattle.quic_streams_parts.specs.declared.answers.ClosedStream.{ClosedStream}
use Rattle.quic_streams_state.specs.Taking.{refusal, breach_on, breach_at, breach_behind, after_stream, stream_unless, stream_at, after_reset_frame, reset_breach, reset_unless, reset_at as taken_reset}
use Rattle.quic_streams_state.specs.Reading.{after_read_begun, read_answer, begun_at, begun_unless, Told, told_bytes, told_end, told_reset, next_at, next_answer, read_by, after_next, after_finalize, after_stop, stopped_at, stopped_if, after_received_reset, reset_told, reset_of}
use Rattle.quic_streams_state.specs.Acked.{after_reset_acked, reset_acked_at, after_stream_lost, lost_at, after_stream_acked, acked_at}
use Rattle.quic_streams_state.specs.Telling.{Passing, Telling, passed as passed_from, is_writable, after_passing, told_next, told_behind, polled}
use Rattle.quic_streams_state.specs.Frames.{Sent, stream_room, after_frame_sent, with_stream_frames}
use Rattle.std.specs.List.{fold}
use Rattle.quic_sets.specs.Offsets.{has_any}
use Rattle.quic_streams_state.specs.Control.{limit_told, blocked_told_on}
use Rattle.quic_streams_laws.specs.ControlWalk as walk
use Rattle.quic_streams_laws.specs.Keeping.{finishes_in, SeesMore, CreditIs, all_of_it, as_before, some_more, EndsThere, ReceivesOn, SendsOn, WritesOn, KeepsBy, KeepsWhere, KeepsAll, MayAccept, unblocked}
use Rattle.quic_streams_laws.specs.Keeping as changes

-- an option is one of two
pub by_option : {A : Type 0} (o : Option A) (Q : Option A → Type 0) → (o ≡ None → Q None) → ((a : A) → o ≡ Some a → Q (Some a)) → Q o
by_option None Q none some = none refl
by_option (Some a) Q none some = some a refl

not_reset : (code : ℕ) → None ≡ Some code → ⊥
not_reset code e = cc

-- what was put or added is there
pub at-half : {A : Type 0} (side : Side) (h : Halves A) (id : ℕ) (a : A) → at (with_half side h id a).live id ≡ Some a
at-half {A} side h id a = go (at h.live id) refl
  where
    go : (o : Option A) → at h.live id ≡ o → at (placed o side h id a).live id ≡ Some a
    go None is = at-added h.live id a
    go (Some old) is = at-put h.live id old a is

-- a half in use is that of its stream
pub live_sends : (s : StreamsState) (id : ℕ) (h : SendHalf) → at s.sending.halves.live id ≡ Some h → sending_half s id ≡ Some h
live_sends s id h is = ap (λ o. half_of (new_send_half (first_limit s id)) (status_from o (sends_on s.side id && is_opened s id) (has_place s.side s.sending.halves.places id))) is

pub live_receives : (s : StreamsState) (id : ℕ) (h : RecvHalf) → at s.receiving.halves.live id ≡ Some h → receiving_half s id ≡ Some h
live_receives s id h is = ap (λ o. half_of (new_recv_half (first_window s.receiving)) (status_from o (receives_on s.side id && is_opened s id) (has_place s.side s.receiving.halves.places id))) is

-- ---- what a write takes

pub not_taken : (x : WriteError) (n : ℕ) → Err x ≡ Ok n → ⊥
not_taken x n e = cc

least : (z : Bool) (m n : ℕ) (x : WriteError) → (if z then Err x else Ok m) ≡ Ok n → n ≡ m
least true m n x e = absurd (not_taken x n e)
least false m n x e = cc

-- a half to which more may be written wasn't reset
pub no_reset : (o : Option ℕ) (f : Bool) → not (f || is_some o) ≡ true → o ≡ None
no_reset None f e = refl
no_reset (Some x) true e = cc
no_reset (Some x) false e = cc

-- what is accepted fits the half and the connection, and the half wasn't reset
pub taken : (h : SendHalf) (room len n : ℕ) → written_to (Some h) room len ≡ Ok n → (n ≤ room_on h) × (n ≤ room) × (h.reset ≡ None) × (n ≤ len)
taken h room len n e = go (room == 0) (is_ready h) h.stopped refl e
  where
    go : (b r : Bool) (st : Option ℕ) → is_ready h ≡ r → (if b then Err write_errors.Blocked else (if r then taken_unless st h room len else Err write_errors.ClosedStream)) ≡ Ok n → (n ≤ room_on h) × (n ≤ room) × (h.reset ≡ None) × (n ≤ len)
    go true r st is e = absurd (not_taken write_errors.Blocked n e)
    go false false st is e = absurd (not_taken write_errors.ClosedStream n e)
    go false true (Some code) is e = absurd (not_taken (write_errors.Stopped code) n e)
    go false true None is e =
        let m : n ≡ min len (min room (room_on h)) = least (room_on h == 0) (min len (min room (room_on h))) n write_errors.Blocked e in
        (omega arith, omega arith, no_reset h.reset h.finished is, omega arith)

-- more is accepted of a half that is neither finished nor reset
pub taken_ready : (h : SendHalf) (room len n : ℕ) → written_to (Some h) room len ≡ Ok n → is_ready h ≡ true
taken_ready h room len n e = go (room == 0) (is_ready h) refl e
  where
    go : (b r : Bool) → is_ready h ≡ r → (if b then Err write_errors.Blocked else (if r then taken_unless h.stopped h room len else Err write_errors.ClosedStream)) ≡ Ok n → is_ready h ≡ true
    go true r is e = absurd (not_taken write_errors.Blocked n e)
    go false false is e = absurd (not_taken write_errors.ClosedStream n e)
    go false true is e = is

-- ---- a write of several buffers

-- a half on which so many bytes more were written
record GrownBy (h t : SendHalf) (n : ℕ) : Type 0 where
  place : t.place ≡ h.place
  blocked : t.blocked ≡ h.blocked
  said : t.said ≡ h.said
  limit : t.limit ≡ h.limit
  reset : t.reset ≡ h.reset
  unsent : t.buffer.unsent ≡ h.buffer.unsent
  bytes : written t.buffer ≡ written h.buffer + n

grown_all_by : (h : SendHalf) (cs : List (List ℕ)) → GrownBy h (grown_all h cs) (bytes_of cs)
grown_all_by h cs =
    let g = writes_add h.buffer cs in
    let base = g.base in
    let kept = g.kept in
    record { place = refl; blocked = refl; said = refl; limit = refl; reset = refl; unsent = g.unsent; bytes = omega (arith, base, kept) }

-- buffers that are cut have as many bytes as they are cut to
pub cut_bytes : (n : ℕ) (cs : List (List ℕ)) → n ≤ bytes_of cs → bytes_of (cut_to n cs) ≡ n
cut_bytes n cs le = omega (arith, writes.cut_bytes n cs, le)

grown_more : (h t : SendHalf) (n m : ℕ) → m ≡ n → h.reset ≡ None → GrownBy h t m → written_on t ≡ written_on h + n
grown_more h t n m same none g =
    let free : t.reset ≡ None = g.reset ∙ none in
    let bytes : written t.buffer ≡ written h.buffer + m = g.bytes in
    rw (none, free) (omega arith)

grown_pending : (h t : SendHalf) (n : ℕ) → GrownBy h t n → h.buffer.unsent ≤ written h.buffer → 0 < n → has_pending t ≡ true
grown_pending h t n g bounded some =
    let unsent : t.buffer.unsent ≡ h.buffer.unsent = g.unsent in
    let bytes : written t.buffer ≡ written h.buffer + n = g.bytes in
    or_left (has_unsent t.buffer) t.end_waits (or_right (has_any t.buffer.lost) (nat_lt t.buffer.unsent (written t.buffer)) (lt-ltb t.buffer.unsent (written t.buffer) (omega arith)))

-- ---- what comes on a receiving half

-- bytes up to an offset break no rule of a part
pub record Unbroken (r : Receiving) (h : RecvHalf) (end : ℕ) (fin : Bool) : Type 0 where
  pub small : end < 2 ^ 62
  pub final : breaks_final h.final h.seen end fin ≡ false
  pub announced : end ≤ h.announced
  pub all : seen r - h.seen + max h.seen end ≤ raised_data r

not_broken : (r : Receiving) (h : RecvHalf) (end : ℕ) (fin : Bool) → breach_on r h end fin ≡ None → Unbroken r h end fin
not_broken r h end fin = go (nat_le (2 ^ 62) end) (breaks_final h.final h.seen end fin) (nat_lt h.announced end) (nat_lt (raised_data r) (seen r - h.seen + max h.seen end)) refl refl refl refl
  where
    go : (a b c d : Bool) → nat_le (2 ^ 62) end ≡ a → breaks_final h.final h.seen end fin ≡ b → nat_lt h.announced end ≡ c → nat_lt (raised_data r) (seen r - h.seen + max h.seen end) ≡ d
        → (if a then Some breaches.FlowControl else (if b then Some breaches.FinalSize else (if c || d then Some breaches.FlowControl else None))) ≡ None → Unbroken r h end fin
    go true b c d s f g i e = cc
    go false true c d s f g i e = cc
    go false false true d s f g i e = cc
    go false false false true s f g i e = cc
    go false false false false s f g i e = record { small = leb-false (2 ^ 62) end s; final = f; announced = ltb-false h.announced end g; all = ltb-false (raised_data r) (seen r - h.seen + max h.seen end) i }

-- what a frame lets be seen
sees_to : (r : Receiving) (h new : RecvHalf) (end : ℕ) → new.seen ≡ max h.seen end → end ≤ h.announced → seen r - h.seen + max h.seen end ≤ raised_data r → (new.seen ≡ h.seen) ⊎ SeesMore r h new
sees_to r h new end is announced all = elim (cases_lt h.seen end) [
  | inl above ↦ inr (record { more = omega arith; announced = omega arith; all = omega arith })
  | inr below ↦ inl (omega arith)
]

-- the final size is the greatest offset
ends_at : (final : Option ℕ) (old end : ℕ) (fin : Bool) → breaks_final final old end fin ≡ false → ((size : ℕ) → final ≡ Some size → old ≡ size) → (size : ℕ) → (if fin then Some end else final) ≡ Some size → max old end ≡ size
ends_at None old end false e known size is = cc
ends_at None old end true e known size is =
    let l : end ≡ size = cc in
    let le = ltb-false end old e in
    omega arith
ends_at (Some n) old end false e known size is =
    let at_n : old ≡ n = known n refl in
    let n_is : n ≡ size = cc in
    let le = ltb-false n end (or_parts (nat_lt n end) false e).0 in
    omega arith
ends_at (Some n) old end true e known size is =
    let at_n : old ≡ n = known n refl in
    let end_is : end ≡ size = cc in
    let le = ltb-false n end (or_parts (nat_lt n end) (not (end == n)) e).0 in
    let same : end ≡ n = eqb-true end n (not-false (end == n) (or_parts (nat_lt n end) (not (end == n)) e).1) in
    omega arith

same_credit : (a b : RecvHalf) → (a.stopped || is_some a.reset) ≡ false → (b.stopped || is_some b.reset) ≡ false → bytes_read_of a.arrived ≡ bytes_read_of b.arrived → credit a ≡ credit b
same_credit a b e f same = rw (e, f) same

full_credit : (a : RecvHalf) → (a.stopped || is_some a.reset) ≡ true → credit a ≡ a.seen
full_credit a e = rw e refl

-- a frame on a part
pub frame_on : (r : Receiving) (h : RecvHalf) (f : StreamValue) → Unbroken r h (end_of f) f.fin → ReceivesOn r h (after_frame h f)
frame_on r h f u = go h.stopped (is_some h.reset) refl refl
  where
    sees : (new : RecvHalf) → new.seen ≡ max h.seen (end_of f) → (new.seen ≡ h.seen) ⊎ SeesMore r h new
    sees new is = sees_to r h new (end_of f) is u.announced u.all

    go : (a b : Bool) → h.stopped ≡ a → is_some h.reset ≡ b → ReceivesOn r h (if a then with_offsets_of h f else (if b then h else with_frame h f))
    go true b is e = record { announced = refl; sees = sees (with_offsets_of h f) refl; read = omega arith; credit = all_of_it (full_credit (with_offsets_of h f) (or_left h.stopped (is_some h.reset) is)); ended = λ known. ends_at h.final h.seen (end_of f) f.fin u.final known }
    go false true is e = record { announced = refl; sees = inl refl; read = omega arith; credit = as_before refl; ended = λ x. x }
    go false false is e = record { announced = refl; sees = sees (with_frame h f) refl; read = omega arith; credit = as_before (same_credit (with_frame h f) h (or_from h.stopped (is_some h.reset) is e) (or_from h.stopped (is_some h.reset) is e) refl); ended = λ known. ends_at h.final h.seen (end_of f) f.fin u.final known }

-- a reset's final size is no less than what was seen
size_above : (final : Option ℕ) (old size : ℕ) → breaks_final final old size true ≡ false → ((n : ℕ) → final ≡ Some n → old ≡ n) → max old size ≡ size
size_above final old size e known = ends_at final old size true e known size refl

-- a reset of a part
pub reset_on : (r : Receiving) (h : RecvHalf) (code size : ℕ) → EndsThere h → Unbroken r h size true → ReceivesOn r h (after_reset_stream h code size)
reset_on r h code size known u = go h.stopped (is_some h.reset) refl refl
  where
    above : max h.seen size ≡ size
    above = size_above h.final h.seen size u.final known

    sees : (new : RecvHalf) → new.seen ≡ size → (new.seen ≡ h.seen) ⊎ SeesMore r h new
    sees new is = sees_to r h new size (is ∙ sym above) u.announced u.all

    ended : (n : ℕ) → Some size ≡ Some n → size ≡ n
    ended n e = cc

    go : (a b : Bool) → h.stopped ≡ a → is_some h.reset ≡ b → ReceivesOn r h (if a then record h { seen = size; final = Some size } else (if b then h else reset_by h code size))
    go true b is e = record { announced = refl; sees = sees (record h { seen = size; final = Some size }) refl; read = omega arith; credit = all_of_it (full_credit (record h { seen = size; final = Some size }) (or_left h.stopped (is_some h.reset) is)); ended = λ x. ended }
    go false true is e = record { announced = refl; sees = inl refl; read = omega arith; credit = as_before refl; ended = λ x. x }
    go false false is e = record { announced = refl; sees = sees (reset_by h code size) refl; read = omega arith; credit = all_of_it (full_credit (reset_by h code size) (or_right h.stopped true refl)); ended = λ x. ended }

-- a read of at most so many bytes gives bytes that were seen
pub record ReadsOn (h : RecvHalf) (most : ℕ) : Type 0 where
  pub more : bytes_read_of h.arrived ≤ bytes_read_of (after_read h.arrived most)
  pub seen : bytes_read_of (after_read h.arrived most) ≤ h.seen

pub reads_on : (r : Receiving) (h : RecvHalf) (most : ℕ) → ReadsOn h most → ReceivesOn r h (read_on h most)
reads_on r h most reads = record { announced = refl; sees = inl refl; read = reads.more; credit = go (h.stopped || is_some h.reset) refl; ended = λ x. x }
  where
    go : (b : Bool) → (h.stopped || is_some h.reset) ≡ b → CreditIs h (read_on h most)
    go true e = all_of_it (full_credit (read_on h most) e)
    go false e = some_more (rw e reads.more) (rw e reads.seen)

-- a read that begins
pub begun_on : (r : Receiving) (h : RecvHalf) (ordered : Bool) → ReceivesOn r h (begun h ordered)
begun_on r h ordered = record { announced = refl; sees = inl refl; read = omega arith; credit = as_before refl; ended = λ x. x }

-- a stop at this end
pub stopped_on : (r : Receiving) (h : RecvHalf) → ReceivesOn r h (stopped_now h)
stopped_on r h = record { announced = refl; sees = inl refl; read = omega arith; credit = all_of_it refl; ended = λ x. x }

-- a stream that is opened leaves what has come as it was
opened_receiving : (b : Bool) (id : ℕ) (s : StreamsState) → (opened_if b id s).receiving ≡ s.receiving
opened_receiving true id s = refl
opened_receiving false id s = refl

-- what is kept under changes is kept under fewer
pub keeps_fewer : {R R' : Receiving → ℕ → RecvHalf → RecvHalf → Type 0} {S S' : StreamsState → ℕ → SendHalf → SendHalf → Type 0} {W W' : StreamsState → ℕ → ℕ → SendHalf → SendHalf → Type 0} {P : StreamsState → Type 0}
    → ((r : Receiving) (id : ℕ) (old new : RecvHalf) → R' r id old new → R r id old new)
    → ((s : StreamsState) (id : ℕ) (old new : SendHalf) → S' s id old new → S s id old new)
    → ((s : StreamsState) (id n : ℕ) (old new : SendHalf) → W' s id n old new → W s id n old new)
    → KeepsBy R S W P → KeepsBy R' S' W' P
keeps_fewer r t w k (changes.changes_sending id old new) s (is, on, same) i = k (changes.changes_sending id old new) s (is, t s id old new on, same) i
keeps_fewer r t w k (changes.queues id old new b) s (is, on, has) i = k (changes.queues id old new b) s (is, t s id old new on, has) i
keeps_fewer r t w k (changes.turns id old new) s (is, on, has) i = k (changes.turns id old new) s (is, t s id old new on, has) i
keeps_fewer r t w k (changes.writes id n old new) s (is, on, has) i = k (changes.writes id n old new) s (is, w s id n old new on, has) i
keeps_fewer r t w k (changes.changes_receiving q id old new) s (is, on, same) i = k (changes.changes_receiving q id old new) s (is, r q id old new on, same) i
keeps_fewer r t w k c s may i = k c s may i

-- what says the same is kept too
pub keeps_same : {R : Receiving → ℕ → RecvHalf → RecvHalf → Type 0} {S : StreamsState → ℕ → SendHalf → SendHalf → Type 0} {W : StreamsState → ℕ → ℕ → SendHalf → SendHalf → Type 0} {P Q : StreamsState → Type 0}
    → ((s : StreamsState) → P s → Q s) → ((s : StreamsState) → Q s → P s) → KeepsBy R S W P → KeepsBy R S W Q
keeps_same to from k c s may i = to (changes.after c s) (k c s may (from s i))

-- ---- what changes of a sending half

record_same : (h new : SendHalf) → new.place ≡ h.place → new.blocked ≡ h.blocked → new.said ≡ h.said → written_on new ≡ written_on h → h.limit ≤ new.limit → SendsOn h new
record_same h new place blocked said as_many limit = record { stands = record { place = place; blocked = blocked; said = said }; as_many = as_many; limit = limit }

-- its end, and a reset
pub ended_on : (h : SendHalf) → SendsOn h (ended h)
ended_on h = record_same h (ended h) refl refl refl refl (omega arith)

pub reset_now_on : (h : SendHalf) → SendsOn h (reset_now h)
reset_now_on h = record_same h (reset_now h) refl refl refl refl (omega arith)

-- a priority, a stop and a limit
pub priority_on : (h : SendHalf) (priority : ℤ) → SendsOn h (record h { priority = priority })
priority_on h priority = record_same h (record h { priority = priority }) refl refl refl refl (omega arith)

pub stop_on : (h : SendHalf) (code : ℕ) → SendsOn h (stopped_half h code)
stop_on h code = record_same h (stopped_half h code) refl refl refl refl (omega arith)

pub limit_on : (h : SendHalf) (limit : ℕ) → h.limit < limit → SendsOn h (limited_half h limit)
limit_on h limit above = record_same h (limited_half h limit) refl refl refl refl (omega arith)

-- a frame of it goes, or is lost
pub polled_on : (h : SendHalf) (room : ℕ) → SendsOn h (half_after h room)
polled_on h room = record_same h (half_after h room) refl refl refl refl (omega arith)

pub lost_on : (h : SendHalf) (m : StreamMeta) → SendsOn h (half_lost h m)
lost_on h m = record_same h (half_lost h m) refl refl refl refl (omega arith)

-- pieces that are passed are some of those that are kept
within_pieces : (ns : List ℕ) (room : ℕ) → passed ns room ≤ bytes_in ns
within_pieces [] room = omega arith
within_pieces (n ∷ ns) room = cond_both (nat_le n room) (n + passed ns (room - n)) 0 (λ x. x ≤ n + bytes_in ns) (λ e. let l = within_pieces ns (room - n) in omega arith) (λ e. omega arith)

acked_as_many : (h : SendHalf) (m : StreamMeta) → bytes_in h.buffer.pieces ≡ length h.buffer.kept → written_on (half_acked h m) ≡ written_on h
acked_as_many h m whole =
    let b : Buffered = acknowledged h.buffer m.offsets.start m.offsets.end in
    let l : done b ≤ bytes_in b.pieces = within_pieces b.pieces (first_unacknowledged b - b.base) in
    let e : written (half_acked h m).buffer ≡ written h.buffer = omega (arith, length-drop (done b) h.buffer.kept) in
    ap (λ n. unwrap_or h.reset n) e

-- or is acknowledged
pub acked_on : (h : SendHalf) (m : StreamMeta) → bytes_in h.buffer.pieces ≡ length h.buffer.kept → SendsOn h (half_acked h m)
acked_on h m whole = record_same h (half_acked h m) refl refl refl (acked_as_many h m whole) (omega arith)

-- a half without a code wasn't reset
pub free : (o : Option ℕ) → is_some o ≡ false → o ≡ None
free None e = refl
free (Some code) e = cc

-- what is finished is ready
pub finish_ready : (h : SendHalf) (x : Unit {0}) → finish_of (Some h) ≡ Ok x → is_ready h ≡ true
finish_ready h x = go h.stopped
  where
    not_done : (e : FinishError) → Err e ≡ Ok x → ⊥
    not_done e f = cc

    closed : (b : Bool) → is_ready h ≡ b → (if b then Ok tt else Err finish_errors.ClosedStream) ≡ Ok x → is_ready h ≡ true
    closed true is e = is
    closed false is e = absurd (not_done finish_errors.ClosedStream e)

    go : (st : Option ℕ) → finish_unless st h ≡ Ok x → is_ready h ≡ true
    go None e = closed (is_ready h) refl e
    go (Some code) e = absurd (not_done (finish_errors.Stopped code) e)

-- wherever it stands
requeued_acked : (o : Option (ℕ × ℕ)) (b : Bool) (q : _) (id : ℕ) (h : SendHalf) → is_acked (requeued_at o b q id h).half ≡ is_acked h
requeued_acked None true q id h = refl
requeued_acked None false q id h = refl
requeued_acked (Some place) true q id h = refl
requeued_acked (Some place) false q id h = refl

-- a stream that may be named by a frame for a receiving half is within what was opened, or may be
receives_within : (s : StreamsState) (id : ℕ) → receiving_refusal s id ≡ None → beyond s id ≡ None
receives_within s id = cond_both {A = Option Breach} (is_own s.side id && not (is_two_way (dir_of id))) _ _ (λ t. t ≡ None → beyond s id ≡ None) (λ e f. cc) (λ e f. f)

-- a frame that isn't refused breaks no rule of its part
unbroken : (s : StreamsState) (id end : ℕ) (fin : Bool) (h : RecvHalf) → refusal s id end fin ≡ None → part_for s id ≡ Some h → Unbroken s.receiving h end fin
unbroken s id end fin h e is = go (receiving_refusal s id) e
  where
    go : (o : Option Breach) → breach_behind o s id end fin ≡ None → Unbroken s.receiving h end fin
    go (Some b) f = cc
    go None f = not_broken s.receiving h end fin (ap (λ o. breach_at o s.receiving end fin) (sym is) ∙ f)

-- a frame that is refused by its id leaves all as it was
refused_by_id : (s : StreamsState) (id end : ℕ) (fin : Bool) → refusal s id end fin ≡ None → receiving_refusal s id ≡ None
refused_by_id s id end fin e = go (receiving_refusal s id) e
  where
    go : (o : Option Breach) → breach_behind o s id end fin ≡ None → o ≡ None
    go None f = refl
    go (Some b) f = f

-- what a STREAM frame leaves: all as it was where it is refused or its part is done, and else its
-- part with another value
pub stream_cases : (s : StreamsState) (p : Retransmits) (f : StreamValue) (T : StreamsState → Type 0)
    → ((b : Breach) → refusal s f.id (end_of f) f.fin ≡ Some b → T s)
    → (receiving_refusal s f.id ≡ None → part_for s f.id ≡ None → T s)
    → ((h : RecvHalf) → beyond s f.id ≡ None → part_for s f.id ≡ Some h → Unbroken s.receiving h (end_of f) f.fin → T (renewed s f.id h (after_frame h f) true))
    → T (after_stream s p f).state
stream_cases s p f T refused done takes = by_option (refusal s f.id (end_of f) f.fin) (λ o. T (stream_unless o s p f).state) (λ e.
    let within : receiving_refusal s f.id ≡ None = refused_by_id s f.id (end_of f) f.fin e in
    by_option (part_for s f.id) (λ o. T (stream_at o s p f).state) (λ g. done within g) (λ h g. takes h (receives_within s f.id within) g (unbroken s f.id (end_of f) f.fin h e g))) refused

-- the same of RESET_STREAM
pub reset_cases : (s : StreamsState) (p : Retransmits) (f : ResetStreamValue) (T : StreamsState → Type 0)
    → ((b : Breach) → reset_breach s f ≡ Some b → T s)
    → (receiving_refusal s f.id ≡ None → part_for s f.id ≡ None → T s)
    → ((h : RecvHalf) → beyond s f.id ≡ None → part_for s f.id ≡ Some h → Unbroken s.receiving h f.final_size true → T (renewed s f.id h (after_reset_stream h f.code f.final_size) (not (is_some h.reset))))
    → T (after_reset_frame s p f).state
reset_cases s p f T refused done takes = by_option (reset_breach s f) (λ o. T (reset_unless o s p f).state) (λ e.
    let within : receiving_refusal s f.id ≡ None = refused_by_id s f.id f.final_size true e in
    by_option (part_for s f.id) (λ o. T (taken_reset o s p f).state) (λ g. done within g) (λ h g. takes h (receives_within s f.id within) g (unbroken s f.id f.final_size true h e g))) refused

-- ---- what the application is told

-- what waits in two lists, one behind the other
pub finishes_append : (id : ℕ) (events more : List StreamEvent) → finishes_in id (events ++ more) ≡ finishes_in id events + finishes_in id more
finishes_append id [] more = omega arith
finishes_append id (stream_events.Finished s ∷ events) more = let rest = finishes_append id events more in omega arith
finishes_append id (stream_events.Opened dir ∷ events) more = finishes_append id events more
finishes_append id (stream_events.Readable s ∷ events) more = finishes_append id events more
finishes_append id (stream_events.Writable s ∷ events) more = finishes_append id events more
finishes_append id (stream_events.Stopped s code ∷ events) more = finishes_append id events more
finishes_append id (stream_events.Available dir ∷ events) more = finishes_append id events more

-- what is told of another kind, and what was told
none_more : (events : List StreamEvent) (event : StreamEvent) → ((id : ℕ) → finishes_in id (event ∷ []) ≡ 0) → (id : ℕ) → finishes_in id (events ++ event ∷ []) ≤ finishes_in id events
none_more events event other id = let both = finishes_append id events (event ∷ []) in let none = other id in omega arith

none_more_left : (events : List StreamEvent) (id : ℕ) → finishes_in id (others_of events) ≤ finishes_in id events
none_more_left [] id = omega arith
none_more_left (stream_events.Finished s ∷ events) id = omega arith
none_more_left (stream_events.Opened dir ∷ events) id = omega arith
none_more_left (stream_events.Readable s ∷ events) id = omega arith
none_more_left (stream_events.Writable s ∷ events) id = omega arith
none_more_left (stream_events.Stopped s code ∷ events) id = omega arith
none_more_left (stream_events.Available dir ∷ events) id = omega arith

module _ {R : Receiving → ℕ → RecvHalf → RecvHalf → Type 0} {S : StreamsState → ℕ → SendHalf → SendHalf → Type 0} {W : StreamsState → ℕ → ℕ → SendHalf → SendHalf → Type 0} {A : StreamsState → Dir → Type 0} {F : ℕ → Type 0} {E : ℕ → SendHalf → Type 0}
    {L : StreamsState → ℕ → Type 0} (P : StreamsState → Type 0) (k : KeepsWhere R S W A F E L P) where
  -- ---- opening

  pub by_open : (is_open : Bool) (dir : Dir) (s : StreamsState) → P s → P (after_open is_open dir s)
  by_open false dir s p = p
  by_open true dir s p = cond_both {A = Option ℕ × Opening} (nat_lt (of dir s.opening.own) (of dir s.opening.own_limit)) _ _ (λ t. P (record s { opening = t.1 })) (λ is. k (changes.opens_own dir) s (ltb-true _ _ is) p) (λ is. p)

  pub by_accept : (dir : Dir) (s : StreamsState) → (MayAccept s dir → A s dir) → P s → P (after_accept dir s)
  by_accept dir s on p = cond_both {A = Option ℕ × Opening} (nat_lt (of dir s.opening.accepted) (of dir s.opening.remote)) _ _ (λ t. P (record s { opening = t.1 })) (λ is. k (changes.accepts dir) s (on (ltb-true _ _ is)) p) (λ is. p)

  pub by_opened : (s : StreamsState) (id : ℕ) → beyond s id ≡ None → P s → P (opened_by s id)
  by_opened s id within p = go (opens s id) refl
    where
      go : (b : Bool) → opens s id ≡ b → P (opened_if b id s)
      go true is = k (changes.opens_theirs id) s (is, within) p
      go false is = p

  pub by_max_streams : (dir : Dir) (count : ℕ) (s : StreamsState) → P s → P (after_max_streams dir count s)
  by_max_streams dir count s p = cond_both (nat_le count most_streams && nat_lt (of dir s.opening.own_limit) count) _ _ P (λ is. let both = and_parts _ _ is in k (changes.events _) (record s { opening = _ }) (none_more s.events.queue (stream_events.Available dir) (λ id. refl)) (k (changes.allows dir count) s ((leb-true _ _ both.0), (ltb-true _ _ both.1)) p)) (λ is. p)

  -- ---- writing

  -- there is something to send where bytes were written
  grows : (b : Buffered) (bytes : List ℕ) → b.unsent ≤ written b → 0 < length bytes → has_unsent (after_write b bytes) ≡ true
  grows b bytes bounded some = or_right _ _ (lt-ltb b.unsent (b.base + length (b.kept ++ bytes)) (omega (arith, length-append b.kept bytes)))

  -- what was written on a half, after bytes that were accepted
  more_written : (h : SendHalf) (bytes : List ℕ) → h.reset ≡ None → written_on (grown h bytes) ≡ written_on h + length bytes
  more_written h bytes none = rw none (omega (arith, length-append h.buffer.kept bytes))

  -- bytes that are accepted
  by_accepted : (s : StreamsState) (id : ℕ) (h : SendHalf) (bytes : List ℕ) → sending_half s id ≡ Some h → h.buffer.unsent ≤ written h.buffer → h.reset ≡ None → length bytes ≤ room_on h → length bytes ≤ room s.sending
      → ((n : ℕ) (old new : SendHalf) → sending_half s id ≡ Some old → WritesOn (room s.sending) n old new → W s id n old new) → P s → P (accepted_at (Some h) s id bytes)
  by_accepted s id h bytes is bounded none fits within on p = cond_both (length bytes == 0) s (grown_by h s id bytes) P (λ e. p) (λ e.
      let some : 0 < length bytes = omega (arith, eqb-false (length bytes) 0 e) in
      k (changes.writes id (length bytes) h (grown h bytes)) s (is, (on (length bytes) h (grown h bytes) is (record { stands = record { place = refl; blocked = refl; said = refl }; more = more_written h bytes none; limit = refl; fits = fits; within = within })), (or_left _ _ (grows h.buffer bytes bounded some))) p)

  -- what was written is at most what is kept
  pub by_blocked : (s : StreamsState) (p : Retransmits) (id : ℕ) (o : Option SendHalf) → sending_half s id ≡ o → P s → P (blocked_at o s p id).state
  by_blocked s p id None is q = q
  by_blocked s p id (Some h) is q = cond_both {A = Streams} (room s.sending == 0) _ _ (λ t. P t.state) (λ e. k (changes.joins id h) s is q) (λ e.
      cond_both {A = Streams} (was_said h.said h.limit) _ _ (λ t. P t.state) (λ f. q) (λ f. k (changes.notes_on id h h.said) s is q))

  -- the answer to a write: what the rules say, or want of memory
  pub by_write : (is_open : Bool) (s : StreamsState) (p : Retransmits) (id : ℕ) (bytes : List ℕ) → ((h : SendHalf) → sending_half s id ≡ Some h → h.buffer.unsent ≤ written h.buffer)
      → ((n : ℕ) (old new : SendHalf) → sending_half s id ≡ Some old → WritesOn (room s.sending) n old new → W s id n old new) → P s → P (after_writing is_open (write_answer is_open s id (length bytes)) s p id bytes).state
  by_write false s p id bytes bounded on q = q
  by_write true s p id bytes bounded on q = go (written_to (sending_half s id) (room s.sending) (length bytes)) refl
    where
      go : (answer : Result ℕ WriteError) → written_to (sending_half s id) (room s.sending) (length bytes) ≡ answer → P (written_by answer s p id bytes).state
      go (Ok n) is = by_option (sending_half s id) (λ o. written_to o (room s.sending) (length bytes) ≡ Ok n → P (accepted_at o s id (take n bytes))) (λ e f. q) (λ h e f.
          let t = taken h (room s.sending) (length bytes) n f in
          let l : length (take n bytes) ≤ n = omega (arith, length-take n bytes) in
          by_accepted s id h (take n bytes) e (bounded h e) t.2 (omega arith) (omega arith) on q) is
      go (Err write_errors.Blocked) is = by_blocked s p id (sending_half s id) refl q
      go (Err (write_errors.Stopped code)) is = q
      go (Err write_errors.ClosedStream) is = q
      go (Err write_errors.Memory) is = q

  -- ---- the end, a reset, a priority

  pub by_finish : (s : StreamsState) (id : ℕ) → ((h : SendHalf) → sending_half s id ≡ Some h → is_ready h ≡ true → S s id h (ended h)) → P s → P (after_finish s id)
  by_finish s id on q = go (finish_answer s id) refl
    where
      go : (answer : Result (Unit {0}) FinishError) → finish_answer s id ≡ answer → P (finished_by answer s id)
      go (Err e) is = q
      go (Ok x) is = by_option (sending_half s id) (λ o. finish_of o ≡ Ok x → P (ended_at o s id)) (λ e f. q) (λ h e f. k (changes.queues id h (ended h) true) s (e, (on h e (finish_ready h x f)), (or_right _ _ refl)) q) is

  pub by_reset : (s : StreamsState) (p : Retransmits) (id code : ℕ) → ((h : SendHalf) → sending_half s id ≡ Some h → h.reset ≡ None → S s id h (reset_now h)) → P s → P (after_reset s p id code).state
  by_reset s p id code on q = by_option (sending_half s id) (λ o. P (reset_at o s p id code).state) (λ e. q) (λ h e. cond_both {A = Streams} (is_some h.reset) _ _ (λ t. P t.state) (λ f. q) (λ f.
      k (changes.queues id h (reset_now h) false) s (e, (on h e (free h.reset f)), refl) q))

  pub by_set_priority : (s : StreamsState) (id : ℕ) (priority : ℤ) → ((h : SendHalf) → sending_half s id ≡ Some h → S s id h (record h { priority = priority })) → P s → P (after_set_priority s id priority)
  by_set_priority s id priority on q = by_option (sending_half s id) (λ o. P (priority_at o s id priority)) (λ e. q) (λ h e.
      k (changes.changes_sending id h (record h { priority = priority })) s (e, (on h e), refl) q)

  -- ---- what comes for a sending half

  stops : (s : StreamsState) (id code : ℕ) → ((h : SendHalf) → sending_half s id ≡ Some h → S s id h (stopped_half h code)) → P s → P (stop_at (sending_half s id) s id code)
  stops s id code on q = by_option (sending_half s id) (λ o. P (stop_at o s id code)) (λ e. q) (λ h e. cond_both (is_some h.stopped) _ _ P (λ f. q) (λ f.
      k (changes.events _) (with_send s id (stopped_half h code)) (none_more s.events.queue (stream_events.Stopped id code) (λ id. refl)) (k (changes.changes_sending id h (stopped_half h code)) s (e, (on h e), refl) q)))

  -- a stream that may be named by a frame for a sending half is within what was opened, or may be
  pub sends_within : (s : StreamsState) (id : ℕ) → sending_refusal s id ≡ None → beyond s id ≡ None
  sends_within s id = cond_both {A = Option Breach} (not (is_own s.side id) && not (is_two_way (dir_of id))) _ _ (λ t. t ≡ None → beyond s id ≡ None) (λ e f. cc) (λ e f. f)

  pub by_stop_sending : (s : StreamsState) (f : StopSendingValue) → ((h : SendHalf) → sending_half (opened_by s f.id) f.id ≡ Some h → S (opened_by s f.id) f.id h (stopped_half h f.code)) → P s → P (after_stop_sending s f)
  by_stop_sending s f on q = by_option (sending_refusal s f.id) (λ o. P (stop_unless o s f)) (λ e. stops (opened_by s f.id) f.id f.code on (by_opened s f.id (sends_within s f.id e) q)) (λ b e. q)

  pub by_max_data_where : (s : StreamsState) (limit : ℕ) → L s (max s.sending.limit limit) → P s → P (after_max_data s limit)
  by_max_data_where s limit raised q = k (changes.raises (max s.sending.limit limit)) s raised q

  raises_on : (s : StreamsState) (id : ℕ) (h : SendHalf) (limit : ℕ) → sending_half s id ≡ Some h → S s id h (limited_half h limit) → P s → P (limit_raised s id h limit)
  raises_on s id h limit is on q =
      let t : StreamsState = with_send s id (limited_half h limit) in
      let there : sending_half t id ≡ Some (limited_half h limit) = live_sends t id (limited_half h limit) (at-half s.side s.sending.halves id (limited_half h limit)) in
      let now : P t = k (changes.changes_sending id h (limited_half h limit)) s (is, on, refl) q in
      cond_both (is_used_up h) _ _ P (λ e. cond_both (room t.sending == 0) _ _ P (λ f. k (changes.joins id (limited_half h limit)) t there now) (λ f. k (changes.events _) t (none_more t.events.queue (stream_events.Writable id) (λ id. refl)) now)) (λ e. now)

  pub by_max_stream_data : (s : StreamsState) (id limit : ℕ) → ((h : SendHalf) → sending_half (opened_by s id) id ≡ Some h → h.limit < limit → S (opened_by s id) id h (limited_half h limit)) → P s → P (after_max_stream_data s id limit)
  by_max_stream_data s id limit on q = by_option (sending_refusal s id) (λ o. P (limit_unless o s id limit)) (λ e.
      let t : P (opened_by s id) = by_opened s id (sends_within s id e) q in
      by_option (sending_half (opened_by s id) id) (λ o. P (limit_at o (opened_by s id) id limit)) (λ f. t) (λ h f. cond_both (nat_lt h.limit limit) _ _ P (λ g. raises_on (opened_by s id) id h limit f (on h f (ltb-true _ _ g)) t) (λ g. t))) (λ b e. q)

  -- ---- what comes on a receiving half

  -- a part that has another value is done where it ends, and the application is told
  pub by_value : (s : StreamsState) (id : ℕ) (old new : RecvHalf) (tells : Bool) → P (with_recv (opened_by s id) id new) → P (renewed s id old new tells)
  by_value s id old new tells now =
      let t : StreamsState = with_recv (opened_by s id) id new in
      let there : at t.receiving.halves.live id ≡ Some new = at-half (opened_by s id).side (opened_by s id).receiving.halves id new in
      let done : P (ended_if (new.stopped && is_some new.final) id t) = go t (new.stopped && is_some new.final) there now in
      tell (ended_if (new.stopped && is_some new.final) id t) (tells && not (old.stopped || opens s id)) done
    where
      go : (t : StreamsState) (b : Bool) → at t.receiving.halves.live id ≡ Some new → P t → P (ended_if b id t)
      go t true there now = k (changes.ends_receiving id new) t there now
      go t false there now = now

      tell : (t : StreamsState) (b : Bool) → P t → P (readable_if b id t)
      tell t true now = k (changes.events _) t (none_more t.events.queue (stream_events.Readable id) (λ id. refl)) now
      tell t false now = now

  -- the part of a frame has another value
  by_renewed : (s : StreamsState) (id : ℕ) (old new : RecvHalf) (tells : Bool) → part_for s id ≡ Some old → beyond s id ≡ None → R s.receiving id old new → P s → P (renewed s id old new tells)
  by_renewed s id old new tells is within on q = by_value s id old new tells (k (changes.changes_receiving s.receiving id old new) (opened_by s id) (is, on, opened_receiving (opens s id) id s) (by_opened s id within q))

  pub by_stream : (s : StreamsState) (p : Retransmits) (f : StreamValue) → ((h : RecvHalf) → part_for s f.id ≡ Some h → Unbroken s.receiving h (end_of f) f.fin → R s.receiving f.id h (after_frame h f)) → P s → P (after_stream s p f).state
  by_stream s p f on q = stream_cases s p f P (λ b e. q) (λ within e. q) (λ h within e u. by_renewed s f.id h (after_frame h f) true e within (on h e u) q)

  pub by_reset_frame : (s : StreamsState) (p : Retransmits) (f : ResetStreamValue) → ((h : RecvHalf) → part_for s f.id ≡ Some h → Unbroken s.receiving h f.final_size true → R s.receiving f.id h (after_reset_stream h f.code f.final_size)) → P s → P (after_reset_frame s p f).state
  by_reset_frame s p f on q = reset_cases s p f P (λ b e. q) (λ within e. q) (λ h within e u. by_renewed s f.id h (after_reset_stream h f.code f.final_size) (not (is_some h.reset)) e within (on h e u) q)

  -- ---- reading

  pub by_read_begun : (s : StreamsState) (id : ℕ) (ordered : Bool) → ((h : RecvHalf) → receiving_half s id ≡ Some h → R s.receiving id h (begun h false)) → P s → P (after_read_begun s id ordered)
  by_read_begun s id ordered on q = go (read_answer s id ordered)
    where
      begins : (b : Bool) → P (begun_at (receiving_half s id) s id b)
      begins true = by_option (receiving_half s id) (λ o. P (begun_at o s id true)) (λ e. q) (λ h e. q)
      begins false = by_option (receiving_half s id) (λ o. P (begun_at o s id false)) (λ e. q) (λ h e. k (changes.changes_receiving s.receiving id h (begun h false)) s (e, (on h e), refl) q)

      go : (answer : Result (Unit {0}) ReadableError) → P (begun_unless answer s id ordered)
      go (Ok x) = begins ordered
      go (Err e) = q

  -- a half that isn't fresh is in use
  in_use : (s : StreamsState) (id : ℕ) (h : RecvHalf) → receiving_half s id ≡ Some h → (at s.receiving.halves.live id ≡ Some h) ⊎ (h ≡ new_recv_half (first_window s.receiving))
  in_use s id h e = go (at s.receiving.halves.live id) (receives_on s.side id && is_opened s id) (has_place s.side s.receiving.halves.places id) refl e
    where
      go : (o : Option RecvHalf) (opened used : Bool) → at s.receiving.halves.live id ≡ o → half_of (new_recv_half (first_window s.receiving)) (status_from o opened used) ≡ Some h
          → (at s.receiving.halves.live id ≡ Some h) ⊎ (h ≡ new_recv_half (first_window s.receiving))
      go (Some a) opened used is f = inl (is ∙ f)
      go None true false is f = inr (cc)
      go None true true is f = cc
      go None false used is f = cc

  -- nothing is told of the end of a fresh half
  not_fresh : (window most : ℕ) (answer : Result (Option Chunk) ReadError) → next_of (new_recv_half window) most ≡ answer → answer ≡ Err read_errors.Blocked
  not_fresh window most answer e = sym e

  ends : (s : StreamsState) (id most : ℕ) (h : RecvHalf) (answer : Result (Option Chunk) ReadError) → receiving_half s id ≡ Some h → next_of h most ≡ answer → (answer ≡ Err read_errors.Blocked → ⊥) → P s → P (recv_done s id)
  ends s id most h answer is e told q = elim (in_use s id h is) [
    | inl there ↦ k (changes.ends_receiving id h) s there q
    | inr same ↦ absurd (told (not_fresh (first_window s.receiving) most answer (ap (λ x. next_of x most) (sym same) ∙ e)))
  ]

  pub by_next : (told : Told) (s : StreamsState) (id most : ℕ) → ((h : RecvHalf) (c : Chunk) → receiving_half s id ≡ Some h → next_of h most ≡ Ok (Some c) → R s.receiving id h (read_on h most)) → P s → P (after_next told (next_answer told s id most) s id most)
  by_next told_end s id most on q = q
  by_next (told_reset code) s id most on q = q
  by_next told_bytes s id most on q = by_option (receiving_half s id) (λ o. P (read_by (next_at told_bytes o most) o s id most)) (λ e. q) (λ h e. go h e (next_of h most) refl)
    where
      go : (h : RecvHalf) → receiving_half s id ≡ Some h → (answer : Result (Option Chunk) ReadError) → next_of h most ≡ answer → P (read_by answer (Some h) s id most)
      go h is (Ok (Some chunk)) e = k (changes.changes_receiving s.receiving id h (read_on h most)) s (is, (on h chunk is e), refl) q
      go h is (Ok None) e = ends s id most h (Ok None) is e (λ f. cc) q
      go h is (Err (read_errors.Reset code)) e = ends s id most h (Err (read_errors.Reset code)) is e (λ f. cc) q
      go h is (Err read_errors.Blocked) e = q
      go h is (Err read_errors.Memory) e = q

  pub by_finalize : (s : StreamsState) (p : Retransmits) (id : ℕ) → P s → P (after_finalize s p id).state
  by_finalize s p id q = q

  pub by_stop : (s : StreamsState) (p : Retransmits) (id code : ℕ) → ((h : RecvHalf) → receiving_half s id ≡ Some h → R s.receiving id h (stopped_now h)) → P s → P (after_stop s p id code).state
  by_stop s p id code on q = by_option (receiving_half s id) (λ o. P (stopped_at o s p id code).state) (λ e. q) (λ h e. cond_both {A = Streams} h.stopped _ _ (λ t. P t.state) (λ f. q) (λ f.
      let t : StreamsState = with_recv s id (stopped_now h) in
      let there : at t.receiving.halves.live id ≡ Some (stopped_now h) = at-half s.side s.receiving.halves id (stopped_now h) in
      go h (is_some h.final) there (k (changes.changes_receiving s.receiving id h (stopped_now h)) s (e, (on h e), refl) q)))
    where
      go : (h : RecvHalf) (b : Bool) → at (with_recv s id (stopped_now h)).receiving.halves.live id ≡ Some (stopped_now h) → P (with_recv s id (stopped_now h)) → P (stopped_if b s id h)
      go h true there now = k (changes.ends_receiving id (stopped_now h)) (with_recv s id (stopped_now h)) there now
      go h false there now = now

  pub by_received_reset : (s : StreamsState) (p : Retransmits) (id : ℕ) → P s → P (after_received_reset s p id).state
  by_received_reset s p id q = by_option (receiving_half s id) (λ o. P (reset_told (reset_of o) s p id).state) (λ e. q) (λ h e. cond_both {A = Result (Option ℕ) ClosedStream} h.stopped _ _ (λ t. P (reset_told t s p id).state) (λ f. q) (λ f. go h e h.reset refl))
    where
      go : (h : RecvHalf) → receiving_half s id ≡ Some h → (o : Option ℕ) → h.reset ≡ o → P (reset_told (Ok o) s p id).state
      go h is None e = q
      go h is (Some code) e = elim (in_use s id h is) [
        | inl there ↦ k (changes.ends_receiving id h) s there q
        | inr same ↦ absurd (not_reset code (sym (ap (λ x. x.reset) same) ∙ e))
      ]

  -- ---- what is acknowledged or lost

  pub by_reset_acked_where : (s : StreamsState) (p : Retransmits) (id : ℕ) → ((h : SendHalf) → at s.sending.halves.live id ≡ Some h → is_some h.reset ≡ true → E id h) → P s → P (after_reset_acked s p id).state
  by_reset_acked_where s p id over q = by_option (at s.sending.halves.live id) (λ o. P (reset_acked_at o s p id).state) (λ e. q) (λ h e. cond_both {A = Streams} (is_some h.reset) _ _ (λ t. P t.state) (λ f. k (changes.ends_sending id h) s (e, (over h e f)) q) (λ f. q))

  pub by_stream_lost : (s : StreamsState) (m : StreamMeta) → ((h : SendHalf) → at s.sending.halves.live m.id ≡ Some h → h.reset ≡ None → S s m.id h (half_lost h m)) → P s → P (after_stream_lost s m)
  by_stream_lost s m on q = by_option (at s.sending.halves.live m.id) (λ o. P (lost_at o s m)) (λ e. q) (λ h e. cond_both (is_some h.reset) _ _ P (λ f. q) (λ f.
      k (changes.queues m.id h (half_lost h m) (has_pending (half_lost h m))) s ((live_sends s m.id h e), (on h e (free h.reset f)), refl) q))

  pub by_stream_acked_where : (s : StreamsState) (p : Retransmits) (m : StreamMeta) → ((h : SendHalf) → at s.sending.halves.live m.id ≡ Some h → h.reset ≡ None → S s m.id h (half_acked h m))
      → ((h : SendHalf) → at s.sending.halves.live m.id ≡ Some h → h.reset ≡ None → is_acked (half_acked h m) ≡ true → F m.id)
      → ((h : SendHalf) → is_acked h ≡ true → E m.id h) → P s → P (after_stream_acked s p m).state
  by_stream_acked_where s p m on over ends q = by_option (at s.sending.halves.live m.id) (λ o. P (acked_at o s p m).state) (λ e. q) (λ h e. cond_both {A = Streams} (is_some h.reset) _ _ (λ t. P t.state) (λ f. q) (λ f.
      let b : Bool = has_pending (half_acked h m) in
      let t : StreamsState = replaced s m.id (half_acked h m) in
      let now : P t = k (changes.queues m.id h (half_acked h m) b) s ((live_sends s m.id h e), (on h e (free h.reset f)), refl) q in
      let there : at t.sending.halves.live m.id ≡ Some (requeued_at h.place b s.sending.queue m.id (half_acked h m)).half = at-half s.side s.sending.halves m.id _ in
      cond_both {A = Streams} (is_acked (half_acked h m)) _ _ (λ u. P u.state) (λ g. k (changes.finishes m.id) (send_done t m.id) (over h e (free h.reset f) g) (k (changes.ends_sending m.id _) t (there, (ends _ (requeued_acked h.place b s.sending.queue m.id (half_acked h m) ∙ g))) now)) (λ g. now)))

  -- ---- what is told

  by_passed : (ids : List ℕ) (s : StreamsState) → s.sending.blocked ≡ ids → P s → P (after_passing s (passed_from ids s.sending.halves.live))
  by_passed [] s is q = subst (λ ids. P (record s { sending = record s.sending { blocked = ids } })) is q
  by_passed (id ∷ ids) s is q =
      let now : P (unblocked s id ids) = k (changes.passes id ids) s is q in
      cond_both {A = Passing} (is_writable (at s.sending.halves.live id)) _ _ (λ t. P (after_passing s t)) (λ e. now) (λ e. by_passed ids (unblocked s id ids) refl now)

  told_later : (s : StreamsState) → P s → P (told_next s).state
  told_later s q = k (changes.events _) s (none_more_left s.events.queue) q

  pub by_polled : (s : StreamsState) → P s → P (polled s).state
  by_polled s q = cond_both {A = Telling} s.events.opened.bi _ _ (λ t. P t.state) (λ e. k (changes.events _) s (λ id. omega arith) q) (λ e.
      cond_both {A = Telling} s.events.opened.uni _ _ (λ t. P t.state) (λ f. k (changes.events _) s (λ id. omega arith) q) (λ f.
      cond_both {A = Telling} (room s.sending == 0) _ _ (λ t. P t.state) (λ g. told_later s q) (λ g.
      let p : Passing = passed_from s.sending.blocked s.sending.halves.live in
      go p.found (after_passing s p) (by_passed s.sending.blocked s refl q))))
    where
      go : (o : Option ℕ) (t : StreamsState) → P t → P (told_behind o t).state
      go None t now = told_later t now
      go (Some id) t now = now

  -- ---- STREAM frames that go

  pub by_frame : (fair : Bool) (s : StreamsState) (id room : ℕ) (h : SendHalf) → at s.sending.halves.live id ≡ Some h → S s id h (half_after h room) → P s → P (after_frame_sent fair s id h room)
  by_frame fair s id room h is on q =
      cond_both {A = Queued} (fair && has_pending (half_after h room)) _ _ (λ x. P (put_queued s id x))
      (λ e. k (changes.turns id h (half_after h room)) s ((live_sends s id h is), on, (and_parts _ _ e).1) q)
      (λ e. k (changes.queues id h (half_after h room) (has_pending (half_after h room))) s ((live_sends s id h is), on, refl) q)

  pub by_stream_frames : (fair : Bool) (most : ℕ) (d : Sent) → ((s : StreamsState) (id room : ℕ) (h : SendHalf) → at s.sending.halves.live id ≡ Some h → P s → S s id h (half_after h room)) → P d.state → P (with_stream_frames fair most d).state
  by_stream_frames fair most d on q = walk.by_stream_frames fair most (λ d. P d.state) (λ d id h f first room g q. by_frame fair d.state id (stream_room most d id) h f (on d.state id (stream_room most d id) h f q) q) d q

  -- ---- limits that are told

  -- the peer is told how far it may come on a stream
  pub by_limit_told : (s : StreamsState) (id : ℕ) → P s → P (record s { receiving = limit_told s.receiving id })
  by_limit_told s id q =
      let told : RecvHalf → RecvHalf = λ h. record h { announced = raised_on s.receiving.stream_window h } in
      by_option (at s.receiving.halves.live id) (λ o. P (record s { receiving = record s.receiving { halves = record s.receiving.halves { live = changed_at o told s.receiving.halves.live id } } })) (λ e. q)
      (λ h e. subst (λ o. P (record s { receiving = record s.receiving { halves = placed o s.side s.receiving.halves id (told h) } })) e (k (changes.tells_on id h) s e q))

  -- the peer is told that a limit on a stream is used up
  pub by_blocked_told : (s : StreamsState) (id limit : ℕ) → P s → P (record s { sending = blocked_told_on s.sending id limit })
  by_blocked_told s id limit q =
      let told : SendHalf → SendHalf = λ h. record h { said = Some limit } in
      by_option (at s.sending.halves.live id) (λ o. P (record s { sending = record s.sending { halves = record s.sending.halves { live = changed_at o told s.sending.halves.live id } } })) (λ e. q)
      (λ h e. subst (λ o. P (record s { sending = record s.sending { halves = placed o s.side s.sending.halves id (told h) } })) e (k (changes.notes_on id h (Some limit)) s (live_sends s id h e) q))

  -- and how far it may come on several
  pub by_limits_told : (ids : List ℕ) (s : StreamsState) → P s → P (record s { receiving = fold limit_told s.receiving ids })
  by_limits_told [] s q = q
  by_limits_told (id ∷ ids) s q = by_limits_told ids (record s { receiving = limit_told s.receiving id }) (by_limit_told s id q)

  -- ---- a write of several buffers

  -- a write of no byte leaves all as it was
  chunks_taken : (s : StreamsState) (id : ℕ) (h : SendHalf) (cs : List (List ℕ)) (n : ℕ) → sending_half s id ≡ Some h → h.buffer.unsent ≤ written h.buffer → h.reset ≡ None → n ≤ room_on h → n ≤ room s.sending → n ≤ bytes_of cs
      → ((n : ℕ) (old new : SendHalf) → sending_half s id ≡ Some old → WritesOn (room s.sending) n old new → W s id n old new) → P s → P (chunks_accepted_at (Some h) s id n cs)
  chunks_taken s id h cs zero is bounded none fits within all on q = q
  chunks_taken s id h cs (suc n) is bounded none fits within all on q =
      let g : GrownBy h (grown_all h (cut_to (suc n) cs)) (bytes_of (cut_to (suc n) cs)) = grown_all_by h (cut_to (suc n) cs) in
      let count : bytes_of (cut_to (suc n) cs) ≡ suc n = cut_bytes (suc n) cs all in
      k (changes.writes id (suc n) h (grown_all h (cut_to (suc n) cs))) s (is, (on (suc n) h (grown_all h (cut_to (suc n) cs)) is (record { stands = record { place = g.place; blocked = g.blocked; said = g.said }; more = grown_more h (grown_all h (cut_to (suc n) cs)) (suc n) (bytes_of (cut_to (suc n) cs)) count none g; limit = g.limit; fits = fits; within = within })), (grown_pending h (grown_all h (cut_to (suc n) cs)) (bytes_of (cut_to (suc n) cs)) g bounded (omega arith))) q

  pub by_write_chunks : (is_open : Bool) (s : StreamsState) (p : Retransmits) (id : ℕ) (cs : List (List ℕ)) → ((h : SendHalf) → sending_half s id ≡ Some h → h.buffer.unsent ≤ written h.buffer)
      → ((n : ℕ) (old new : SendHalf) → sending_half s id ≡ Some old → WritesOn (room s.sending) n old new → W s id n old new) → P s → P (after_write_chunks is_open (write_chunks_answer is_open s id cs) s p id cs).state
  by_write_chunks false s p id cs bounded on q = q
  by_write_chunks true s p id cs bounded on q = go (written_to (sending_half s id) (room s.sending) (bytes_of cs)) refl
    where
      go : (answer : Result ℕ WriteError) → written_to (sending_half s id) (room s.sending) (bytes_of cs) ≡ answer → P (chunks_written_by (chunks_of answer cs) s p id cs).state
      go (Ok n) is = by_option (sending_half s id) (λ o. written_to o (room s.sending) (bytes_of cs) ≡ Ok n → P (chunks_accepted_at o s id n cs)) (λ e f. q) (λ h e f.
          let t = taken h (room s.sending) (bytes_of cs) n f in
          chunks_taken s id h cs n e (bounded h e) t.2 t.0 t.1 t.3 on q) is
      go (Err write_errors.Blocked) is = by_blocked s p id (sending_half s id) refl q
      go (Err (write_errors.Stopped code)) is = q
      go (Err write_errors.ClosedStream) is = q
      go (Err write_errors.Memory) is = q

-- ---- where the limit on all streams is raised, and whichever halves are done

module _ {R : Receiving → ℕ → RecvHalf → RecvHalf → Type 0} {S : StreamsState → ℕ → SendHalf → SendHalf → Type 0} {W : StreamsState → ℕ → ℕ → SendHalf → SendHalf → Type 0} {A : StreamsState → Dir → Type 0} {F : ℕ → Type 0} (P : StreamsState → Type 0) (k : KeepsAll R S W A F P) where
  pub by_max_data : (s : StreamsState) (limit : ℕ) → P s → P (after_max_data s limit)
  by_max_data s limit q = by_max_data_where P k s limit (omega arith) q

  pub by_reset_acked : (s : StreamsState) (p : Retransmits) (id : ℕ) → P s → P (after_reset_acked s p id).state
  by_reset_acked s p id q = by_reset_acked_where P k s p id (λ h e f. inl f) q

  pub by_stream_acked : (s : StreamsState) (p : Retransmits) (m : StreamMeta) → ((h : SendHalf) → at s.sending.halves.live m.id ≡ Some h → h.reset ≡ None → S s m.id h (half_acked h m))
      → ((h : SendHalf) → at s.sending.halves.live m.id ≡ Some h → h.reset ≡ None → is_acked (half_acked h m) ≡ true → F m.id) → P s → P (after_stream_acked s p m).state
  by_stream_acked s p m on over q = by_stream_acked_where P k s p m on over (λ h f. inr f) q
