-- Which control frames wait behind a call on streams, a frame that comes, and what is acknowledged,
-- that didn't before: those that are called for.
use Rattle.std.proofs.Common.{◌≡◌, ℕ, Bool, true, false, ◌||◌, List, [], ◌∷◌, ◌++◌, Option, Some, None, Result, Ok, Err, refl, sym, ap, ◌∙◌, subst, ◌⊎◌, inl, inr}
use Rattle.std.specs.Prelude.{◌==◌, not, if◌then◌else◌}
use Rattle.std.specs.Option.{is_some}
use Rattle.std.proofs.lemmas.Bool.{or_cases, and_parts, not-true, eqb-true, eq-eqb}
use Rattle.quic_wire_core.specs.declared.stream_id.Dir.TheVariants.{Bi, Uni}
use Rattle.quic_wire.specs.Value.{FrameValue, StreamValue, ResetStreamValue, stream, reset_stream, stop_sending, max_data, max_stream_data, max_streams}
use Rattle.quic_send_buffer.specs.declared.stream_meta.StreamMeta.{StreamMeta}
use Rattle.quic_streams_parts.specs.declared.answers.Breach.{Breach}
use Rattle.quic_streams_parts.specs.declared.answers.ClosedStream.{ClosedStream}
use Rattle.quic_streams_parts.specs.declared.answers.WriteError.{WriteError}
use Rattle.quic_streams_parts.specs.declared.answers.WriteError.TheVariants as write_errors
use Rattle.quic_streams_parts.specs.declared.answers.Written.{Written}
use Rattle.quic_streams_parts.specs.SendHalf.{SendHalf, was_said, is_acked, half_acked}
use Rattle.quic_streams_parts.specs.Table.{at}
use Rattle.quic_streams_parts.specs.RecvHalf.{RecvHalf, after_frame, after_reset_stream}
use Rattle.quic_wire.specs.Value as values
use Rattle.quic_retransmits.specs.Retransmits.{Retransmits, with_id}
use Rattle.quic_streams_state.specs.declared.state.StreamsState.{StreamsState}
use Rattle.quic_streams_state.specs.State.{Streams, streams_of, sending_half, receiving_half, with_send, room, done_if, recv_done, send_done}
use Rattle.quic_streams_state.specs.Limits.{data_grew, count_grew, stream_grew, decided, settled, with_stream_if, read_decided, can_send_data_blocked}
use Rattle.quic_streams_state.specs.Taking.{joined}
use Rattle.quic_streams_state.specs.Writing.{is_newly_used_up, blocked_by_all, blocked_by_own, blocked_at, written_by, after_write, after_write_chunks, reset_at, replaced}
use Rattle.quic_streams_state.specs.Reading.{with_stop, stopped_if, stopped_at, received_reset_answer, reset_told, told_bytes, after_read_begun}
use Rattle.quic_streams_state.specs.Taking.{refusal, part_for, stream_at, stream_unless, after_stream, renewed, reset_breach, reset_unless, after_reset_frame}
use Rattle.quic_streams_state.specs.Taking as taking
use Rattle.quic_streams_state.specs.Acked.{sent_half, finished, acked_on, acked_at, after_stream_acked, reset_acked_at, after_reset_acked}
use Rattle.quic_streams_laws.specs.KeepingLaws.{at-half}
use Rattle.quic_machine.specs.declared.run.Call.{Call}
use Rattle.quic_machine.specs.declared.run.Call.TheVariants as calls
use Rattle.quic_machine.specs.declared.run.Answer.{Answer}
use Rattle.quic_machine.specs.declared.run.Answer.TheVariants as answers
use Rattle.quic_machine.specs.Calls.{after_nexts}
use Rattle.quic_machine.specs.End.{End}
use Rattle.quic_machine.specs.StreamCalls.{after_on_streams}
use Rattle.quic_machine.specs.FrameCases.{OnStreams}
use Rattle.quic_machine.specs.Receive.{take_frame}
use Rattle.quic_headline.specs.Runs.{reset_by}
use Rattle.quic_headline.specs.Duties.{AllData, StreamData, StreamCount, has_reset, has_stop}
use Rattle.quic_headline.specs.Unread.{stopped_by}
use Rattle.quic_headline.specs.Begins.{Control, ResetOf, StopOf, LimitOf, Blocked, BlockedOn, NewId, Retirement, control_waits, uses_up, reads_on, finds_blocked, brings_data, Request, Done}
use Rattle.quic_headline.proofs.Begins.Controls.{has_either}
use Rattle.std.proofs.lemmas.List.Folds.{list_any-append}

-- ---- limits that are decided

-- a limit on all data waits where it grew, and a count wherever it is decided
abbrev pub Grew : StreamsState → Control → Type 0
Grew s (LimitOf AllData) = data_grew s.receiving ≡ true
Grew s (LimitOf (StreamCount dir)) = Unit {0}
Grew s c = ⊥

pub decided_one : (c : Control) (s : StreamsState) (p : Retransmits) → control_waits (decided s p) c ≡ true → (control_waits p c ≡ true) ⊎ Grew s c
decided_one (LimitOf AllData) s p is = or_cases p.max_data (data_grew s.receiving) is
decided_one (LimitOf (StreamCount Bi)) s p is = elim (or_cases p.max_stream_id.bi (count_grew Bi s.opening) is) [ inl was ↦ inl was | inr grew ↦ inr tt ]
decided_one (LimitOf (StreamCount Uni)) s p is = elim (or_cases p.max_stream_id.uni (count_grew Uni s.opening) is) [ inl was ↦ inl was | inr grew ↦ inr tt ]
decided_one c s p is = inl is

-- ---- calls

-- whether a call on streams asks for a control frame
abbrev pub call_asks : Call → Answer → Control → Bool
call_asks call a (ResetOf id) = is_some (reset_by id call a)
call_asks call a (StopOf id) = stopped_by id call a
call_asks call a (LimitOf AllData) = uses_up call a
call_asks call a (LimitOf (StreamData id)) = reads_on id call a
call_asks call a (LimitOf (StreamCount dir)) = uses_up call a
call_asks call a Blocked = finds_blocked (λ id. true) call a
call_asks call a (BlockedOn id) = finds_blocked (λ j. j == id) call a
call_asks call a (NewId number) = false
call_asks call a (Retirement number) = false
call_asks call a Request = false
call_asks call a Done = false

-- a limit that is decided is asked for by a call that uses up what came
grew_asked : (c : Control) (s : StreamsState) (call : Call) (a : Answer) → uses_up call a ≡ true → Grew s c → call_asks call a c ≡ true
grew_asked (LimitOf AllData) s call a uses grew = uses
grew_asked (LimitOf (StreamCount dir)) s call a uses grew = uses
grew_asked c s call a uses grew = absurd grew

-- A write is blocked by a half's own limit, which isn't the one that was said last: behind it the
-- half is in use.
pub record AsksOn (id : ℕ) (s t : StreamsState) : Type 0 where
  pub half : SendHalf
  pub there : sending_half s id ≡ Some half
  pub unsaid : was_said half.said half.limit ≡ false
  pub used : at t.sending.halves.live id ≡ Some half

-- a limit that is found used up by a call that leaves these streams isn't the one that was said
-- last; and one on all data, or on a stream that was read, grew in these
abbrev pub IsUnsaid : StreamsState → StreamsState → Control → Type 0
IsUnsaid s t Blocked = was_said s.sending.said s.sending.limit ≡ false
IsUnsaid s t (BlockedOn id) = AsksOn id s t
IsUnsaid s t (LimitOf (StreamData id)) = stream_grew t id ≡ true
IsUnsaid s t (LimitOf AllData) = data_grew t.receiving ≡ true
IsUnsaid s t c = Unit {0}

-- where another control frame is asked for, nothing is to be shown
unsaid_as : (s t : StreamsState) (c d : Control) → c ≡ d → IsUnsaid s t d → IsUnsaid s t c
unsaid_as s t c d same i = subst (IsUnsaid s t) (sym same) i

grew_unsaid : (c : Control) (s t : StreamsState) → Grew t c → IsUnsaid s t c
grew_unsaid (LimitOf AllData) s t grew = grew
grew_unsaid (LimitOf (StreamCount dir)) s t grew = tt
grew_unsaid c s t grew = absurd grew

-- it waited, or is asked for
abbrev pub By : Streams → StreamsState → Call → Answer → Control → Type 0
By t v call a c = (control_waits t.pending c ≡ true) ⊎ ((call_asks call a c ≡ true) × IsUnsaid t.state v c)

-- either of two
either : (b : Bool) (x y : Streams) (c : Control) (P : Type 0) → (control_waits x.pending c ≡ true → P) → (control_waits y.pending c ≡ true → P) → control_waits (if b then x else y).pending c ≡ true → P
either true x y c P one other is = one is
either false x y c P one other is = other is

-- a write that is blocked
blocked_all : (c : Control) (b : Bool) (p : Retransmits) → control_waits (record p { data_blocked = p.data_blocked || b }) c ≡ true → (control_waits p c ≡ true) ⊎ ((c ≡ Blocked) × (b ≡ true))
blocked_all Blocked b p is = elim (or_cases p.data_blocked b is) [ inl was ↦ inl was | inr now ↦ inr (refl, now) ]
blocked_all c b p is = inl is

blocked_own : (c : Control) (id : ℕ) (p : Retransmits) → control_waits (record p { stream_data_blocked = with_id id p.stream_data_blocked }) c ≡ true → (control_waits p c ≡ true) ⊎ (c ≡ BlockedOn id)
blocked_own (BlockedOn q) id p is = elim (has_either id q p.stream_data_blocked is) [ inl was ↦ inl was | inr same ↦ inr (ap BlockedOn same) ]
blocked_own c id p is = inl is

-- what waits behind it waited, or is asked for
abbrev BlockedBy : Control → ℕ → StreamsState → Retransmits → StreamsState → Type 0
BlockedBy c id s p t = (control_waits p c ≡ true) ⊎ (((c ≡ Blocked) ⊎ (c ≡ BlockedOn id)) × IsUnsaid s t c)

blocked_one : (c : Control) (o : Option SendHalf) (s : StreamsState) (p : Retransmits) (id : ℕ) → sending_half s id ≡ o → control_waits (blocked_at o s p id).pending c ≡ true → BlockedBy c id s p (blocked_at o s p id).state
blocked_one c None s p id there is = inl is
blocked_one c (Some h) s p id there is = go (room s.sending == 0) is
  where
    own : (b : Bool) → was_said h.said h.limit ≡ b → control_waits (if b then streams_of s p else streams_of (with_send s id h) (record p { stream_data_blocked = with_id id p.stream_data_blocked })).pending c ≡ true
        → BlockedBy c id s p (if b then streams_of s p else streams_of (with_send s id h) (record p { stream_data_blocked = with_id id p.stream_data_blocked })).state
    own true said is = inl is
    own false said is = elim (blocked_own c id p is) [
      | inl was ↦ inl was
      | inr same ↦ inr (inr same, unsaid_as s (with_send s id h) c (BlockedOn id) same (record { half = h; there = there; unsaid = said; used = at-half s.side s.sending.halves id h }))
    ]

    go : (b : Bool) → control_waits (if b then blocked_by_all s p id h else blocked_by_own s p id h).pending c ≡ true → BlockedBy c id s p (if b then blocked_by_all s p id h else blocked_by_own s p id h).state
    go true is = elim (blocked_all c (is_newly_used_up s) p is) [
      | inl was ↦ inl was
      | inr new ↦ inr (inl new.0, unsaid_as s (joined s id h) c Blocked new.0 (not-true (was_said s.sending.said s.sending.limit) (and_parts (can_send_data_blocked s) (not (was_said s.sending.said s.sending.limit)) new.1).1))
    ]
    go false is = own (was_said h.said h.limit) refl is

-- both are asked for by such a write
blocked_asked : (c : Control) (id : ℕ) (call : Call) (a : Answer) → finds_blocked (λ j. true) call a ≡ true → finds_blocked (λ j. j == id) call a ≡ true → (c ≡ Blocked) ⊎ (c ≡ BlockedOn id) → call_asks call a c ≡ true
blocked_asked c id call a all own (inl same) = ap (call_asks call a) same ∙ all
blocked_asked c id call a all own (inr same) = ap (call_asks call a) same ∙ own

written_one : (c : Control) (r : Result ℕ WriteError) (s : StreamsState) (p : Retransmits) (id : ℕ) (bytes : List ℕ) → control_waits (written_by r s p id bytes).pending c ≡ true
    → (control_waits p c ≡ true) ⊎ ((r ≡ Err write_errors.Blocked) × ((c ≡ Blocked) ⊎ (c ≡ BlockedOn id)) × IsUnsaid s (written_by r s p id bytes).state c)
written_one c (Ok n) s p id bytes is = inl is
written_one c (Err write_errors.Blocked) s p id bytes is = elim (blocked_one c (sending_half s id) s p id refl is) [ inl was ↦ inl was | inr new ↦ inr (refl, new.0, new.1) ]
written_one c (Err (write_errors.Stopped code)) s p id bytes is = inl is
written_one c (Err write_errors.ClosedStream) s p id bytes is = inl is
written_one c (Err write_errors.Memory) s p id bytes is = inl is

itself : (id : ℕ) → (id == id) ≡ true
itself id = eq-eqb id id refl

write_one : (b : Bool) (c : Control) (r : Result ℕ WriteError) (t : Streams) (id : ℕ) (bytes : List ℕ) → control_waits (after_write b r t.state t.pending id bytes).pending c ≡ true → By t (after_write b r t.state t.pending id bytes).state (calls.Write id bytes) (answers.Write r) c
write_one false c r t id bytes is = inl is
write_one true c r t id bytes is = elim (written_one c r t.state t.pending id bytes is) [
  | inl was ↦ inl was
  | inr new ↦ inr (
    blocked_asked c id (calls.Write id bytes) (answers.Write r)
        (ap (λ (x : Result ℕ WriteError). finds_blocked (λ j. true) (calls.Write id bytes) (answers.Write x)) new.0)
        (ap (λ (x : Result ℕ WriteError). finds_blocked (λ j. j == id) (calls.Write id bytes) (answers.Write x)) new.0 ∙ itself id) new.1,
    new.2,
  )
]

chunks_one : (b : Bool) (c : Control) (r : Result Written WriteError) (t : Streams) (id : ℕ) (call : Call) → ((e : WriteError) → e ≡ write_errors.Blocked → (finds_blocked (λ j. true) call (answers.WriteChunks (Err e)) ≡ true) × (finds_blocked (λ j. j == id) call (answers.WriteChunks (Err e)) ≡ true))
    → (cs : List (List ℕ)) → control_waits (after_write_chunks b r t.state t.pending id cs).pending c ≡ true → By t (after_write_chunks b r t.state t.pending id cs).state call (answers.WriteChunks r) c
chunks_one false c r t id call asks cs is = inl is
chunks_one true c (Ok w) t id call asks cs is = inl is
chunks_one true c (Err e) t id call asks cs is = elim (written_one c (Err e) t.state t.pending id [] is) [
  | inl was ↦ inl was
  | inr new ↦ (let same : e ≡ write_errors.Blocked = (let both : ◌≡◌ {A = Result ℕ WriteError} (Err e) (Err write_errors.Blocked) = new.0 in cc) in let found = asks e same in inr (blocked_asked c id call (answers.WriteChunks (Err e)) found.0 found.1 new.1, new.2))
]

-- a reset
reset_more : (c : Control) (id code : ℕ) (p : Retransmits) → control_waits (record p { reset_stream = p.reset_stream ++ (id, code) ∷ [] }) c ≡ true → (control_waits p c ≡ true) ⊎ (c ≡ ResetOf id)
reset_more (ResetOf q) id code p is = elim (or_cases (has_reset q p.reset_stream) ((id == q) || false) (sym (list_any-append (λ (r : ℕ × ℕ). r.0 == q) p.reset_stream ((id, code) ∷ [])) ∙ is)) [
  | inl was ↦ inl was
  | inr new ↦ inr (ap ResetOf (sym (eqb-true id q (elim (or_cases (id == q) false new) [ inl here ↦ here | inr none ↦ absurd (let clash : false ≡ true = none in cc) ]))))
]
reset_more c id code p is = inl is

reset_one : (c : Control) (o : Option SendHalf) (s : StreamsState) (p : Retransmits) (id code : ℕ) → control_waits (reset_at o s p id code).pending c ≡ true → (control_waits p c ≡ true) ⊎ (c ≡ ResetOf id)
reset_one c None s p id code is = inl is
reset_one c (Some h) s p id code is = either (is_some h.reset) _ _ c ((control_waits p c ≡ true) ⊎ (c ≡ ResetOf id)) (λ was. inl was) (λ new. reset_more c id code p new) is

-- a stop
stop_more : (c : Control) (o : Option ℕ) (id code : ℕ) (p : Retransmits) → control_waits (with_stop o id code p) c ≡ true → (control_waits p c ≡ true) ⊎ (c ≡ StopOf id)
stop_more c (Some code) id _ p is = inl is
stop_more (StopOf q) None id code p is = elim (or_cases (has_stop q p.stop_sending) ((id == q) || false) (sym (list_any-append (λ (s : values.StopSendingValue). s.id == q) p.stop_sending (record { id = id; code = code } ∷ [])) ∙ is)) [
  | inl was ↦ inl was
  | inr new ↦ inr (ap StopOf (sym (eqb-true id q (elim (or_cases (id == q) false new) [ inl here ↦ here | inr none ↦ absurd (let clash : false ≡ true = none in cc) ]))))
]
stop_more c None id code p is = inl is

-- limits are decided in the state that it leaves
stop_one : (c : Control) (o : Option RecvHalf) (s : StreamsState) (p : Retransmits) (id code : ℕ) → control_waits (stopped_at o s p id code).pending c ≡ true → (control_waits p c ≡ true) ⊎ ((c ≡ StopOf id) ⊎ Grew (stopped_at o s p id code).state c)
stop_one c None s p id code is = inl is
stop_one c (Some h) s p id code is = go h.stopped is
  where
    left : StreamsState
    left = stopped_if (is_some h.final) s id h

    after : Streams
    after = settled left (with_stop h.reset id code p)

    go : (b : Bool) → control_waits (if b then streams_of s p else after).pending c ≡ true → (control_waits p c ≡ true) ⊎ ((c ≡ StopOf id) ⊎ Grew (if b then streams_of s p else after).state c)
    go true was = inl was
    go false new = elim (decided_one c left (with_stop h.reset id code p) new) [
      | inl waits ↦ elim (stop_more c h.reset id code p waits) [ inl was ↦ inl was | inr same ↦ inr (inl same) ]
      | inr grew ↦ inr (inr grew)
    ]

-- a reset that is told
told_one : (c : Control) (r : Result (Option ℕ) ClosedStream) (s : StreamsState) (p : Retransmits) (id : ℕ) → control_waits (reset_told r s p id).pending c ≡ true → By (streams_of s p) (reset_told r s p id).state (calls.ReceivedReset id) (answers.ReceivedReset r) c
told_one c (Ok (Some code)) s p id is = elim (decided_one c (recv_done s id) p is) [ inl was ↦ inl was | inr grew ↦ inr (grew_asked c (recv_done s id) (calls.ReceivedReset id) (answers.ReceivedReset (Ok (Some code))) refl grew, grew_unsaid c s (recv_done s id) grew) ]
told_one c (Ok None) s p id is = inl is
told_one c (Err e) s p id is = inl is

-- a read
stream_more : (c : Control) (b : Bool) (id : ℕ) (p : Retransmits) → control_waits (with_stream_if b id p) c ≡ true → (control_waits p c ≡ true) ⊎ ((c ≡ LimitOf (StreamData id)) × (b ≡ true))
stream_more c false id p is = inl is
stream_more (LimitOf (StreamData q)) true id p is = elim (has_either id q p.max_stream_data is) [ inl was ↦ inl was | inr same ↦ inr (ap (λ (n : ℕ). LimitOf (StreamData n)) same, refl) ]
stream_more c true id p is = inl is

read_one : (c : Control) (s : StreamsState) (p : Retransmits) (id : ℕ) → control_waits (read_decided s p id) c ≡ true → (control_waits p c ≡ true) ⊎ (((c ≡ LimitOf (StreamData id)) × (stream_grew s id ≡ true)) ⊎ Grew s c)
read_one c s p id is = elim (stream_more c (stream_grew s id) id (decided s p) is) [
  | inl waits ↦ elim (decided_one c s p waits) [ inl was ↦ inl was | inr grew ↦ inr (inr grew) ]
  | inr same ↦ inr (inl same)
]

-- what waits behind a call on streams waited, or is asked for
pub call_one : (b : Bool) (c : Control) (t : Streams) (call : Call) (a : Answer) → ((id : ℕ) → call ≡ calls.ReceivedReset id → a ≡ answers.ReceivedReset (received_reset_answer t.state id)) → control_waits (after_on_streams b t call a).pending c ≡ true → By t (after_on_streams b t call a).state call a c
call_one b c t (calls.Open dir) a told is = inl is
call_one b c t (calls.Accept dir) a told is = inl is
call_one b c t (calls.Write id bytes) (answers.Write r) told is = write_one b c r t id bytes is
call_one b c t (calls.WriteChunks id chunks) (answers.WriteChunks r) told is = chunks_one b c r t id (calls.WriteChunks id chunks) asks chunks.items is
  where
    asks : (e : WriteError) → e ≡ write_errors.Blocked → (finds_blocked (λ j. true) (calls.WriteChunks id chunks) (answers.WriteChunks (Err e)) ≡ true) × (finds_blocked (λ j. j == id) (calls.WriteChunks id chunks) (answers.WriteChunks (Err e)) ≡ true)
    asks e same = (
      ap (λ (x : WriteError). finds_blocked (λ j. true) (calls.WriteChunks id chunks) (answers.WriteChunks (Err x))) same,
      ap (λ (x : WriteError). finds_blocked (λ j. j == id) (calls.WriteChunks id chunks) (answers.WriteChunks (Err x))) same ∙ itself id,
    )
call_one b c t (calls.Finish id) (answers.Finish r) told is = inl is
call_one b c t (calls.Reset id code) (answers.Reset (Ok done)) told is = elim (reset_one c (sending_half t.state id) t.state t.pending id code is) [
  | inl was ↦ inl was
  | inr same ↦ inr (ap (call_asks (calls.Reset id code) (answers.Reset (Ok done))) same ∙ chosen (id == id) (itself id), unsaid_as t.state (after_on_streams b t (calls.Reset id code) (answers.Reset (Ok done))).state c (ResetOf id) same tt)
]
  where
    chosen : (y : Bool) → y ≡ true → is_some (if y then Some code else None) ≡ true
    chosen true is = refl
    chosen false is = cc
call_one b c t (calls.Reset id code) (answers.Reset (Err e)) told is = inl is
call_one b c t (calls.SetPriority id priority) (answers.SetPriority (Ok done)) told is = inl is
call_one b c t (calls.SetPriority id priority) (answers.SetPriority (Err e)) told is = inl is
call_one b c t (calls.Read read) (answers.Read (Ok said)) told is =
    let s : StreamsState = after_nexts told_bytes (after_read_begun t.state read.id read.ordered) read.id read.nexts.items said in
    elim (read_one c s t.pending read.id is) [
      | inl was ↦ inl was
      | inr new ↦ elim new [
        | inl same ↦ inr (ap (call_asks (calls.Read read) (answers.Read (Ok said))) same.0 ∙ itself read.id, unsaid_as t.state s c (LimitOf (StreamData read.id)) same.0 same.1)
        | inr grew ↦ inr (grew_asked c s (calls.Read read) (answers.Read (Ok said)) refl grew, grew_unsaid c t.state s grew)
      ]
    ]
call_one b c t (calls.Read read) (answers.Read (Err e)) told is = inl is
call_one b c t (calls.Stop id code) (answers.Stop (Ok done)) told is = elim (stop_one c (receiving_half t.state id) t.state t.pending id code is) [
  | inl was ↦ inl was
  | inr new ↦ elim new [
    | inl same ↦ inr (ap (call_asks (calls.Stop id code) (answers.Stop (Ok done))) same ∙ itself id, unsaid_as t.state (after_on_streams b t (calls.Stop id code) (answers.Stop (Ok done))).state c (StopOf id) same tt)
    | inr grew ↦ (let v : StreamsState = (after_on_streams b t (calls.Stop id code) (answers.Stop (Ok done))).state in inr (grew_asked c v (calls.Stop id code) (answers.Stop (Ok done)) refl grew, grew_unsaid c t.state v grew))
  ]
]
call_one b c t (calls.Stop id code) (answers.Stop (Err e)) told is = inl is
call_one b c t (calls.ReceivedReset id) a told is = subst (λ (x : Answer). By t (after_on_streams b t (calls.ReceivedReset id) x).state (calls.ReceivedReset id) x c) (sym (told id refl)) (told_one c (received_reset_answer t.state id) t.state t.pending id is)
call_one b c t call a told is = inl is

-- ---- frames that come

-- limits that STREAM and RESET_STREAM may raise, where they leave these streams
abbrev pub IsRaised : StreamsState → Control → Type 0
IsRaised t (LimitOf AllData) = data_grew t.receiving ≡ true
IsRaised t (LimitOf (StreamCount dir)) = Unit {0}
IsRaised t c = ⊥

grew_raised : (c : Control) (s : StreamsState) → Grew s c → IsRaised s c
grew_raised (LimitOf AllData) s grew = grew
grew_raised (LimitOf (StreamCount dir)) s grew = tt
grew_raised c s grew = absurd grew

-- it waited, or is raised
abbrev RaisedIn : Control → Retransmits → Streams → Type 0
RaisedIn c p t = (control_waits p c ≡ true) ⊎ IsRaised t.state c

raised_one : (c : Control) (s : StreamsState) (p : Retransmits) → control_waits (decided s p) c ≡ true → RaisedIn c p (settled s p)
raised_one c s p is = elim (decided_one c s p is) [ inl was ↦ inl was | inr grew ↦ inr (grew_raised c s grew) ]

stream_one : (c : Control) (s : StreamsState) (p : Retransmits) (f : StreamValue) → control_waits (after_stream s p f).pending c ≡ true → RaisedIn c p (after_stream s p f)
stream_one c s p f is = go (refusal s f.id _ f.fin) is
  where
    at_part : (o : Option RecvHalf) → control_waits (stream_at o s p f).pending c ≡ true → RaisedIn c p (stream_at o s p f)
    at_part None is = inl is
    at_part (Some h) is = raised_one c (renewed s f.id h (after_frame h f) true) p is

    go : (o : Option Breach) → control_waits (stream_unless o s p f).pending c ≡ true → RaisedIn c p (stream_unless o s p f)
    go (Some x) is = inl is
    go None is = at_part (part_for s f.id) is

reset_frame_one : (c : Control) (s : StreamsState) (p : Retransmits) (f : ResetStreamValue) → control_waits (after_reset_frame s p f).pending c ≡ true → RaisedIn c p (after_reset_frame s p f)
reset_frame_one c s p f is = go (reset_breach s f) is
  where
    at_part : (o : Option RecvHalf) → control_waits (taking.reset_at o s p f).pending c ≡ true → RaisedIn c p (taking.reset_at o s p f)
    at_part None is = inl is
    at_part (Some h) is = raised_one c (renewed s f.id h (after_reset_stream h f.code f.final_size) _) p is

    go : (o : Option Breach) → control_waits (reset_unless o s p f).pending c ≡ true → RaisedIn c p (reset_unless o s p f)
    go (Some x) is = inl is
    go None is = at_part (part_for s f.id) is

-- what waits behind a frame on streams waited, or the frame brings data, and it is a limit
pub frame_one : (c : Control) (f : FrameValue) (e : End) → OnStreams f → control_waits (take_frame f e).end.waiting.frames c ≡ true → (control_waits e.waiting.frames c ≡ true) ⊎ ((brings_data f ≡ true) × IsRaised (take_frame f e).end.streams c)
frame_one c (stream f) e on is = elim (stream_one c e.streams e.waiting.frames f is) [ inl was ↦ inl was | inr raised ↦ inr (refl, raised) ]
frame_one c (reset_stream f) e on is = elim (reset_frame_one c e.streams e.waiting.frames f is) [ inl was ↦ inl was | inr raised ↦ inr (refl, raised) ]
frame_one c (stop_sending f) e on is = inl is
frame_one c (max_data limit) e on is = inl is
frame_one c (max_stream_data f) e on is = inl is
frame_one c (max_streams f) e on is = inl is
frame_one c f e on is = absurd on

-- ---- what is acknowledged

-- a sending half that is done leaves what is received
done_leaves : (b : Bool) (id : ℕ) (s : StreamsState) → (done_if b id s).receiving ≡ s.receiving
done_leaves true id s = refl
done_leaves false id s = refl

grew_then : (c : Control) (s v : StreamsState) → v.receiving ≡ s.receiving → Grew v c → Grew s c
grew_then (LimitOf AllData) s v same grew = ap data_grew (sym same) ∙ grew
grew_then (LimitOf (StreamCount dir)) s v same grew = tt
grew_then c s v same grew = absurd grew

pub acked_one : (c : Control) (s : StreamsState) (p : Retransmits) (m : StreamMeta) → control_waits (after_stream_acked s p m).pending c ≡ true → (control_waits p c ≡ true) ⊎ Grew s c
acked_one c s p m is = go (sent_half s m.id) is
  where
    go : (o : Option SendHalf) → control_waits (acked_at o s p m).pending c ≡ true → (control_waits p c ≡ true) ⊎ Grew s c
    go None is = inl is
    go (Some h) is = either (is_some h.reset) (streams_of s p) (acked_on h s p m) c ((control_waits p c ≡ true) ⊎ Grew s c) (λ was. inl was)
        (either (is_acked (half_acked h m)) (settled (finished (replaced s m.id (half_acked h m)) m.id) p) (streams_of (replaced s m.id (half_acked h m)) p) c ((control_waits p c ≡ true) ⊎ Grew s c)
        (λ new. elim (decided_one c (finished (replaced s m.id (half_acked h m)) m.id) p new) [ inl was ↦ inl was | inr grew ↦ inr (grew_then c s (finished (replaced s m.id (half_acked h m)) m.id) (done_leaves _ m.id _) grew) ])
        (λ was. inl was)) is

pub reset_acked_one : (c : Control) (s : StreamsState) (p : Retransmits) (id : ℕ) → control_waits (after_reset_acked s p id).pending c ≡ true → (control_waits p c ≡ true) ⊎ Grew s c
reset_acked_one c s p id is = go (sent_half s id) is
  where
    go : (o : Option SendHalf) → control_waits (reset_acked_at o s p id).pending c ≡ true → (control_waits p c ≡ true) ⊎ Grew s c
    go None is = inl is
    go (Some h) is = either (is_some h.reset) (settled (send_done s id) p) (streams_of s p) c ((control_waits p c ≡ true) ⊎ Grew s c)
        (λ new. elim (decided_one c (send_done s id) p new) [ inl was ↦ inl was | inr grew ↦ inr (grew_then c s (send_done s id) (done_leaves _ id _) grew) ])
        (λ was. inl was) is
