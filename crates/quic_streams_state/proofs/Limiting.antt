-- A write is answered that it is blocked exactly where a limit blocks it.
use Rattle.std.proofs.Common.{◌≡◌, ◌≢◌, ℕ, Bool, true, false, Option, Some, None, IsSome, Result, Ok, Err, refl, arith}
use Rattle.std.specs.Prelude.{◌-◌, ◌==◌, ◌&&◌, ◌||◌, if◌then◌else◌, min}
use Rattle.std.specs.Option.{is_none}
use Rattle.quic_streams_parts.specs.declared.answers.WriteError.{WriteError}
use Rattle.quic_streams_parts.specs.declared.answers.WriteError.TheVariants as write_errors
use Rattle.quic_streams_parts.specs.SendHalf.{SendHalf, room_on, is_ready, taken_unless, written_to}
use Rattle.quic_streams_state.specs.declared.blocked.BlockedBy.TheVariants as by
use Rattle.quic_streams_state.specs.Parts.{room, buffered}
use Rattle.quic_streams_state.specs.State.{StreamsState, sending_half}
use Rattle.quic_streams_state.specs.Writing.{write_answer}
use Rattle.quic_streams_state.specs.Blocking.{half_blocked_by, blocked_at_half, blocked_by}

-- an answer as a choice says it
chosen : (q : Bool) (x y : Result ℕ WriteError) → q ≡ true → (if q then x else y) ≡ x
chosen true x y e = refl
chosen false x y e = cc

not_chosen : (q : Bool) (n : ℕ) → q ≡ false → (if q then Err write_errors.Blocked else Ok n) ≡ Err write_errors.Blocked → ⊥
not_chosen true n e x = cc
not_chosen false n e x = cc

-- ---- by a part's own limit

own : (h : SendHalf) (room len : ℕ) (r q : Bool) (st : Option ℕ) → (room_on h == 0) ≡ q → IsSome (if r && (is_none st && q) then Some by.Stream else None) → (if r then taken_unless st h room len else Err write_errors.ClosedStream) ≡ Err write_errors.Blocked
own h room len false q st e i = cc
own h room len true q (Some code) e i = cc
own h room len true false None e i = cc
own h room len true true None e i = chosen (room_on h == 0) (Err write_errors.Blocked) (Ok (min len (min room (room_on h)))) e

not_own : (h : SendHalf) (room len : ℕ) (r q : Bool) (st : Option ℕ) → (room_on h == 0) ≡ q → (if r && (is_none st && q) then Some by.Stream else None) ≡ None → (if r then taken_unless st h room len else Err write_errors.ClosedStream) ≡ Err write_errors.Blocked → ⊥
not_own h room len false q st e n x = cc
not_own h room len true q (Some code) e n x = cc
not_own h room len true true None e n x = cc
not_own h room len true false None e n x = not_chosen (room_on h == 0) (min len (min room (room_on h))) e x

-- ---- by what all streams may send

any : (h : SendHalf) (room len : ℕ) (z w m : Bool) → (z || w) ≡ m → IsSome (half_blocked_by (if z then Some by.Connection else (if w then Some by.SendWindow else None)) h) → (if m then Err write_errors.Blocked else (if is_ready h then taken_unless h.stopped h room len else Err write_errors.ClosedStream)) ≡ Err write_errors.Blocked
any h room len z w true e i = refl
any h room len true w false e i = cc
any h room len false true false e i = cc
any h room len false false false e i = own h room len (is_ready h) (room_on h == 0) h.stopped refl i

not_any : (h : SendHalf) (room len : ℕ) (z w m : Bool) → (z || w) ≡ m → half_blocked_by (if z then Some by.Connection else (if w then Some by.SendWindow else None)) h ≡ None → (if m then Err write_errors.Blocked else (if is_ready h then taken_unless h.stopped h room len else Err write_errors.ClosedStream)) ≡ Err write_errors.Blocked → ⊥
not_any h room len true w m e n x = cc
not_any h room len false true m e n x = cc
not_any h room len false false true e n x = cc
not_any h room len false false false e n x = not_own h room len (is_ready h) (room_on h == 0) h.stopped refl n x

-- the lesser of two numbers is none where one is
none_of : (a b : ℕ) → ((a == 0) || (b == 0)) ≡ (min a b == 0)
none_of a b = grind arith

-- ---- a write

at_half : (s : StreamsState) (o : Option SendHalf) (len : ℕ) → IsSome (blocked_at_half s.sending o) → written_to o (room s.sending) len ≡ Err write_errors.Blocked
at_half s None len i = cc
at_half s (Some h) len i = any h (room s.sending) len (s.sending.limit - s.sending.accepted == 0) (s.sending.window - buffered s.sending == 0) (room s.sending == 0) (none_of _ _) i

not_at_half : (s : StreamsState) (o : Option SendHalf) (len : ℕ) → blocked_at_half s.sending o ≡ None → written_to o (room s.sending) len ≡ Err write_errors.Blocked → ⊥
not_at_half s None len n x = cc
not_at_half s (Some h) len n x = not_any h (room s.sending) len (s.sending.limit - s.sending.accepted == 0) (s.sending.window - buffered s.sending == 0) (room s.sending == 0) (none_of _ _) n x

pub blocked : (is_open : Bool) (s : StreamsState) (id len : ℕ) → IsSome (blocked_by is_open s id) → write_answer is_open s id len ≡ Err write_errors.Blocked
blocked true s id len i = at_half s (sending_half s id) len i
blocked false s id len i = refl

pub not_blocked : (is_open : Bool) (s : StreamsState) (id len : ℕ) → blocked_by is_open s id ≡ None → write_answer is_open s id len ≢ Err write_errors.Blocked
not_blocked true s id len n = λ x. not_at_half s (sending_half s id) len n x
not_blocked false s id len n = λ x. cc
