-- What an application did on a stream that it writes, what frames say of it, and that an end holds
-- it (RFC 9000, sections 2.2, 3.1, 19.4 and 19.8).
use Rattle.std.specs.Prelude.{◌≡◌, ℕ, ◌<◌, ◌≤◌, ◌^◌, ◌⊎◌, Bool, true, false, ◌==◌, if◌then◌else◌, List, [], ◌++◌, length, take, drop, Option, Some, None, Result, Ok, Err}
use Rattle.std.specs.Option.{IsSome, option_map}
use Rattle.std.specs.List.{concat, AllByRecursion}
use Rattle.quic_parameters.specs.Parameters.{ParameterValues}
use Rattle.quic_wire.specs.Value.{FrameValue, StreamValue, ResetStreamValue, reset_stream}
use Rattle.quic_wire.specs.Writing.{StreamFits}
use Rattle.quic_send_buffer.specs.Buffered.{Buffered, IsBuffered}
use Rattle.quic_streams_parts.specs.declared.answers.Written.{Written}
use Rattle.quic_streams_parts.specs.declared.answers.WriteError.{WriteError}
use Rattle.quic_streams_parts.specs.declared.answers.FinishError.{FinishError}
use Rattle.quic_streams_parts.specs.declared.answers.UpdateError.{UpdateError}
use Rattle.quic_streams_parts.specs.SendHalf.{SendHalf}
use Rattle.quic_streams_parts.specs.RecvHalf.{end_of}
use Rattle.quic_retransmits.specs.Retransmits.{Retransmits}
use Rattle.quic_streams_halves.specs.Halves.{Status}
use Rattle.quic_streams_state.specs.declared.state.StreamsState.{StreamsState}
use Rattle.quic_streams_state.specs.State.{sending_status, first_limit}
use Rattle.quic_streams_laws.specs.Shape.{IsShaped}
use Rattle.quic_streams_laws.specs.Each.{StatusIs}

-- the bytes that were accepted; whether its finish was answered Ok; and the code of its reset that
-- was answered Ok
pub record Wrote : Type 0 where
  pub bytes : List ℕ
  pub ended : Bool
  pub reset : Option ℕ

-- nothing more is accepted on the stream
abbrev pub IsOver : Wrote → Type 0
IsOver w = (w.ended ≡ true) ⊎ IsSome w.reset

-- more was done: bytes only get longer, and none come once the stream ended or was reset, which
-- stays so
pub record Grows (w more : Wrote) : Type 0 where
  pub rest : List ℕ
  pub bytes : w.bytes ++ rest ≡ more.bytes
  pub over : IsOver w → more.bytes ≡ w.bytes
  pub ended : w.ended ≡ true → more.ended ≡ true
  pub reset : (code : ℕ) → w.reset ≡ Some code → more.reset ≡ Some code

-- ---- what is said of it

-- bytes stand among others at an offset: so many before them, and the rest behind
pub record StandsAt (all : List ℕ) (offset : ℕ) (bytes : List ℕ) : Type 0 where
  pub before : List ℕ
  pub behind : List ℕ
  pub is : (before ++ bytes) ++ behind ≡ all
  pub place : length before ≡ offset

-- a STREAM frame says what was written: its bytes stand at their offset, and its end is that of a
-- stream that ended
pub record IsStreamOf (w : Wrote) (f : StreamValue) : Type 0 where
  pub stands : StandsAt w.bytes f.offset f.bytes
  pub ended : f.fin ≡ true → w.ended ≡ true
  pub last : f.fin ≡ true → end_of f ≡ length w.bytes

-- a RESET_STREAM frame says how the stream was reset: the code, and how many bytes were written
pub record IsResetOf (w : Wrote) (f : ResetStreamValue) : Type 0 where
  pub code : w.reset ≡ Some f.code
  pub size : f.final_size ≡ length w.bytes

-- a STREAM frame says what was written, with the end exactly where it reaches that of a stream that
-- was finished; and the stream wasn't reset
pub record SaysWritten (w : Wrote) (f : StreamValue) : Type 0 where
  pub says : IsStreamOf w f
  pub ends : w.ended ≡ true → end_of f ≡ length w.bytes → f.fin ≡ true
  pub kept : w.reset ≡ None

-- a STREAM frame says what was written on its stream, and has a form (RFC 9000, section 19.8)
pub record SaysSo (wrote : ℕ → Wrote) (f : StreamValue) : Type 0 where
  pub says : SaysWritten (wrote f.id) f
  pub fits : StreamFits f

-- a frame, where it is RESET_STREAM, says how its stream was reset
abbrev pub ResetSays : (ℕ → Wrote) → FrameValue → Type 0
ResetSays wrote (reset_stream r) = IsResetOf (wrote r.id) r
ResetSays wrote f = Unit {0}

-- what waits to be sent names streams that were reset, each with its code
abbrev pub SaysResets : (ℕ → Wrote) → Retransmits → Type 0
SaysResets wrote p = AllByRecursion (λ e. (wrote e.0).reset ≡ Some e.1) p.reset_stream

-- ---- what is done more

-- nothing was done
abbrev pub nothing_done : Wrote
nothing_done = record { bytes = []; ended = false; reset = None }

-- more bytes were accepted
abbrev pub with_bytes : List ℕ → Wrote → Wrote
with_bytes more w = record w { bytes = w.bytes ++ more }

-- it was finished
abbrev pub with_end : Wrote → Wrote
with_end w = record w { ended = true }

-- it was reset
abbrev pub with_reset : ℕ → Wrote → Wrote
with_reset code w = record w { reset = Some code }

-- something more was done on one of all streams
abbrev pub done_on : ℕ → (Wrote → Wrote) → (ℕ → Wrote) → ℕ → Wrote
done_on id more wrote q = if q == id then more (wrote q) else wrote q

-- what was done once a write of bytes was answered
abbrev pub wrote_by : Result ℕ WriteError → ℕ → List ℕ → (ℕ → Wrote) → ℕ → Wrote
wrote_by (Ok n) id bytes wrote = done_on id (with_bytes (take n bytes)) wrote
wrote_by (Err e) id bytes wrote = wrote

-- a write of several buffers
abbrev pub wrote_chunks_by : Result Written WriteError → ℕ → List (List ℕ) → (ℕ → Wrote) → ℕ → Wrote
wrote_chunks_by (Ok w) id chunks wrote = done_on id (with_bytes (take w.bytes (concat chunks))) wrote
wrote_chunks_by (Err e) id chunks wrote = wrote

-- a finish
abbrev pub wrote_end_by : Result (Unit {0}) FinishError → ℕ → (ℕ → Wrote) → ℕ → Wrote
wrote_end_by (Ok x) id wrote = done_on id with_end wrote
wrote_end_by (Err e) id wrote = wrote

-- a reset with a code
abbrev pub wrote_reset_by : Result (Unit {0}) UpdateError → ℕ → ℕ → (ℕ → Wrote) → ℕ → Wrote
wrote_reset_by (Ok x) id code wrote = done_on id (with_reset code) wrote
wrote_reset_by (Err e) id code wrote = wrote

-- ---- what a sending half holds

-- the size that a reset tells (RFC 9000, section 4.5)
abbrev pub reset_size : Wrote → Option ℕ
reset_size w = option_map (λ code. length w.bytes) w.reset

-- the bytes from where some are kept on
pub record KeepsRest (bytes : List ℕ) (b : Buffered) : Type 0 where
  pub base : b.base ≤ length bytes
  pub kept : b.kept ≡ drop b.base bytes

-- no byte is kept, and no end waits
pub record KeepsNothing (h : SendHalf) : Type 0 where
  pub kept : h.buffer.kept ≡ []
  pub end : h.end_waits ≡ false

-- a half holds what was written from where it keeps bytes on; of one that was reset nothing but its
-- final size
pub record IsSendHalf (w : Wrote) (h : SendHalf) : Type 0 where
  pub lawful : IsBuffered h.buffer
  pub finished : h.finished ≡ w.ended
  pub reset : h.reset ≡ reset_size w
  pub rest : w.reset ≡ None → KeepsRest w.bytes h.buffer
  pub gone : IsSome w.reset → KeepsNothing h
  pub within : length w.bytes ≤ h.limit
  pub limit : h.limit < 2 ^ 62
  -- its end waits to go, or was acknowledged, only where there is one
  pub waits : h.end_waits ≡ true → w.ended ≡ true
  pub acked : h.end_acked ≡ true → w.ended ≡ true

-- how a half that has come so far holds what was written; where nothing is left to do, the stream
-- was finished or reset
abbrev pub IsSendStatus : Wrote → Status SendHalf → Type 0
IsSendStatus w status = StatusIs (w ≡ nothing_done) (λ h. IsSendHalf w h) (IsOver w) status

-- all streams hold what was written on them, with their halves in order, and the first limits are
-- below 2^62
pub record HoldsWritten (wrote : ℕ → Wrote) (s : StreamsState) : Type 0 where
  pub shape : IsShaped s
  pub first : (id : ℕ) → first_limit s id < 2 ^ 62
  pub each : (id : ℕ) → IsSendStatus (wrote id) (sending_status s id)

-- a peer's first limits for what comes on streams are below 2^62, as those are that parameters may
-- tell (RFC 9000, section 18.2)
pub record HasSmallLimits (p : ParameterValues) : Type 0 where
  pub own_bi : p.initial_max_stream_data_bidi_remote < 2 ^ 62
  pub own_uni : p.initial_max_stream_data_uni < 2 ^ 62
  pub remote : p.initial_max_stream_data_bidi_local < 2 ^ 62
