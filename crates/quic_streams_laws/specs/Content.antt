-- What is read of streams is what was written on them, stream by stream (RFC 9000, sections 2.2,
-- 3.2 and 4.5).
use Rattle.std.specs.Prelude.{◌≡◌, ℕ, ◌⊎◌, true, false, Option, Some, Result, Err}
use Rattle.quic_assembler.specs.declared.assembler.Chunk.{Chunk}
use Rattle.quic_streams_parts.specs.declared.answers.ReadError.{ReadError}
use Rattle.quic_streams_parts.specs.declared.answers.ReadError.TheVariants as read_errors
use Rattle.quic_streams_parts.specs.RecvHalf.{RecvHalf}
use Rattle.quic_streams_halves.specs.Halves.{Status, unknown, fresh, live, done}
use Rattle.quic_streams_state.specs.declared.state.StreamsState.{StreamsState}
use Rattle.quic_streams_state.specs.State.{receiving_status, receiving_half}
use Rattle.quic_streams_state.specs.Reading.{Told, told_bytes, told_end, told_reset, next_answer}
use Rattle.quic_streams_laws.specs.Shape.{IsShaped}
use Rattle.quic_streams_laws.specs.Written.{Wrote}
use Rattle.quic_streams_laws.specs.Reads.{Reads, nothing_read, IsReadOf, IsRecvHalf, IsAllRead}

-- a fact of the receiving half of each stream, by how far it has come
pub record AllReceiving (Q : ℕ → Status RecvHalf → Type 0) (s : StreamsState) : Type 0 where
  pub shape : IsShaped s
  pub each : (id : ℕ) → Q id (receiving_status s id)

-- what was read of a stream by how far its half has come: of one that wasn't in use yet nothing
abbrev pub IsRecvStatus : Wrote → Reads → Status RecvHalf → Type 0
IsRecvStatus w r unknown = r ≡ nothing_read
IsRecvStatus w r fresh = r ≡ nothing_read
IsRecvStatus w r (live h) = IsRecvHalf w r h
IsRecvStatus w r done = IsReadOf w r

-- what was written on each stream, and read of it
abbrev pub HoldsRead : (ℕ → Wrote) → (ℕ → Reads) → StreamsState → Type 0
HoldsRead wrote read s = AllReceiving (λ id x. IsRecvStatus (wrote id) (read id) x) s

-- what the reads of a stream have told is so: its end only where it ended and all of it was read,
-- and its reset with its code
abbrev pub TellsRight : Wrote → Reads → Told → Type 0
TellsRight w r told_bytes = Unit {0}
TellsRight w r told_end = (w.ended ≡ true) × IsAllRead w r
TellsRight w r (told_reset code) = w.reset ≡ Some code

-- a half of a stream that isn't stopped
pub record IsOpenHalf (s : StreamsState) (id : ℕ) : Type 0 where
  pub half : RecvHalf
  pub there : receiving_half s id ≡ Some half
  pub goes : half.stopped ≡ false

-- the stream of a read that goes on has such a half
abbrev pub MayRead : Told → StreamsState → ℕ → Type 0
MayRead told_bytes s id = IsOpenHalf s id
MayRead told_end s id = Unit {0}
MayRead (told_reset code) s id = Unit {0}

-- a `next` of at most so many bytes answers what the stream gives, or finds no memory
abbrev pub IsNextAnswer : Told → StreamsState → ℕ → ℕ → Result (Option Chunk) ReadError → Type 0
IsNextAnswer told s id most answer = (answer ≡ next_answer told s id most) ⊎ (answer ≡ Err read_errors.Memory)
