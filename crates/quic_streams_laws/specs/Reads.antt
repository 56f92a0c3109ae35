-- What is read of a stream is what was written on it (RFC 9000, sections 2.2, 3.2 and 4.5).
use Rattle.std.specs.Prelude.{◌≡◌, ℕ, ◌<◌, ◌≤◌, Bool, true, false, ◌==◌, if◌then◌else◌, List, [], ◌∷◌, ◌++◌, length, slice_get, Option, Some, None, Result, Ok, Err}
use Rattle.std.specs.Option.{IsSome}
use Rattle.quic_assembler.specs.declared.assembler.Chunk.{Chunk}
use Rattle.quic_assembler.specs.Arrived.{IsLawful, byte_at, is_given, in_chunk, bytes_read_of}
use Rattle.quic_assembler.specs.ArrivedHistory.{was_given}
use Rattle.quic_assembler.specs.Waiting.{end_of}
use Rattle.quic_streams_parts.specs.declared.answers.ReadError.{ReadError}
use Rattle.quic_streams_parts.specs.declared.answers.ReadError.TheVariants as read_errors
use Rattle.quic_streams_parts.specs.declared.answers.ReadableError.{ReadableError}
use Rattle.quic_streams_parts.specs.RecvHalf.{RecvHalf}
use Rattle.quic_streams_laws.specs.Written.{Wrote, IsOver, StandsAt}

-- what an application read of a stream: the chunks, the first first; and whether a read was begun
-- that isn't in order
pub record Reads : Type 0 where
  pub chunks : List Chunk
  pub unordered : Bool

-- nothing was read
abbrev pub nothing_read : Reads
nothing_read = record { chunks = []; unordered = false }

-- one chunk more was read
abbrev pub with_chunk_read : Chunk → Reads → Reads
with_chunk_read c r = record r { chunks = r.chunks ++ c ∷ [] }

-- a read was begun that isn't in order
abbrev pub with_unordered : Reads → Reads
with_unordered r = record r { unordered = true }

-- something more was read on one of all streams
abbrev pub read_of : ℕ → (Reads → Reads) → (ℕ → Reads) → ℕ → Reads
read_of id more read q = if q == id then more (read q) else read q

-- what was read once a read was begun, in order or not, by its answer
abbrev pub read_begun_by : Result (Unit {0}) ReadableError → Bool → ℕ → (ℕ → Reads) → ℕ → Reads
read_begun_by (Ok x) true id read = read
read_begun_by (Ok x) false id read = read_of id with_unordered read
read_begun_by (Err e) ordered id read = read

-- what was read once a `next` was answered
abbrev pub read_next_by : Result (Option Chunk) ReadError → ℕ → (ℕ → Reads) → ℕ → Reads
read_next_by (Ok (Some c)) id read = read_of id (with_chunk_read c) read
read_next_by (Ok None) id read = read
read_next_by (Err e) id read = read

-- the bytes of chunks, one behind another
abbrev pub bytes_of : List Chunk → List ℕ
bytes_of [] = []
bytes_of (c ∷ cs) = c.bytes ++ bytes_of cs

-- each chunk stands in these bytes at its offset
abbrev pub AreSlices : List ℕ → List Chunk → Type 0
AreSlices all [] = Unit {0}
AreSlices all (c ∷ cs) = StandsAt all c.offset c.bytes × AreSlices all cs

-- bytes that begin others
pub record IsPrefix (front all : List ℕ) : Type 0 where
  pub rest : List ℕ
  pub is : front ++ rest ≡ all

-- no two chunks have an offset in common
abbrev pub AreDistinct : List Chunk → Type 0
AreDistinct [] = Unit {0}
AreDistinct (c ∷ cs) = ((o : ℕ) → in_chunk (Some c) o ≡ true → was_given cs o ≡ false) × AreDistinct cs

-- the chunks stand one behind another from an offset on
abbrev pub FollowOn : ℕ → List Chunk → Type 0
FollowOn offset [] = Unit {0}
FollowOn offset (c ∷ cs) = (c.offset ≡ offset) × FollowOn (end_of c) cs

-- this was read of a stream on which that was written: slices at their offsets, no offset twice;
-- and while all reads were in order, one behind another from the first byte on
pub record IsReadOf (w : Wrote) (r : Reads) : Type 0 where
  pub slices : AreSlices w.bytes r.chunks
  pub once : AreDistinct r.chunks
  pub in_order : r.unordered ≡ false → FollowOn 0 r.chunks

-- a half of a stream on which this was written, and of which that was read
pub record IsRecvHalf (w : Wrote) (r : Reads) (h : RecvHalf) : Type 0 where
  pub reads : IsReadOf w r
  pub lawful : IsLawful h.arrived
  -- each byte that waits was written, and what was given is what the chunks have
  pub agrees : (o b : ℕ) → byte_at h.arrived.parts o ≡ Some b → slice_get w.bytes o ≡ Some b
  pub given : (o : ℕ) → is_given h.arrived o ≡ was_given r.chunks o
  pub counted : bytes_read_of h.arrived ≡ length (bytes_of r.chunks)
  pub ordered : h.arrived.unordered ≡ r.unordered
  -- no more was seen than was written; and the final size, once it is known, is how much was
  pub seen : h.seen ≤ length w.bytes
  pub over : IsSome h.final → IsOver w
  pub final : (size : ℕ) → h.final ≡ Some size → size ≡ length w.bytes
  -- without a stop or a reset it is known by the stream's end alone
  pub ended : h.stopped ≡ false → h.reset ≡ None → IsSome h.final → w.ended ≡ true
  pub reset : (code : ℕ) → h.reset ≡ Some code → w.reset ≡ Some code

-- ---- what a `next` tells

-- each byte that was written was read
abbrev pub IsAllRead : Wrote → Reads → Type 0
IsAllRead w r = (o : ℕ) → o < length w.bytes → was_given r.chunks o ≡ true

-- a chunk may be read next: it stands in what was written at its offset, none of its offsets was
-- read, and while all reads were in order it follows on
pub record IsNextChunk (w : Wrote) (r : Reads) (c : Chunk) : Type 0 where
  pub stands : StandsAt w.bytes c.offset c.bytes
  pub new : (o : ℕ) → in_chunk (Some c) o ≡ true → was_given r.chunks o ≡ false
  pub follows : r.unordered ≡ false → c.offset ≡ length (bytes_of r.chunks)

-- what may be answered: a chunk; the end, only where the stream ended and all of it was read; a
-- reset only with its code
abbrev pub IsNextOf : Wrote → Reads → Result (Option Chunk) ReadError → Type 0
IsNextOf w r (Ok (Some c)) = IsNextChunk w r c
IsNextOf w r (Ok None) = (w.ended ≡ true) × IsAllRead w r
IsNextOf w r (Err (read_errors.Reset code)) = w.reset ≡ Some code
IsNextOf w r (Err read_errors.Blocked) = Unit {0}
IsNextOf w r (Err read_errors.Memory) = Unit {0}
