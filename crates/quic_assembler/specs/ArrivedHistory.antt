-- What the calls of an assembler make, one after another.
use Rattle.std.specs.Prelude.{◌≡◌, ℕ, ◌+◌, ◌^◌, ◌<◌, ◌⊎◌, Bool, false, ◌||◌, List, [], ◌∷◌, length, Option, Some, None}
use Rattle.std.specs.Option.{option_or}
use Rattle.quic_assembler.specs.Arrived.{Arrived, given_by, in_chunk, after_insert, after_ordering, after_read}
use Rattle.quic_sets.specs.Parts.{byte_from}
use Rattle.quic_assembler.specs.declared.assembler.Chunk.{Chunk}

-- bytes came at an offset; a read was begun, ordered or not; at most so many bytes were asked for;
-- what waited was dropped
pub data Call : Type 0 where
  inserted : ℕ → List ℕ → Call
  begun : Bool → Call
  asked : ℕ → Call
  cleared : Call

-- nothing has arrived
abbrev pub nothing_arrived : Arrived
nothing_arrived = record { read = 0; unordered = false; picked = []; parts = [] }

-- what has arrived after calls, the latest first
abbrev pub arrived_after : List Call → Arrived
arrived_after [] = nothing_arrived
arrived_after (inserted offset bytes ∷ calls) = after_insert (arrived_after calls) offset bytes
arrived_after (begun ordered ∷ calls) = after_ordering (arrived_after calls) ordered
arrived_after (asked most ∷ calls) = after_read (arrived_after calls) most
arrived_after (cleared ∷ calls) = record (arrived_after calls) { parts = [] }

-- all bytes came below the greatest offset (RFC 9000, 19.8)
abbrev pub AreInRange : List Call → Type 0
AreInRange [] = Unit {0}
AreInRange (inserted offset bytes ∷ calls) = (offset + length bytes < 2 ^ 62) × AreInRange calls
AreInRange (begun ordered ∷ calls) = AreInRange calls
AreInRange (asked most ∷ calls) = AreInRange calls
AreInRange (cleared ∷ calls) = AreInRange calls

-- a chunk before others, if there is one
abbrev pub with_given : Option Chunk → List Chunk → List Chunk
with_given None chunks = chunks
with_given (Some chunk) chunks = chunk ∷ chunks

-- the chunks that the reads gave, the latest first
abbrev pub given_over : List Call → List Chunk
given_over [] = []
given_over (inserted offset bytes ∷ calls) = given_over calls
given_over (begun ordered ∷ calls) = given_over calls
given_over (asked most ∷ calls) = with_given (given_by (arrived_after calls) most) (given_over calls)
given_over (cleared ∷ calls) = given_over calls

-- whether one of the chunks has an offset
abbrev pub was_given : List Chunk → ℕ → Bool
was_given [] o = false
was_given (chunk ∷ chunks) o = in_chunk (Some chunk) o || was_given chunks o

-- the byte that a chunk has at an offset
abbrev pub byte_in : Option Chunk → ℕ → Option ℕ
byte_in None o = None
byte_in (Some chunk) o = byte_from chunk.offset chunk.bytes o

-- the first byte that came for an offset since what waited was dropped
abbrev pub first_came : List Call → ℕ → Option ℕ
first_came [] o = None
first_came (inserted offset bytes ∷ calls) o = option_or (first_came calls o) (byte_from offset bytes o)
first_came (begun ordered ∷ calls) o = first_came calls o
first_came (asked most ∷ calls) o = first_came calls o
first_came (cleared ∷ calls) o = None

-- a byte came for an offset
abbrev pub Came : List Call → ℕ → ℕ → Type 0
Came [] o byte = ⊥
Came (inserted offset bytes ∷ calls) o byte = (byte_from offset bytes o ≡ Some byte) ⊎ Came calls o byte
Came (begun ordered ∷ calls) o byte = Came calls o byte
Came (asked most ∷ calls) o byte = Came calls o byte
Came (cleared ∷ calls) o byte = Came calls o byte
