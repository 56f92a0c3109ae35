-- What the calls of an assembler change, offset by offset: which offsets wait, with which bytes,
-- and where a part of them begins.
use Rattle.std.specs.Prelude.{◌≡◌, ℕ, ◌+◌, ◌-◌, ◌*◌, ◌^◌, ◌<◌, ◌≤◌, ◌==◌, Bool, true, false, cond, ltb, leb, not, ◌&&◌, ◌||◌, List, [], ◌∷◌, length, Option, Some, None}
use Rattle.std.specs.Option.{option_or, is_some}
use Rattle.std.specs.List.{slice_get}
use Rattle.quic_assembler.specs.declared.assembler.Chunk.{Chunk}
use Rattle.quic_assembler.specs.Arrived.{Arrived, IsLawful, most_parts, short_part, byte_at, waits, is_given, runs_of, begins_run, count_to, in_chunk}
use Rattle.quic_sets.specs.Parts.{Part, start, byte_from}

-- whether a part begins at an offset
abbrev pub begins_part : List Part → ℕ → Bool
begins_part [] offset = false
begins_part (p ∷ ps) offset = start p == offset || begins_part ps offset

-- ---- bytes that come at an offset `at` (RFC 9000, 2.2)

-- whether they bring a byte for an offset that wasn't given and where none waits
abbrev pub is_new : Arrived → ℕ → List ℕ → ℕ → Bool
is_new a at bytes offset = is_some (byte_from at bytes offset) && not (is_given a offset || waits a.parts offset)

-- they bring some such byte
pub record BringsNew (a : Arrived) (at : ℕ) (bytes : List ℕ) : Type 0 where
  pub offset : ℕ
  pub new : is_new a at bytes offset ≡ true

-- whether such bytes begin at an offset: one is new there, and none right before it
abbrev pub begins_new : Arrived → ℕ → List ℕ → ℕ → Bool
begins_new a at bytes offset = is_new a at bytes offset && not (cond (offset == 0) false (is_new a at bytes (offset - 1)))

-- whether a part begins at an offset while no parts are joined: one did, or new bytes begin there
abbrev pub begins_then : Arrived → ℕ → List ℕ → ℕ → Bool
begins_then a at bytes offset = begins_part a.parts offset || begins_new a at bytes offset

-- whether so many parts, in so many runs and with so many offsets that wait, are too many
abbrev pub are_too_many : ℕ → ℕ → ℕ → Bool
are_too_many parts runs offsets = ltb most_parts parts && (ltb runs (parts - runs) && leb offsets (short_part * parts))

-- the same bytes, once they came: where an offset waits its byte stands; at another that wasn't
-- given the byte that came, if one did. A part begins where one did and where new bytes begin; or,
-- where these would be too many, where a run begins. Nothing else changes. Parts and offsets are
-- counted below any bound `n` that no offset reaches
pub record IsInserted (a : Arrived) (at : ℕ) (bytes : List ℕ) (b : Arrived) : Type 0 where
  pub waiting : (o : ℕ) → byte_at b.parts o ≡ cond (is_given a o) None (option_or (byte_at a.parts o) (byte_from at bytes o))
  pub begins : (n o : ℕ) → 2 ^ 62 ≤ n → begins_part b.parts o ≡ cond (are_too_many (count_to (begins_then a at bytes) n) (runs_of b.parts) (count_to (waits b.parts) n)) (begins_run b.parts o) (begins_then a at bytes o)
  pub others : b ≡ record a { parts = b.parts }
  pub lawful : IsLawful b

-- ---- reads

-- the offset behind a chunk
abbrev pub end_of : Chunk → ℕ
end_of chunk = chunk.offset + length chunk.bytes

-- a chunk of what waits from an offset on, of at most so many bytes: it has a byte if one is asked
-- for, and ends where that many are reached, a part ends, or the next begins
pub record IsChunk (a : Arrived) (at most : ℕ) (chunk : Chunk) : Type 0 where
  pub offset : chunk.offset ≡ at
  pub bytes : (i : ℕ) → i < length chunk.bytes → slice_get chunk.bytes i ≡ byte_at a.parts (at + i)
  pub few : length chunk.bytes ≤ most
  pub some : 0 < most → 0 < length chunk.bytes
  pub inside : (i : ℕ) → 0 < i → i < length chunk.bytes → begins_part a.parts (at + i) ≡ false
  pub whole : length chunk.bytes < most → (begins_part a.parts (end_of chunk) || not (waits a.parts (end_of chunk))) ≡ true

-- the offset from which a read gives bytes: one waits there, and it is where the stream is read
-- next, or for an unordered read the least that waits
pub record IsPlace (a : Arrived) (at : ℕ) : Type 0 where
  pub waiting : waits a.parts at ≡ true
  pub ordered : a.unordered ≡ false → at ≡ a.read
  pub least : a.unordered ≡ true → (o : ℕ) → o < at → byte_at a.parts o ≡ None

-- no byte waits that a read may give: none where the stream is read next, or for an unordered read
-- none at all
pub record IsDry (a : Arrived) : Type 0 where
  pub ordered : a.unordered ≡ false → byte_at a.parts a.read ≡ None
  pub unordered : a.unordered ≡ true → a.parts ≡ []

-- what a read of at most so many bytes gives
abbrev pub IsRead : Arrived → ℕ → Option Chunk → Type 0
IsRead a most None = IsDry a
IsRead a most (Some chunk) = IsPlace a chunk.offset × IsChunk a chunk.offset most chunk

-- the bytes of a chunk were given: they wait no longer, and count as given. A part begins where one
-- did and, where some bytes of a part are left, behind the chunk. An unordered read doesn't change
-- where an ordered one would go on
pub record IsTaken (a : Arrived) (chunk : Chunk) (b : Arrived) : Type 0 where
  pub waiting : (o : ℕ) → byte_at b.parts o ≡ cond (in_chunk (Some chunk) o) None (byte_at a.parts o)
  pub given : (o : ℕ) → is_given b o ≡ (in_chunk (Some chunk) o || is_given a o)
  pub begins : (o : ℕ) → begins_part b.parts o ≡ (not (in_chunk (Some chunk) o) && (begins_part a.parts o || (o == end_of chunk && waits a.parts o)))
  pub order : b.unordered ≡ a.unordered
  pub read : a.unordered ≡ true → b.read ≡ a.read
  pub lawful : IsLawful b

-- what is after a read that gave a chunk, or none
abbrev pub IsLeft : Arrived → Option Chunk → Arrived → Type 0
IsLeft a None b = b ≡ a
IsLeft a (Some chunk) b = IsTaken a chunk b
