-- What has arrived of a stream and is not read: a set of offsets with their bytes, and the offsets
-- that reads gave.
use Rattle.std.specs.Prelude.{◌≡◌, ℕ, ◌+◌, ◌-◌, ◌*◌, ◌^◌, ◌<◌, ◌≤◌, ◌==◌, Bool, true, false, cond, ltb, leb, max, not, ◌&&◌, ◌||◌, zero, suc, List, [], ◌∷◌, ◌++◌, length, take, drop, Option, Some, None}
use Rattle.std.specs.Option.{option_or, is_some}
use Rattle.quic_sets.specs.Runs.{Run, Has}
use Rattle.quic_sets.specs.Spans.{Span, AreSpans, in_spans, in_span, width_of, with_run}
use Rattle.quic_assembler.specs.declared.assembler.Chunk.{Chunk}
use Rattle.quic_sets.specs.Parts.{Part, start, byte_from}

-- what has arrived
pub record Arrived : Type 0 where
  -- the offset up to which ordered reads have come
  pub read : ℕ
  -- whether an unordered read was made
  pub unordered : Bool
  -- the offsets that unordered reads gave, as maximal runs
  pub picked : List Span
  -- the parts that wait, in the order of their offsets
  pub parts : List Part

-- parts from `low` on, none empty, one behind the other, and below the greatest offset (RFC 9000,
-- 19.8: 2^62 - 1)
abbrev pub AreApart : ℕ → List Part → Type 0
AreApart low [] = low < 2 ^ 62
AreApart low (p ∷ ps) = (low + length p.1 ≤ p.0) × (0 < length p.1) × AreApart p.0 ps

-- ---- the bytes, one by one

-- the byte that waits at an offset
abbrev pub byte_at : List Part → ℕ → Option ℕ
byte_at [] offset = None
byte_at (p ∷ ps) offset = option_or (byte_from (start p) p.1 offset) (byte_at ps offset)

-- whether a part has an offset
abbrev pub holds : ℕ → Part → Bool
holds offset p = is_some (byte_from (start p) p.1 offset)

-- ---- what was given

-- whether a read gave the byte at an offset
abbrev pub is_given : Arrived → ℕ → Bool
is_given a offset = ltb offset a.read || in_spans a.picked offset

-- the number of bytes that were read
abbrev pub bytes_read_of : Arrived → ℕ
bytes_read_of a = a.read + width_of a.picked

-- what waits lies apart and was not given, and no unordered read gave what an ordered one gave
pub record IsLawful (a : Arrived) : Type 0 where
  pub apart : AreApart a.read a.parts
  pub spans : AreSpans a.read a.picked
  pub others : (offset : ℕ) → in_spans a.picked offset ≡ true → byte_at a.parts offset ≡ None
  pub order : a.unordered ≡ false → a.picked ≡ []

-- whether a byte waits at an offset
abbrev pub waits : List Part → ℕ → Bool
waits ps offset = is_some (byte_at ps offset)

-- each offset of a set was given, or a byte waits at it
abbrev pub HaveArrived : List Run → Arrived → Type 0
HaveArrived set a = (offset : ℕ) → Has set offset → (is_given a offset || waits a.parts offset) ≡ true

-- ---- runs: offsets that wait one behind the other

-- the runs of parts that stand behind an offset: a part that begins there goes on with the run
-- before
abbrev pub runs_behind : ℕ → List Part → ℕ
runs_behind end [] = 0
runs_behind end (p ∷ ps) = cond (start p == end) 0 1 + runs_behind p.0 ps

-- the maximal runs of offsets that wait
abbrev pub runs_of : List Part → ℕ
runs_of [] = 0
runs_of (p ∷ ps) = 1 + runs_behind p.0 ps

-- whether a byte waits right before an offset
abbrev pub waits_before : List Part → ℕ → Bool
waits_before ps offset = cond (offset == 0) false (waits ps (offset - 1))

-- whether a run begins at an offset: a byte waits there, and none right before it
abbrev pub begins_run : List Part → ℕ → Bool
begins_run ps offset = waits ps offset && not (waits_before ps offset)

-- at how many offsets below a bound a test holds
abbrev pub count_to : (ℕ → Bool) → ℕ → ℕ
count_to test zero = 0
count_to test (suc n) = cond (test n) 1 0 + count_to test n

-- ---- bytes that come (RFC 9000, 2.2)

-- bytes at an offset as a part before others, if there are any
abbrev pub with_part : ℕ → List ℕ → List Part → List Part
with_part at [] ps = ps
with_part at (b ∷ bytes) ps = (at + length (b ∷ bytes), b ∷ bytes) ∷ ps

-- the parts, and each gap between them that bytes at an offset fill as one more part
abbrev pub with_gaps : List Part → ℕ → List ℕ → List Part
with_gaps [] at bytes = with_part at bytes []
with_gaps (p ∷ ps) at bytes = with_part at (take (start p - at) bytes) (p ∷ with_gaps ps (max at p.0) (drop (p.0 - at) bytes))

-- the parts, and each gap between them that bytes at an offset fill outside some runs of offsets
abbrev pub with_free : List Span → List Part → ℕ → List ℕ → List Part
with_free [] ps at bytes = with_gaps ps at bytes
with_free (g ∷ gs) ps at bytes = with_free gs (with_gaps ps at (take (g.1 - at) bytes)) (max at g.0) (drop (g.0 - at) bytes)

-- a part before others, joined with the first of them where they touch
abbrev pub in_front : Part → List Part → List Part
in_front p [] = p ∷ []
in_front p (q ∷ qs) = cond (start q == p.0) ((q.0, p.1 ++ q.1) ∷ qs) (p ∷ q ∷ qs)

-- the parts, those that touch joined into one
abbrev pub joined : List Part → List Part
joined [] = []
joined (p ∷ ps) = in_front p (joined ps)

-- how many bytes wait
abbrev pub waiting_bytes : List Part → ℕ
waiting_bytes [] = 0
waiting_bytes (p ∷ ps) = length p.1 + waiting_bytes ps

-- so many parts may wait that touch others, and parts of so many bytes each are short: our choice,
-- as RFC 9000, section 21.7 names no number
abbrev pub most_parts : ℕ
most_parts = 2048

-- parts are short that have so many bytes each at most, one with another
abbrev pub short_part : ℕ
short_part = 64

-- whether there are at most 64 of them for each part
abbrev pub are_short : List Part → Bool
are_short ps = leb (waiting_bytes ps) (short_part * length ps)

-- whether there are more than 2048 parts, more of them touch the one before than there are
-- runs, and they are short: then more than half of them go where they are joined, and at most 64
-- bytes are copied for each of them; so the copies of any number of joins are no more than 128
-- bytes for each part that goes
abbrev pub is_crowded : List Part → Bool
is_crowded ps = ltb most_parts (length ps) && (ltb (runs_of ps) (length ps - runs_of ps) && are_short ps)

-- the parts, joined where there are too many
abbrev pub settled : List Part → List Part
settled ps = cond (is_crowded ps) (joined ps) ps

-- after bytes came at an offset: those that were given are dropped, the first bytes to come at an
-- offset stand, and the parts are joined where they are too many. It is the one value that
-- `Waiting.IsInserted` tells offset by offset, part by part as the definitions of ends reckon with
-- it
abbrev pub after_insert : Arrived → ℕ → List ℕ → Arrived
after_insert a offset bytes = record a { parts = settled (with_free a.picked a.parts (max a.read offset) (drop (a.read - offset) bytes)) }

-- ---- an ordered read of at most `max` bytes (RFC 9000, 2.2)

-- whether a byte waits where the stream is read next
abbrev pub is_next : List Part → ℕ → Bool
is_next [] read = false
is_next (p ∷ ps) read = start p == read

-- the chunk that is given: bytes of the first part, if it begins where the stream is read next
abbrev pub given : List Part → ℕ → ℕ → Option Chunk
given [] read most = None
given (p ∷ ps) read most = cond (start p == read) (Some (record { offset = read; bytes = take most p.1 })) None

-- a part without its first bytes before others, if any are left
abbrev pub shortened : ℕ → Part → List Part → List Part
shortened most p ps = cond (ltb most (length p.1)) ((p.0, drop most p.1) ∷ ps) ps

-- the parts that are left
abbrev pub left_by : List Part → ℕ → ℕ → List Part
left_by [] read most = []
left_by (p ∷ ps) read most = cond (start p == read) (shortened most p ps) (p ∷ ps)

-- the offset behind a chunk, if there is one
abbrev pub behind : Option Chunk → ℕ → ℕ
behind None read = read
behind (Some chunk) read = chunk.offset + length chunk.bytes

-- whether a read of at most so many bytes cuts the first part: one of none doesn't
abbrev pub cuts : List Part → ℕ → ℕ → Bool
cuts [] read most = false
cuts (p ∷ ps) read most = cond (start p == read) (ltb 0 most && ltb most (length p.1)) false

-- ---- an unordered read of at most `max` bytes

-- whether a byte waits
abbrev pub is_some_part : List Part → Bool
is_some_part [] = false
is_some_part (p ∷ ps) = true

-- the chunk that is given: bytes of the first part
abbrev pub first_given : List Part → ℕ → Option Chunk
first_given [] most = None
first_given (p ∷ ps) most = Some (record { offset = start p; bytes = take most p.1 })

-- the parts that are left
abbrev pub left_front : List Part → ℕ → List Part
left_front [] most = []
left_front (p ∷ ps) most = shortened most p ps

-- a set of offsets with those of a chunk
abbrev pub with_chunk : Option Chunk → List Span → List Span
with_chunk None gs = gs
with_chunk (Some chunk) gs = with_run chunk.offset (length chunk.bytes) gs

-- whether a chunk has an offset
abbrev pub in_chunk : Option Chunk → ℕ → Bool
in_chunk None offset = false
in_chunk (Some chunk) offset = in_span offset (chunk.offset + length chunk.bytes, chunk.offset)

-- the number of its bytes
abbrev pub length_of : Option Chunk → ℕ
length_of None = 0
length_of (Some chunk) = length chunk.bytes

-- ---- a read, by whether unordered ones were made

-- whether a byte waits that it may give
abbrev pub is_next_in : Bool → Arrived → Bool
is_next_in true a = is_some_part a.parts
is_next_in false a = is_next a.parts a.read

-- the chunk that it gives
abbrev pub given_in : Bool → Arrived → ℕ → Option Chunk
given_in true a most = first_given a.parts most
given_in false a most = given a.parts a.read most

-- what is after it
abbrev pub after_read_in : Bool → Arrived → ℕ → Arrived
after_read_in true a most = record a { picked = with_chunk (first_given a.parts most) a.picked; parts = left_front a.parts most }
after_read_in false a most = record a { read = behind (given a.parts a.read most) a.read; parts = left_by a.parts a.read most }

-- the same, as the reads before were
abbrev pub given_by : Arrived → ℕ → Option Chunk
given_by a most = given_in a.unordered a most

-- what is after it, as the reads before were
abbrev pub after_read : Arrived → ℕ → Arrived
after_read a most = after_read_in a.unordered a most

-- after a read was begun: an unordered one makes those behind it unordered
abbrev pub after_ordering : Arrived → Bool → Arrived
after_ordering a ordered = record a { unordered = not ordered || a.unordered }
