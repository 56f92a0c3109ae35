-- The bytes of a stream that are kept, in the pieces that they were written in.
use Rattle.std.specs.Prelude.{◌≡◌, ℕ, zero, suc, Bool, false, ◌⊎◌, ◌+◌, ◌-◌, ◌%◌, ◌<◌, ◌==◌, cond, leb, ltb, List, [], ◌∷◌, ◌++◌, length, take, drop, Option, Some, None}
use Rattle.quic_sets.specs.Parts.{Part, start, after, bytes_of}
use Rattle.quic_send_buffer.specs.Buffered.{passed, pieces_behind, piece_of}

-- the offset of the first byte, the bytes from there on, and the lengths of the pieces that they
-- came in
pub record KeptBytes : Type 0 where
  pub base : ℕ
  pub bytes : List ℕ
  pub lengths : List ℕ

-- their lengths
abbrev pub lengths_of : List Part → List ℕ
lengths_of [] = []
lengths_of (p ∷ ps) = length p.1 ∷ lengths_of ps

-- pieces from an offset up to another, none empty, each where the one before ends
abbrev pub AreInTurn : ℕ → List Part → ℕ → Type 0
AreInTurn at [] end = at ≡ end
AreInTurn at (p ∷ ps) end = (at + length p.1 ≡ p.0) × (0 < length p.1) × AreInTurn p.0 ps end

-- ---- stretches: each is pieces, one behind the other, whose bytes stand in one buffer

-- a run: pieces of one length, and their bytes
pub record RunOf : Type 0 where
  pub each : ℕ
  pub bytes : List ℕ

-- the pieces of a run, so many of one length: bytes from an offset on
abbrev pub run_of : ℕ → ℕ → ℕ → List ℕ → List Part
run_of zero at each bytes = []
run_of (suc n) at each bytes = (at + each, take each bytes) ∷ run_of n (at + each) each (drop each bytes)

-- the pieces of stretches are those of each, in turn; and so are their lengths
abbrev pub pieces_of : List (List Part) → List Part
pieces_of [] = []
pieces_of (s ∷ ss) = s ++ pieces_of ss

-- no stretch is without a piece
abbrev pub HavePieces : List (List Part) → Type 0
HavePieces [] = Unit {0}
HavePieces (s ∷ ss) = (0 < length s) × HavePieces ss

-- the offset behind pieces, one behind the other from another on
abbrev pub end_from : ℕ → List Part → ℕ
end_from at [] = at
end_from at (p ∷ ps) = end_from p.0 ps

-- where a stretch ends
abbrev pub end_of : List Part → ℕ
end_of ps = end_from 0 ps

-- where it starts
abbrev pub start_of : List Part → ℕ
start_of [] = 0
start_of (p ∷ ps) = start p

-- with one more piece
abbrev pub pushed : List ℕ → List Part → List Part
pushed bytes ps = ps ++ ((end_of ps + length bytes, bytes) ∷ [])

-- the last of stretches, with one more piece
abbrev pub pushed_last : List ℕ → List (List Part) → List (List Part)
pushed_last bytes [] = []
pushed_last bytes (s ∷ []) = pushed bytes s ∷ []
pushed_last bytes (s ∷ t ∷ ss) = s ∷ pushed_last bytes (t ∷ ss)

-- the last of them
abbrev pub last_of : List (List Part) → List Part
last_of [] = []
last_of (s ∷ []) = s
last_of (s ∷ t ∷ ss) = last_of (t ∷ ss)

-- each piece as a stretch of its own
abbrev pub alone : List Part → List (List Part)
alone [] = []
alone (p ∷ ps) = (p ∷ []) ∷ alone ps

-- the first that ends behind an offset
abbrev pub stretch_with : ℕ → List (List Part) → Option (List Part)
stretch_with o [] = None
stretch_with o (s ∷ ss) = cond (ltb o (end_of s)) (Some s) (stretch_with o ss)

-- the first piece that does
abbrev pub piece_with : ℕ → List (List Part) → Option Part
piece_with o [] = None
piece_with o (s ∷ ss) = cond (ltb o (end_of s)) (after o s) (piece_with o ss)

-- a stretch as one part
abbrev pub part_of : List Part → Part
part_of s = (end_of s, bytes_of s)

-- ---- what calls do

-- with one more piece, if it has bytes
abbrev pub with_piece : List ℕ → KeptBytes → KeptBytes
with_piece bytes k = record k { bytes = k.bytes ++ bytes; lengths = k.lengths ++ piece_of (length bytes) }

-- with more pieces, one behind the other, of those that have bytes
abbrev pub with_each : List (List ℕ) → KeptBytes → KeptBytes
with_each [] k = k
with_each (c ∷ cs) k = with_each cs (with_piece c k)

-- how many bytes lie in pieces that end up to an offset
abbrev pub passed_to : ℕ → KeptBytes → ℕ
passed_to o k = passed k.lengths (o - k.base)

-- without those pieces
abbrev pub released_to : ℕ → KeptBytes → KeptBytes
released_to o k = record { base = k.base + passed_to o k; bytes = drop (passed_to o k) k.bytes; lengths = pieces_behind k.lengths (o - k.base) }

-- ---- the steps of their release

-- the pieces behind those that end up to an offset
abbrev pub behind : ℕ → List Part → List Part
behind o [] = []
behind o (p ∷ ps) = cond (leb p.0 o) (behind o ps) (p ∷ ps)

-- how many bytes pieces of one length have, from an offset on, that end up to another
abbrev pub passed_of : ℕ → ℕ → ℕ → ℕ
passed_of start each o = o - start - (o - start) % each

-- the pieces of the first stretch behind those
abbrev pub first_behind : ℕ → List (List Part) → List (List Part)
first_behind o [] = []
first_behind o (s ∷ ss) = behind o s ∷ ss

-- the first stretch ends up to an offset
abbrev pub is_past : ℕ → List (List Part) → Bool
is_past o [] = false
is_past o (s ∷ ss) = leb (end_of s) o

-- the stretches that end behind an offset
abbrev pub ending_behind : ℕ → List (List Part) → List (List Part)
ending_behind o [] = []
ending_behind o (s ∷ ss) = cond (leb (end_of s) o) (ending_behind o ss) (s ∷ ss)

-- where the first begins, or else an offset
abbrev pub first_start : ℕ → List (List Part) → ℕ
first_start end [] = end
first_start end (s ∷ ss) = start_of s

-- ---- the steps of putting several

-- the pieces that bytes from an offset on make, one behind the other, of those that have bytes
abbrev pub parts_from : ℕ → List (List ℕ) → List Part
parts_from at [] = []
parts_from at (c ∷ cs) = cond (length c == 0) (parts_from at cs) ((at + length c, c) ∷ parts_from (at + length c) cs)

-- bytes from an offset on come behind all others as one piece, if there are any: in the last
-- stretch, or in one of its own
abbrev pub IsPut : List ℕ → ℕ → List (List Part) → List (List Part) → Type 0
IsPut bytes at old new = ((0 < length bytes) × (0 < length old) × (new ≡ pushed_last bytes old)) ⊎ (new ≡ old ++ alone (parts_from at (bytes ∷ [])))

-- the same of several
abbrev pub ArePut : List (List ℕ) → ℕ → List (List Part) → List (List Part) → Type 0
ArePut (c ∷ []) at old new = IsPut c at old new
ArePut cs at old new = new ≡ old ++ alone (parts_from at cs)
