-- Parts of a stream: bytes at their offsets, in an ordered map by the offset behind a part's last
-- byte.
use Rattle.std.specs.Prelude.{ℕ, ◌-◌, cond, ltb, List, [], ◌∷◌, ◌++◌, length, Option, Some, None}
use Rattle.std.specs.List.{slice_get}
use Rattle.std.specs.Ordering.{nat_cmp}
use Rattle.std.specs.BTreeMap.{is_at}
use Rattle.std.specs.Map.{remove_entry}

-- a part of a stream: the offset behind its last byte, and its bytes
abbrev pub Part : Type 0
Part = ℕ × List ℕ

-- the offset of a part's first byte
abbrev pub start : Part → ℕ
start p = p.0 - length p.1

-- the byte at an offset of bytes that begin at `at`
abbrev pub byte_from : ℕ → List ℕ → ℕ → Option ℕ
byte_from at bytes offset = cond (ltb offset at) None (slice_get bytes (offset - at))

-- the first part that ends behind an offset
abbrev pub after : ℕ → List Part → Option Part
after at [] = None
after at (p ∷ ps) = cond (ltb at p.0) (Some p) (after at ps)

-- the parts, or runs, without those that end at some offsets
abbrev pub undone : {X : Type 0} → List ℕ → List (ℕ × X) → List (ℕ × X)
undone [] ps = ps
undone (k ∷ ks) ps = remove_entry (is_at (nat_cmp k)) (undone ks ps)

-- the bytes of pieces
abbrev pub bytes_of : List Part → List ℕ
bytes_of [] = []
bytes_of (p ∷ ps) = p.1 ++ bytes_of ps
