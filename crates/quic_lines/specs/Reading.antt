-- The lines that a reader gives.
use Rattle.std.specs.Prelude.{◌≡◌, ◌<◌, ◌⊎◌, ◌==◌, ℕ, Bool, true, false, List, [], ◌∷◌, ◌++◌, length, slice_range, Option, Some, None}
use Rattle.std.specs.Io.KnownBytes.{prepend_known, IsAtEnd}
use Rattle.quic_lines.specs.declared.error.ScriptError.{ScriptError}
use Rattle.quic_lines.specs.declared.error.ScriptError.TheVariants.{ReadFault, OutOfMemory}
use Rattle.quic_lines.specs.declared.lines.Lines.{Lines}
use Rattle.quic_lines.specs.LineByLine.{lines_of}

-- what was read and not taken yet
abbrev pub unread_of : {R : Type 0} → Lines R → List ℕ
unread_of lines = slice_range lines.chunk.items lines.start lines.end

-- the bytes that are left, where those of the reader are known
abbrev pub left_of : {R : Type 0} → (R → Option (List ℕ)) → Lines R → Option (List ℕ)
left_of remaining lines = prepend_known (unread_of lines) (remaining lines.reader)

-- a reader that has said that there is no more has no more
abbrev pub KnowsEnd : {R : Type 0} → (R → Option (List ℕ)) → Lines R → Type 0
KnowsEnd remaining lines = lines.ended ≡ true → IsAtEnd (remaining lines.reader)

-- bytes with no line feed among them
abbrev pub IsWhole : List ℕ → Type 0
IsWhole [] = Unit {0}
IsWhole (b ∷ bs) = ((b == 10) ≡ false) × IsWhole bs

-- Bytes were moved to a line: up to a line feed, which was taken too, or without one.
abbrev pub IsMoved : Bool → List ℕ → List ℕ → List ℕ → List ℕ → Type 0
IsMoved true left line rest next = (piece : List ℕ) × IsWhole piece × (left ≡ piece ++ (10 ∷ rest)) × (next ≡ line ++ piece)
IsMoved false left line rest next = (piece : List ℕ) × IsWhole piece × (left ≡ piece ++ rest) × (next ≡ line ++ piece)

-- the same, where the bytes are known
abbrev pub Moves : Bool → Option (List ℕ) → List ℕ → Option (List ℕ) → List ℕ → Type 0
Moves whole None line rest next = Unit {0}
Moves whole (Some left) line None next = ⊥
Moves whole (Some left) line (Some rest) next = IsMoved whole left line rest next

-- the first of some lines is longer than a line may be
abbrev pub BeginsTooLong : List (List ℕ) → Type 0
BeginsTooLong [] = ⊥
BeginsTooLong (line ∷ lines) = 1048576 < length line

-- A line was read: the next one, or so much of it that it is too long.
abbrev pub IsNextLine : Option (List ℕ) → List ℕ → Option (List ℕ) → Type 0
IsNextLine None line rest = Unit {0}
IsNextLine (Some bytes) line None = ⊥
IsNextLine (Some bytes) line (Some rest) = (lines_of bytes ≡ line ∷ lines_of rest) ⊎ ((1048576 < length line) × BeginsTooLong (lines_of bytes))

-- no line is left
abbrev pub IsOver : Option (List ℕ) → Type 0
IsOver None = Unit {0}
IsOver (Some bytes) = lines_of bytes ≡ []

-- why no line was read: the reader failed, or memory lacked
abbrev pub IsUnread : ScriptError → Type 0
IsUnread e = (e ≡ ReadFault) ⊎ (e ≡ OutOfMemory)
