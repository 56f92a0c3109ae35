-- Reading values from bytes.
use Rattle.std.specs.Prelude.{◌≡◌, ◌<◌, ◌≤◌, ◌*◌, ◌^◌, ◌++◌, ℕ, List, Option, Some, None, Result, Ok, Err, length, take, drop, get_or, nat_lt, if◌then◌else◌}
use Rattle.std.specs.Int.{Width, byte_len, from_be_bytes, to_be_bytes}

-- What a decoder answers, and what it leaves unread: the value and what follows it, or a refusal
-- that takes nothing.
abbrev pub Decodes : {T E : Type 0} → (List ℕ → Option (T × List ℕ)) → Result T E → List ℕ → List ℕ → Type 0
Decodes reads (Ok v) old new = reads old ≡ Some (v, new)
Decodes reads (Err e) old new = (reads old ≡ None) × (new ≡ old)

-- A big-endian number of this width taken from the front, if there are as many bytes.
abbrev pub Takes : {E : Type 0} → Width → Result ℕ E → List ℕ → List ℕ → Type 0
Takes w (Ok n) old new = (byte_len w ≤ length old) × (n ≡ from_be_bytes w (take (byte_len w) old)) × (new ≡ drop (byte_len w) old)
Takes w (Err e) old new = (length old < byte_len w) × (new ≡ old)

-- Each number of the list is a byte.
abbrev pub IsBytes : List ℕ → Type 0
IsBytes bytes = (i : ℕ) → get_or bytes i 0 < 256

-- The big-endian number of this width at the front, and what follows it.
abbrev pub fixed_at : Width → List ℕ → Option (ℕ × List ℕ)
fixed_at w bytes =
    if nat_lt (length bytes) (byte_len w) then None
    else Some (from_be_bytes w (take (byte_len w) bytes), drop (byte_len w) bytes)

-- The number fits in this width, and its big-endian bytes stand in front of `rest`.
abbrev pub BeginsWith : Width → List ℕ → ℕ → List ℕ → Type 0
BeginsWith w bytes n rest = (n < 2 ^ (8 * byte_len w)) × (bytes ≡ to_be_bytes w n ++ rest)
