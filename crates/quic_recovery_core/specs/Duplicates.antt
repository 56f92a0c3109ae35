-- Which packet numbers came before (RFC 9000, section 12.3): a set of numbers, told apart near the
-- greatest of them.
use Rattle.std.specs.Prelude.{ℕ, ◌+◌, ◌-◌, Bool, false, cond, max, not, nat_lt, nat_le, ◌==◌, ◌&&◌, ◌||◌, List, [], ◌∷◌, Option, filter}
use Rattle.std.specs.List.{range_with_len, find}

-- so far below the greatest, or farther, a number counts as one that came before (RFC 9000, section
-- 12.3, which names no number: this is our choice)
abbrev pub duplicate_span : ℕ
duplicate_span = 257

-- the numbers that came and lie nearer to the greatest than the span, the greatest first, each once
abbrev pub Seen : Type 0
Seen = List ℕ

-- whether a number is among others
abbrev pub is_in : List ℕ → ℕ → Bool
is_in [] k = false
is_in (n ∷ ns) k = (k == n) || is_in ns k

-- one above the greatest, 0 where no number came
abbrev pub next_of : Seen → ℕ
next_of [] = 0
next_of (n ∷ ns) = n + 1

-- whether a number lies nearer than the span to the greatest, or above it
abbrev pub is_near : ℕ → ℕ → Bool
is_near next k = nat_le next (k + duplicate_span)

-- whether a number counts as one that came before
abbrev pub is_duplicate : Seen → ℕ → Bool
is_duplicate s n = is_in s n || not (is_near (next_of s) n)

-- a number among others that descend, at its place
abbrev pub put : ℕ → List ℕ → List ℕ
put n [] = n ∷ []
put n (k ∷ ks) = cond (nat_lt k n) (n ∷ k ∷ ks) (k ∷ put n ks)

-- a new number came
abbrev pub with_number : Seen → ℕ → Seen
with_number s n = filter (is_near (max (next_of s) (n + 1))) (put n s)

-- after a number came: a duplicate changes nothing
abbrev pub after_insert : Seen → ℕ → Seen
after_insert s n = cond (is_duplicate s n) s (with_number s n)

-- whether a number lies below the greatest, nearer to it than the span, and did not come
abbrev pub is_missing : Seen → ℕ → Bool
is_missing s k = is_near (next_of s) k && (nat_lt k (next_of s) && not (is_in s k))

-- the numbers above one and below another, ascending
abbrev pub between : ℕ → ℕ → List ℕ
between low high = range_with_len (low + 1) (high - (low + 1))

-- the least missing number between two others
abbrev pub smallest_missing : Seen → ℕ → ℕ → Option ℕ
smallest_missing s low high = find (is_missing s) (between low high)
