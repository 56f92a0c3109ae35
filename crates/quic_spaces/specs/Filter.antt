-- Which packet numbers are left out, so that a peer that acknowledges what it never got gives
-- itself away (RFC 9000, section 21.4).
use Rattle.std.specs.Prelude.{ℕ, ◌+◌, ◌%◌, ◌^◌, min, Bool, false, ◌==◌, ◌&&◌, nat_le, if◌then◌else◌, Option, Some, None}

-- the next number to be left out, the one that was left out last, and how far apart they may lie:
-- the next but one is at least two to this power; and how many words of the random source said so
pub record Filter : Type 0 where
  pub next : ℕ
  pub last : Option ℕ
  pub exponent : ℕ
  pub drawn : ℕ

-- the power at first, and at most
abbrev pub first_exponent : ℕ
first_exponent = 6

-- the power at most: packet numbers lie below 2^62
abbrev pub most_exponent : ℕ
most_exponent = 62

-- no number was left out yet: the first word of the random source says which of the first 64 is
abbrev pub first_filter : ℕ → Filter
first_filter word = record { next = word % 2 ^ first_exponent; last = None; exponent = first_exponent; drawn = 1 }

-- whether a number is the next to be left out
abbrev pub is_skipped : Filter → ℕ → Bool
is_skipped f n = n == f.next

-- the number that is given where this one is next: that, or the one behind it where it is left out
abbrev pub allocated : Filter → ℕ → ℕ
allocated f next = if is_skipped f next then next + 1 else next

-- a number is left out: a word of the random source says which is the next
abbrev pub after_skipped : Filter → ℕ → Filter
after_skipped f word = record {
  next = 2 ^ f.exponent + word % 2 ^ f.exponent;
  last = Some f.next;
  exponent = min (f.exponent + 1) most_exponent;
  drawn = f.drawn + 1;
}

-- the filter once a number was given where this one was next
abbrev pub after_allocated : Filter → ℕ → ℕ → Filter
after_allocated f next word = if is_skipped f next then after_skipped f word else f

-- whether the number that was left out last lies among these, both ends too
abbrev pub names_skipped : Option ℕ → ℕ → ℕ → Bool
names_skipped None low high = false
names_skipped (Some n) low high = nat_le low n && nat_le n high
