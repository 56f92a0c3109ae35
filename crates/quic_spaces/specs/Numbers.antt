-- Packet numbers of a space: those it gives and those it opened (RFC 9000, section 12.3).
use Rattle.std.specs.Prelude.{ℕ, ◌+◌, ◌-◌, ◌^◌, max, Bool, nat_lt, ◌&&◌, [], Option, Some, None, unwrap_or}
use Rattle.quic_recovery_core.specs.Duplicates.{Seen, after_insert}

-- the next number to give, how many were given, the greatest own number that the peer named, the
-- numbers opened and the last of them, and the greatest whose whole payload was taken
pub record Numbers : Type 0 where
  pub next : ℕ
  pub sealed : ℕ
  pub largest_acked : Option ℕ
  pub opened : Seen
  pub present : ℕ
  pub taken : Option ℕ

-- no number was given, opened or taken
abbrev pub no_numbers : Numbers
no_numbers = record { next = 0; sealed = 0; largest_acked = None; opened = []; present = 0; taken = None }

-- one above the greatest of some numbers, if there is one
abbrev pub after_greatest : Option ℕ → ℕ
after_greatest None = 0
after_greatest (Some n) = n + 1

-- the number that a packet is expected to have (RFC 9000, A.3)
abbrev pub expected : Numbers → ℕ
expected numbers = after_greatest numbers.taken

-- what a number is cut against (RFC 9000, A.2): the greatest acknowledged, 0 if there is none
abbrev pub cut_against : Numbers → ℕ
cut_against numbers = unwrap_or numbers.largest_acked 0

-- how many numbers are kept for closes
abbrev pub kept_numbers : ℕ
kept_numbers = 16

-- whether an ordinary datagram may still be numbered: a number stays below 2 ^ 62, and its distance
-- from the greatest acknowledged below 2 ^ 31
abbrev pub can_number : Numbers → Bool
can_number numbers = nat_lt (numbers.next + kept_numbers) (2 ^ 62) && nat_lt (numbers.next - cut_against numbers + kept_numbers) (2 ^ 31)

-- whether a packet may have this number at all: it lies below 2 ^ 62, and less than 2 ^ 31 above
-- the greatest acknowledged (RFC 9000, sections 12.3 and 17.1)
abbrev pub may_give : Numbers → ℕ → Bool
may_give numbers n = nat_lt n (2 ^ 62) && nat_lt (n - cut_against numbers) (2 ^ 31)

-- a number is given: the one above it is next
abbrev pub number_given : Numbers → ℕ → Numbers
number_given numbers n = record numbers { next = n + 1; sealed = numbers.sealed + 1 }

-- a packet of this number was opened
abbrev pub number_opened : Numbers → ℕ → Numbers
number_opened numbers n = record numbers { opened = after_insert numbers.opened n; present = n }

-- the greater of a number and one that may be there
abbrev pub greatest_of : Option ℕ → ℕ → ℕ
greatest_of None n = n
greatest_of (Some m) n = max m n

-- the whole payload of a packet of this number was taken
abbrev pub number_taken : Numbers → ℕ → Numbers
number_taken numbers n = record numbers { taken = Some (greatest_of numbers.taken n) }

-- a frame named own numbers up to this one
abbrev pub number_named : Numbers → ℕ → Numbers
number_named numbers n = record numbers { largest_acked = Some (greatest_of numbers.largest_acked n) }
