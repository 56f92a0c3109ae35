-- Values by number are in order where the first ones are, and lie below the slots of the others.
use Rattle.std.proofs.Common.{◌≡◌, ℕ, ◌+◌, ◌<◌, List, [], ◌∷◌, ◌++◌, Option, Some, None, arith}
use Rattle.std.specs.List.{AllByRecursion}
use Rattle.std.specs.List.Sorted.{IsStrictlySortedBy}
use Rattle.std.specs.Map.{keys_of}
use Rattle.std.specs.Ordering.{nat_cmp}
use Rattle.std.specs.declared.cmp.Ordering.TheVariants.{Less}
use Rattle.quic_streams_parts.specs.Table.{Table}
use Rattle.quic_streams_parts.specs.Slots.{Slots, numbered, held, AllBelow, AllFrom, IsSplit}
use Rattle.quic_streams_parts.proofs.Joined.{below_less}
use Rattle.quic_streams_parts.proofs.Slotted.{all_from}

module _ {A : Type 0} where
  -- a number below all of some is less than each
  above : (n b : ℕ) (ys : Table A) → n < b → AllFrom b ys → AllByRecursion (λ y. nat_cmp n y ≡ Less) (keys_of ys)
  above n b [] l all = tt
  above n b (y ∷ ys) l all = (let le = all.0 in below_less n y.0 (omega arith), above n b ys l all.1)

  -- a fact of the numbers of two parts is one of all, and the other way round
  all_joined : (P : ℕ → Type 0) (xs ys : Table A) → AllByRecursion P (keys_of xs) → AllByRecursion P (keys_of ys) → AllByRecursion P (keys_of (xs ++ ys))
  all_joined P [] ys p q = q
  all_joined P (x ∷ xs) ys p q = (p.0, all_joined P xs ys p.1 q)

  all_first : (P : ℕ → Type 0) (xs ys : Table A) → AllByRecursion P (keys_of (xs ++ ys)) → AllByRecursion P (keys_of xs)
  all_first P [] ys p = tt
  all_first P (x ∷ xs) ys p = (p.0, all_first P xs ys p.1)

  -- what slots hold is in order
  numbered_ordered : (b : ℕ) (os : List (Option A)) → IsStrictlySortedBy nat_cmp (keys_of (numbered b os))
  unfolding IsStrictlySortedBy
  numbered_ordered b [] = tt
  numbered_ordered b (None ∷ os) = numbered_ordered (b + 1) os
  numbered_ordered b (Some p ∷ os) = (above b (b + 1) (numbered (b + 1) os) (omega arith) (all_from (b + 1) os), numbered_ordered (b + 1) os)

  -- two parts that are in order, one below the other, are so together
  joined_ordered : (b : ℕ) (xs ys : Table A) → AllBelow b xs → AllFrom b ys → IsStrictlySortedBy nat_cmp (keys_of xs) → IsStrictlySortedBy nat_cmp (keys_of ys) → IsStrictlySortedBy nat_cmp (keys_of (xs ++ ys))
  unfolding IsStrictlySortedBy
  joined_ordered b [] ys below from o p = p
  joined_ordered b (x ∷ xs) ys below from o p = (all_joined (λ y. nat_cmp x.0 y ≡ Less) xs ys o.0 (above x.0 b ys below.0 from), joined_ordered b xs ys below.1 from o.1 p)

  -- the first part of what is in order is so
  pub first_ordered : (xs ys : Table A) → IsStrictlySortedBy nat_cmp (keys_of (xs ++ ys)) → IsStrictlySortedBy nat_cmp (keys_of xs)
  unfolding IsStrictlySortedBy
  first_ordered [] ys o = tt
  first_ordered (x ∷ xs) ys o = (all_first (λ y. nat_cmp x.0 y ≡ Less) xs ys o.0, first_ordered xs ys o.1)

  -- all values by number are in order
  pub split_ordered : (es : Table A) (s : Slots A) → IsSplit es s → IsStrictlySortedBy nat_cmp (keys_of (es ++ held s))
  split_ordered es s h = joined_ordered s.base es (held s) h.below (all_from s.base s.slots) h.ordered (numbered_ordered s.base s.slots)
