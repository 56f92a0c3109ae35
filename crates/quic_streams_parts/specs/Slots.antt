-- Values in slots, one for each number from a first one on.
use Rattle.std.specs.Prelude.{ℕ, ◌+◌, ◌^◌, ◌<◌, ◌≤◌, List, [], ◌∷◌, length, Option, Some, None}
use Rattle.std.specs.List.{AllByRecursion}
use Rattle.std.specs.List.Sorted.{IsStrictlySortedBy}
use Rattle.std.specs.Map.{keys_of}
use Rattle.std.specs.Ordering.{nat_cmp}
use Rattle.quic_streams_parts.specs.Table.{Table}

-- slots, of which each holds a value or is empty, and the number of the first
pub record Slots (A : Type 0) : Type 0 where
  pub base : ℕ
  pub slots : List (Option A)

-- the value of the first entry, if there is one
abbrev pub first_value : {K A : Type 0} → List (K × A) → Option A
first_value [] = None
first_value (e ∷ es) = Some e.1

module _ {A : Type 0} where
  -- what the slot of a number holds, before other values
  abbrev pub in_slot : ℕ → Option A → Table A → Table A
  in_slot n None others = others
  in_slot n (Some p) others = (n, p) ∷ others

  -- the values in slots, of which the first has this number
  abbrev pub numbered : ℕ → List (Option A) → Table A
  numbered base [] = []
  numbered base (p ∷ slots) = in_slot base p (numbered (base + 1) slots)

  -- the values that they hold
  abbrev pub held : Slots A → Table A
  held p = numbered p.base p.slots

  -- no more than 65536 slots, whose numbers fit 64 bits
  pub record IsShort (p : Slots A) : Type 0 where
    pub numbers : p.base + length p.slots ≤ 2 ^ 64
    pub span : length p.slots ≤ 65536

  -- all numbers of some values lie below one
  abbrev pub AllBelow : ℕ → Table A → Type 0
  AllBelow n entries = AllByRecursion (λ k. k < n) (keys_of entries)

  -- or none does
  abbrev pub AllFrom : ℕ → Table A → Type 0
  AllFrom n entries = AllByRecursion (λ k. n ≤ k) (keys_of entries)

  -- some values by number, in order, and the slots of those behind all of them
  pub record IsSplit (earlier : Table A) (s : Slots A) : Type 0 where
    pub below : AllBelow s.base earlier
    pub ordered : IsStrictlySortedBy nat_cmp (keys_of earlier)
