-- What a lender ends as, where a reference to a value in it is returned.
use Rattle.std.specs.Prelude.{ℕ, ◌-◌, Option, Some, slice_set}
use Rattle.std.specs.Borrow.{Lends, LendsIf, Fml, RattleType, MutBor}
use Rattle.std.specs.contracts.option.Option.{the_row as option_row}
use Rattle.quic_streams_parts.specs.Table.{Table, put}
use Rattle.quic_streams_parts.specs.Slots.{Slots}
use Rattle.quic_streams_parts.specs.contracts.kept.Kept.{the_row as kept_row}
use Rattle.quic_streams_parts.specs.contracts.ring.Ring.{the_row as ring_row}
use Rattle.quic_streams_parts.specs.contracts.by_number.ByNumber.{the_row as by_number_row}
use Rattle.quic_streams_parts.specs.contracts.numbered.Numbered.{the_row as numbered_row}

module _ (T : RattleType) where
  -- what is kept is the last value behind r
  abbrev pub lends_kept : MutBor T.Denot → MutBor T.Denot → Fml
  lends_kept s r = Lends (kept_row T) T s r (λ w. w)

  -- a slot has it, and stays as it is where it has no value
  abbrev pub lends_slot : MutBor (Option T.Denot) → Option (MutBor T.Denot) → Fml
  lends_slot s r = LendsIf (option_row T) T s r (λ w. Some w) s.now

  -- the slot of a number has it
  abbrev pub lends_ring : MutBor (Slots T.Denot) → ℕ → Option (MutBor T.Denot) → Fml
  lends_ring s n r = LendsIf (ring_row T) T s r (λ w. record s.now { slots = slice_set s.now.slots (n - s.now.base) (Some w) }) s.now

  -- a number has it
  abbrev pub lends_by_number : MutBor (Table T.Denot) → ℕ → Option (MutBor T.Denot) → Fml
  lends_by_number s n r = LendsIf (by_number_row T) T s r (put s.now n) s.now

  -- the same, of values that are kept
  abbrev pub lends_number : MutBor (Table T.Denot) → ℕ → Option (MutBor T.Denot) → Fml
  lends_number s n r = LendsIf (numbered_row T) T s r (put s.now n) s.now
