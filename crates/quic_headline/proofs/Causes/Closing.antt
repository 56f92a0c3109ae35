-- What an end keeps that stays as open as it was, and for what; and numbers that are used up.
use Rattle.std.proofs.Common.{◌≡◌, ◌+◌, ◌-◌, ◌^◌, inl, inr, Bool, true, false, nat_lt, ◌&&◌, refl}
use Rattle.std.proofs.lemmas.Bool.{ltb-false}
use Rattle.quic_spaces.specs.Numbers.{Numbers, cut_against, kept_numbers, can_number}
use Rattle.quic_machine.specs.End.{End}
use Rattle.quic_headline.specs.Causes.{AreUsedUp}

-- an end is open, or isn't for a reason, as it was
pub record Keeps (e f : End) : Type 0 where
  pub reason : f.closing.reason ≡ e.closing.reason
  pub state : f.closing.state ≡ e.closing.state

-- the numbers are used up where none may be given
pub used_up : (numbers : Numbers) → can_number numbers ≡ false → AreUsedUp numbers.next (cut_against numbers)
used_up numbers may = go (nat_lt (numbers.next + kept_numbers) (2 ^ 62)) refl (nat_lt (numbers.next - cut_against numbers + kept_numbers) (2 ^ 31)) refl may
  where
    go : (a : Bool) → nat_lt (numbers.next + kept_numbers) (2 ^ 62) ≡ a → (b : Bool) → nat_lt (numbers.next - cut_against numbers + kept_numbers) (2 ^ 31) ≡ b → (a && b) ≡ false → AreUsedUp numbers.next (cut_against numbers)
    go false x b y off = inl (ltb-false (numbers.next + kept_numbers) (2 ^ 62) x)
    go true x false y off = inr (ltb-false (numbers.next - cut_against numbers + kept_numbers) (2 ^ 31) y)
    go true x true y off = cc
