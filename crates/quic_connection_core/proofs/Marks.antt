-- The counts of marks that an ACK frame tells.
use Rattle.std.proofs.Common.{◌≡◌, ℕ, ◌+◌, ◌-◌, ◌≤◌, ◌&&◌, Bool, true, false, Option, Some, None, refl, ap, ◌∙◌, arith}
use Rattle.std.specs.Prelude.{if◌then◌else◌}
use Rattle.std.specs.Prelude.{nat_le}
use Rattle.std.proofs.lemmas.Bool.{leb-true, leb-false}
use Rattle.std.specs.Borrow.{Bor}
use Rattle.std.specs.Option.{option_copied}
use Rattle.quic_wire.specs.declared.frame.ack.EcnCounts.{EcnCounts}
use Rattle.quic_wire.specs.AckView.{ecn_view, shown_ecn}
use Rattle.quic_spaces.specs.Marks.{Counts}
use Rattle.quic_wire.specs.AckGrammar.{has_ecn}
use Rattle.quic_wire.specs.Value.{ack}
use Rattle.quic_wire.specs.Writing.{frame_size, width_of}
use Rattle.quic_machine.specs.End.{End}
use Rattle.quic_machine.specs.Poll.{ack_of}

-- those behind a reference are those that it refers to
shown_same : (r : Option (Bor EcnCounts)) → shown_ecn r ≡ ecn_view (option_copied r)
shown_same None = refl
shown_same (Some e) = refl

-- so they are what is known of those
pub shown_told : (r : Option (Bor EcnCounts)) (counts : Option EcnCounts) (told : Option Counts) → option_copied r ≡ counts → ecn_view counts ≡ told → shown_ecn r ≡ told
shown_told r counts told same is = shown_same r ∙ ap ecn_view same ∙ is

-- a frame fits into what is left where it fits behind what stands there
pub fits_left : (size used room : ℕ) → used ≤ room → nat_le size (room - used) ≡ nat_le (used + size) room
fits_left size used room within = go (nat_le size (room - used)) (nat_le (used + size) room) refl refl
  where
    go : (a b : Bool) → nat_le size (room - used) ≡ a → nat_le (used + size) room ≡ b → a ≡ b
    go true true x y = refl
    go true false x y = let fits = leb-true size (room - used) x in let not = leb-false (used + size) room y in absurd (omega arith)
    go false true x y = let not = leb-false size (room - used) x in let fits = leb-true (used + size) room y in absurd (omega arith)
    go false false x y = refl

-- an ACK frame has a byte at least
ack_some : (e : End) → 1 ≤ frame_size (ack (ack_of e))
ack_some e =
    let first = type (has_ecn (ack_of e).ecn) in
    omega arith
  where
    type : (b : Bool) → 1 ≤ width_of (2 + (if b then 1 else 0))
    type true = let three : width_of 3 ≡ 1 = refl in omega arith
    type false = let two : width_of 2 ≡ 1 = refl in omega arith

-- so none fits behind what fills its payload
pub fits_nowhere : (filled : Bool) (e : End) (used room : ℕ) → room - used ≡ 0 → (filled && nat_le (used + frame_size (ack (ack_of e))) room) ≡ false
fits_nowhere false e used room full = refl
fits_nowhere true e used room full = go (nat_le (used + frame_size (ack (ack_of e))) room) refl
  where
    go : (b : Bool) → nat_le (used + frame_size (ack (ack_of e))) room ≡ b → b ≡ false
    go true is = let fits = leb-true (used + frame_size (ack (ack_of e))) room is in let some = ack_some e in absurd (omega (arith, full))
    go false is = refl
