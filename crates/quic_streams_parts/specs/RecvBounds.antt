-- What is true of a receiving part, beside what its calls say (RFC 9000, sections 4.1 and 4.5).
use Rattle.std.specs.Prelude.{◌≡◌, ℕ, ◌<◌, ◌≤◌, ◌||◌, true, Option}
use Rattle.std.specs.Option.{ForSome}
use Rattle.quic_assembler.specs.Arrived.{Arrived, IsLawful, is_given, waits}
use Rattle.quic_streams_parts.specs.RecvHalf.{greatest_offset}

-- each offset that waits, or that was given, is below one
abbrev pub AreBelow : ℕ → Arrived → Type 0
AreBelow end a = (o : ℕ) → (is_given a o || waits a.parts o) ≡ true → o < end

-- what has arrived is lawful and lies below the greatest offset that arrived, which a final size is
-- at least; and offsets are at most the greatest
pub record IsWithin (a : Arrived) (seen : ℕ) (size : Option ℕ) (announced : ℕ) : Type 0 where
  pub lawful : IsLawful a
  pub below : AreBelow seen a
  pub final : ForSome size (λ n. seen ≤ n)
  pub small : seen ≤ greatest_offset
  pub small_announced : announced ≤ greatest_offset
