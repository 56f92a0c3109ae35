-- What is used up of a window where its limit didn't grow: as much as that leaves, less an eighth,
-- was brought and isn't used up.
use Rattle.std.proofs.Common.{ℕ, zero, suc, ◌+◌, ◌-◌, ◌<◌, ◌≤◌, inl, inr, arith}
use Rattle.std.specs.Prelude.{◌/◌, ◌^◌, min, max}
use Rattle.std.proofs.lemmas.Bool.{cases_lt}
use Rattle.quic_streams_laws.specs.Summed.{sum_below}
use Rattle.quic_headline.specs.Grown.{HasGrown}
use Rattle.quic_headline.specs.Unread.{least_left}

-- of each stream what was brought is used up, or left
pub sum_of_both : (n : ℕ) (w c u : ℕ → ℕ) → ((j : ℕ) → w j ≤ c j + u j) → sum_below n w ≤ sum_below n c + sum_below n u
unfolding sum_below
sum_of_both zero w c u each = omega arith
sum_of_both (suc n) w c u each =
    let here = each n in
    let rest = sum_of_both n w c u each in
    omega arith

-- so many are left
pub much_left : (window used told brought left : ℕ) → told ≤ brought → brought ≤ used + left → (HasGrown window used (2 ^ 62 - 1) told → ⊥) → 0 < window → window < 2 ^ 62 → brought < 2 ^ 61 → least_left window ≤ left
much_left window used told brought left full both held some small few = elim (cases_lt (min (window + used) (2 ^ 62 - 1)) (told + max (window / 8) 1)) [
  | inl less ↦ omega arith
  | inr more ↦ absurd (held more)
]
