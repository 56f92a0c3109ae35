-- The fewest bytes of a number, and its expansion by the definition.
use Rattle.std.proofs.Common.{◌≡◌, ℕ, zero, suc, ◌+◌, ◌-◌, ◌*◌, ◌/◌, ◌%◌, ◌^◌, ◌<◌, ◌≤◌, arith, inl, inr}
use Rattle.std.proofs.lemmas.Bool.{cases_lt, le-ltb, lt-ltb}
use Rattle.quic_packet.specs.Number.{Truncated, window, width_for, IsFewest, expanded, IsExpansion, NewestOpens, LateOpens}

-- a written number of this width and residue
abbrev of : ℕ → ℕ → Truncated
of width residue = record { width = width; residue = residue }

-- the expansion meets its definition, width by width
pub expansion : (width residue x : ℕ) → 1 ≤ width → width ≤ 4 → residue < 256 ^ width → IsExpansion (of width residue) x (expanded (of width residue) x)
expansion zero r x a b c = absurd (omega arith)
expansion (suc zero) r x a b c = record { residue = omega arith; around = elim (cases_lt (x + 128) r) [ inl lt ↦ inr (lt, omega arith) | inr le ↦ inl (omega arith, omega arith) ] }
expansion (suc (suc zero)) r x a b c = record { residue = omega arith; around = elim (cases_lt (x + 32768) r) [ inl lt ↦ inr (lt, omega arith) | inr le ↦ inl (omega arith, omega arith) ] }
expansion (suc (suc (suc zero))) r x a b c = record { residue = omega arith; around = elim (cases_lt (x + 8388608) r) [ inl lt ↦ inr (lt, omega arith) | inr le ↦ inl (omega arith, omega arith) ] }
expansion (suc (suc (suc (suc zero)))) r x a b c = record { residue = omega arith; around = elim (cases_lt (x + 2147483648) r) [ inl lt ↦ inr (lt, omega arith) | inr le ↦ inl (omega arith, omega arith) ] }
expansion (suc (suc (suc (suc (suc n))))) r x a b c = absurd (omega arith)

-- the width is the fewest bytes
pub fewest : (between : ℕ) → between < 2 ^ 31 → IsFewest between (width_for between)
fewest d lt =
    elim (cases_lt (2 * d) 256) [
      | inl a ↦ rw (lt-ltb (2 * d) 256 a) (record { some = omega arith; four = omega arith; enough = a; fewest = λ k one below. absurd (omega arith) })
      | inr a ↦ rw (le-ltb (2 * d) 256 a) (elim (cases_lt (2 * d) 65536) [
        | inl b ↦ rw (lt-ltb (2 * d) 65536 b) (record { some = omega arith; four = omega arith; enough = b; fewest = below_2 d a })
        | inr b ↦ rw (le-ltb (2 * d) 65536 b) (elim (cases_lt (2 * d) 16777216) [
          | inl c ↦ rw (lt-ltb (2 * d) 16777216 c) (record { some = omega arith; four = omega arith; enough = c; fewest = below_3 d b })
          | inr c ↦ rw (le-ltb (2 * d) 16777216 c) (record { some = omega arith; four = omega arith; enough = omega arith; fewest = below_4 d c })
        ])
      ])
    ]
  where
    below_2 : (d : ℕ) → 256 ≤ 2 * d → (k : ℕ) → 1 ≤ k → k < 2 → 256 ^ k ≤ 2 * d
    below_2 d le zero one lt = absurd (omega arith)
    below_2 d le (suc zero) one lt = le
    below_2 d le (suc (suc n)) one lt = absurd (omega arith)

    below_3 : (d : ℕ) → 65536 ≤ 2 * d → (k : ℕ) → 1 ≤ k → k < 3 → 256 ^ k ≤ 2 * d
    below_3 d le zero one lt = absurd (omega arith)
    below_3 d le (suc zero) one lt = omega arith
    below_3 d le (suc (suc zero)) one lt = le
    below_3 d le (suc (suc (suc n))) one lt = absurd (omega arith)

    below_4 : (d : ℕ) → 16777216 ≤ 2 * d → (k : ℕ) → 1 ≤ k → k < 4 → 256 ^ k ≤ 2 * d
    below_4 d le zero one lt = absurd (omega arith)
    below_4 d le (suc zero) one lt = omega arith
    below_4 d le (suc (suc zero)) one lt = omega arith
    below_4 d le (suc (suc (suc zero))) one lt = le
    below_4 d le (suc (suc (suc (suc n)))) one lt = absurd (omega arith)

-- the same for a value known by an equation
pub expansion_of : (t : Truncated) (x v : ℕ) → v ≡ expanded t x → 1 ≤ t.width → t.width ≤ 4 → t.residue < 256 ^ t.width → IsExpansion t x v
expansion_of t x v e some four fits = rw e (expansion t.width t.residue x some four fits)

-- a number cut to enough bytes is expanded to itself
newest : (width n acked x : ℕ) → 1 ≤ width → width ≤ 4 → 2 * (n - acked) < 256 ^ width → acked ≤ x → x ≤ n + 1 → expanded (of width (n % window width)) x ≡ n
newest zero n acked x a b c d e = absurd (omega arith)
newest (suc zero) n acked x a b c d e = omega arith
newest (suc (suc zero)) n acked x a b c d e = omega arith
newest (suc (suc (suc zero))) n acked x a b c d e = omega arith
newest (suc (suc (suc (suc zero)))) n acked x a b c d e = omega arith
newest (suc (suc (suc (suc (suc k))))) n acked x a b c d e = absurd (omega arith)

-- the newest number expands to itself
pub newest_opens : NewestOpens
newest_opens n acked x near above below =
    let few = fewest (n - acked) near in
    newest (width_for (n - acked)) n acked x few.some few.four few.enough above below

-- so it is where fewer than half a window's numbers came before it
late : (width n acked x : ℕ) → 1 ≤ width → width ≤ 4 → 2 * (n - acked) < 256 ^ width → acked ≤ x → x < n + window width / 2 → expanded (of width (n % window width)) x ≡ n
late zero n acked x a b c d e = absurd (omega arith)
late (suc zero) n acked x a b c d e = omega arith
late (suc (suc zero)) n acked x a b c d e = omega arith
late (suc (suc (suc zero))) n acked x a b c d e = omega arith
late (suc (suc (suc (suc zero)))) n acked x a b c d e = omega arith
late (suc (suc (suc (suc (suc k))))) n acked x a b c d e = absurd (omega arith)

-- a late number expands to itself
pub late_opens : LateOpens
late_opens n acked x near above below =
    let few = fewest (n - acked) near in
    late (width_for (n - acked)) n acked x few.some few.four few.enough above below
