-- A set of which one run is kept beside the others.
use Rattle.std.proofs.Common.{◌≡◌, ℕ, Bool, true, ◌+◌, ◌≤◌, ◌<◌, ◌⊎◌, ◌↔◌, List, [], max, refl, inl, inr, arith, sym, ◌∙◌}
use Rattle.std.proofs.lemmas.Bool.{cases_lt}
use Rattle.quic_sets.specs.Runs.{Run, Has, AreRuns, Adds}
use Rattle.quic_sets.specs.Offsets.{has, first_lacking, with_offsets}
use Rattle.quic_sets.proofs.Offsets.Edits.{with_is, with_only, has_by, has_is, has_from, below_first}

-- no run
pub none_latest : with_offsets 0 0 [] ≡ []
none_latest = sym (with_only 0 0 [] [] tt tt (λ k. (λ h. absurd h, λ h. elim h [ inl i ↦ i | inr i ↦ absurd (omega (arith, i.1)) ])))

module _ (s e : ℕ) (rs : List Run) (runs : AreRuns rs) where
  -- an index of the run
  pub in_latest : (k : ℕ) → s ≤ k → k < e → Has (with_offsets s e rs) k
  in_latest k le lt = (with_is s e rs runs k).1 (inr (le, lt))

  -- or of the others
  pub in_others : (k : ℕ) → Has rs k → Has (with_offsets s e rs) k
  in_others k h = (with_is s e rs runs k).1 (inl h)

  -- all below an index
  pub below_all : (m : ℕ) → m ≡ first_lacking rs → (k : ℕ) → k < m → Has (with_offsets s e rs) k
  below_all m is k lt = in_others k (below_first rs k runs (omega (arith, is, lt)))

  pub below_max : (m top : ℕ) → m ≡ first_lacking rs → s ≤ m → top ≡ max m e → (k : ℕ) → k < top → Has (with_offsets s e rs) k
  below_max m top is le to k lt = elim (cases_lt k m) [ inl less ↦ below_all m is k less | inr more ↦ in_latest k (omega (arith, le, more)) (omega (arith, to, lt, more)) ]

  pub has_latest : (k : ℕ) → s ≤ k → k < e → true ≡ has (with_offsets s e rs) k
  has_latest k le lt = has_by true (with_offsets s e rs) k (λ h. refl, λ h. in_latest k le lt)

  pub has_others : (k : ℕ) (b : Bool) → b ≡ has rs k → (s ≤ k → e ≤ k) → b ≡ has (with_offsets s e rs) k
  has_others k b is out = has_by b (with_offsets s e rs) k (
    λ h. elim ((with_is s e rs runs k).0 h) [ inl i ↦ is ∙ has_from rs k i | inr i ↦ absurd (let le = out i.0 in omega (arith, le, i.1)) ],
    λ h. in_others k (has_is rs k (sym is ∙ h)),
  )

  -- the run goes on
  pub goes_on : s ≤ e → Adds (with_offsets s e rs) (with_offsets s (e + 1) rs) e (e + 1)
  goes_on le k =
      let old = with_is s e rs runs k in
      let new = with_is s (e + 1) rs runs k in (
        λ x. elim (new.0 x) [
          | inl i ↦ inl (old.1 (inl i))
          | inr i ↦ elim (cases_lt k e) [ inl less ↦ inl (old.1 (inr (i.0, less))) | inr more ↦ inr (more, i.1) ]
        ],
        λ x. elim x [
          | inl i ↦ elim (old.0 i) [ inl j ↦ new.1 (inl j) | inr j ↦ new.1 (inr (j.0, omega (arith, j.1))) ]
          | inr i ↦ new.1 (inr (omega (arith, le, i.0), i.1))
        ],
      )

  module _ (others : List Run) (other_runs : AreRuns others) where
    -- another begins, and it goes to the others
    pub begins : (a : ℕ) → Adds rs others s e → Adds (with_offsets s e rs) (with_offsets a (a + 1) others) a (a + 1)
    begins a adds k =
        let old = with_is s e rs runs k in
        let new = with_is a (a + 1) others other_runs k in (
          λ x. elim (new.0 x) [ inl i ↦ inl (old.1 ((adds k).0 i)) | inr i ↦ inr i ],
          λ x. elim x [ inl i ↦ new.1 (inl ((adds k).1 (old.0 i))) | inr i ↦ new.1 (inr i) ],
        )

    -- one comes to the others
    pub comes_late : (a z : ℕ) → Adds rs others a z → Adds (with_offsets s e rs) (with_offsets s e others) a z
    comes_late a z adds k =
        let old = with_is s e rs runs k in
        let new = with_is s e others other_runs k in (
          λ x. elim (new.0 x) [
            | inl i ↦ elim ((adds k).0 i) [ inl j ↦ inl (old.1 (inl j)) | inr j ↦ inr j ]
            | inr i ↦ inl (old.1 (inr i))
          ],
          λ x. elim x [
            | inl i ↦ elim (old.0 i) [ inl j ↦ new.1 (inl ((adds k).1 (inl j))) | inr j ↦ new.1 (inr j) ]
            | inr i ↦ new.1 (inl ((adds k).1 (inr i)))
          ],
        )
