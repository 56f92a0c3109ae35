-- A number behind all that a map has.
use Rattle.std.proofs.Common.{◌≡◌, ℕ, ◌<◌, ◌≤◌, true, false, [], ◌∷◌, length, None, refl, sym, ap, ◌∙◌, ⊎_elim, arith}
use Rattle.std.specs.List.{All, AllByRecursion}
use Rattle.std.specs.Ordering.{nat_cmp, is_lt}
use Rattle.std.specs.Map.{keys_of}
use Rattle.std.proofs.lemmas.Bool.{cases_lt}
use Rattle.quic_streams_parts.specs.Table.{Table, at}
use Rattle.quic_streams_parts.proofs.Joined.{other, below_less}
use Rattle.quic_streams_parts.proofs.Parted.{all_entries}

-- a number that none exceeds comes last
up_to_last : (n k : ℕ) → is_lt (nat_cmp n k) ≡ false → k ≤ n
up_to_last n k e = ⊎_elim (λ (l : n < k). absurd (never (sym (ap is_lt (below_less n k l)) ∙ e))) (λ (le : k ≤ n). le) (cases_lt n k)
  where
    never : true ≡ false → ⊥
    never is = cc

module _ {A : Type 0} where
  -- nothing stands at a number behind the last
  pub behind_last : (n last : ℕ) (es : Table A) → last < n → All (λ k. is_lt (nat_cmp last k) ≡ false) (keys_of es) → at es n ≡ None
  behind_last n last es l all = go es (all_entries (λ k. is_lt (nat_cmp last k) ≡ false) es all)
    where
      go : (es : Table A) → AllByRecursion (λ e. is_lt (nat_cmp last e.0) ≡ false) es → at es n ≡ None
      go [] all = refl
      go (x ∷ es) all = let le = up_to_last last x.0 all.0 in rw (other n x.0 (λ e. omega arith)) (go es all.1)

  -- nor where there is none
  pub none_at : (n : ℕ) (es : Table A) → length es ≤ 0 → at es n ≡ None
  none_at n [] e = refl
  none_at n (x ∷ es) e = absurd (omega arith)
