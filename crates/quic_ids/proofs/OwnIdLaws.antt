-- Which numbers live.
use Rattle.std.proofs.Common.{◌≡◌, ℕ, zero, suc, ◌+◌, ◌^◌, ◌<◌, ◌≤◌, ◌⊎◌, Bool, true, false, not, ◌&&◌, ◌||◌, ◌==◌, cond, ltb, leb, List, [], ◌∷◌, length, Option, Some, None, refl, sym, ap, ◌∙◌, subst, arith, inl, inr}
use Rattle.std.specs.Ordering.{nat_cmp, match_ordering}
use Rattle.std.specs.declared.cmp.Ordering.{Ordering}
use Rattle.std.specs.declared.cmp.Ordering.TheVariants.{Less, Equal, Greater}
use Rattle.std.specs.Cmp.{unsigned_tied, ranked}
use Rattle.std.specs.BTreeMap.{is_at}
use Rattle.std.specs.BTreeSet.{insert_key}
use Rattle.std.proofs.lemmas.Bool.{eqb-true, eqb-false, eq-eqb, ne_eqb, lt-ltb, le-ltb, le-leb, lt-leb, leb-false, cases_lt, cases_eq, false_from_ne_true, or_parts}
use Rattle.quic_wire_core.specs.declared.shared.IssuedCid.{IssuedCid}
use Rattle.quic_ids.specs.CidState.{OwnIds, is_in, below, without, living_with, capped, initial_ids, last_of, after_batch, after_new, after_retirement, after_timeout, is_wrong, HaveNumbers, Rise, LivesLess}
use Rattle.quic_ids.proofs.OwnIdSteps.{insert_next}

tied : (n k : ℕ) → is_at (nat_cmp n) k ≡ (n == k)
tied n k = unsigned_tied n k

lower : (ks : List ℕ) (a b : ℕ) → a ≤ b → Rise ks b → Rise ks a
lower [] a b le h = tt
lower (k ∷ ks) a b le h = (omega (arith, h.0), h.1)

not_in : (ks : List ℕ) (n first : ℕ) → n < first → Rise ks first → is_in n ks ≡ false
not_in [] n first less h = refl
not_in (k ∷ ks) n first less h = rw (tied n k ∙ ne_eqb n k (λ e. omega (arith, h.0))) (not_in ks n (k + 1) (omega (arith, h.0)) h.1)

-- ---- a number is put in

pub in_inserted : (ks : List ℕ) (m n : ℕ) → is_in n (insert_key nat_cmp ks m) ≡ ((n == m) || is_in n ks)
in_inserted [] m n = rw (tied n m) refl
in_inserted (k ∷ ks) m n = go (nat_cmp m k) refl (in_inserted ks m n)
  where
    twice : (a b : Bool) → (a || b) ≡ (a || (a || b))
    twice true b = refl
    twice false b = refl

    swap_or : (a b c : Bool) → (a || (b || c)) ≡ (b || (a || c))
    swap_or true true c = refl
    swap_or true false c = refl
    swap_or false b c = refl

    go : (r : Ordering) → r ≡ nat_cmp m k → is_in n (insert_key nat_cmp ks m) ≡ ((n == m) || is_in n ks) → is_in n (match_ordering r (m ∷ k ∷ ks) (k ∷ ks) (k ∷ insert_key nat_cmp ks m)) ≡ ((n == m) || (is_at (nat_cmp n) k || is_in n ks))
    go Less e ih = ap (λ (t : Bool). t || (is_at (nat_cmp n) k || is_in n ks)) (tied n m)
    go Equal e ih =
        let same : m ≡ k = ranked m k Equal e in
        twice (is_at (nat_cmp n) k) (is_in n ks) ∙ ap (λ (t : Bool). t || (is_at (nat_cmp n) k || is_in n ks)) (tied n k ∙ ap (λ (j : ℕ). n == j) (sym same))
    go Greater e ih = ap (λ (t : Bool). is_at (nat_cmp n) k || t) ih ∙ swap_or (is_at (nat_cmp n) k) (n == m) (is_in n ks)

pub rise_inserted : (ks : List ℕ) (m first : ℕ) → first ≤ m → Rise ks first → Rise (insert_key nat_cmp ks m) first
rise_inserted [] m first le h = (le, tt)
rise_inserted (k ∷ ks) m first le h = go (nat_cmp m k) refl (λ l. rise_inserted ks m (k + 1) l h.1)
  where
    go : (r : Ordering) → r ≡ nat_cmp m k → (k + 1 ≤ m → Rise (insert_key nat_cmp ks m) (k + 1)) → Rise (match_ordering r (m ∷ k ∷ ks) (k ∷ ks) (k ∷ insert_key nat_cmp ks m)) first
    go Less e ih = let less : m < k = ranked m k Less e in (le, (omega arith, h.1))
    go Equal e ih = h
    go Greater e ih = let more : k < m = ranked m k Greater e in (h.0, ih (omega arith))

-- ---- a number is taken out

pub in_without : (ks : List ℕ) (m n first : ℕ) → Rise ks first → is_in n (without m ks) ≡ (is_in n ks && not (n == m))
in_without [] m n first h = refl
in_without (k ∷ ks) m n first h = go (is_at (nat_cmp m) k) refl (in_without ks m n (k + 1) h.1)
  where
    and_true : (a : Bool) → a ≡ (a && true)
    and_true true = refl
    and_true false = refl

    here : (t : Bool) → (n == k) ≡ t → m ≡ k → is_in n ks ≡ ((t || is_in n ks) && not (n == m))
    here true q same = let e = eqb-true n k q in rw (eq-eqb n m (omega arith)) (not_in ks n (k + 1) (omega arith) h.1)
    here false q same = let e = eqb-false n k q in rw (ne_eqb n m (λ z. e (omega arith))) (and_true (is_in n ks))

    there : (t : Bool) → (n == k) ≡ t → (m ≡ k → ⊥) → is_in n (without m ks) ≡ (is_in n ks && not (n == m)) → (t || is_in n (without m ks)) ≡ ((t || is_in n ks) && not (n == m))
    there true q other ih = let e = eqb-true n k q in rw (ne_eqb n m (λ z. other (omega arith))) refl
    there false q other ih = ih

    go : (b : Bool) → is_at (nat_cmp m) k ≡ b → is_in n (without m ks) ≡ (is_in n ks && not (n == m)) → is_in n (cond b ks (k ∷ without m ks)) ≡ ((is_at (nat_cmp n) k || is_in n ks) && not (n == m))
    go true q ih = here (n == k) refl (eqb-true m k (sym (tied m k) ∙ q)) ∙ ap (λ (t : Bool). (t || is_in n ks) && not (n == m)) (sym (tied n k))
    go false q ih = ap (λ (t : Bool). t || is_in n (without m ks)) (tied n k) ∙ there (n == k) refl (eqb-false m k (sym (tied m k) ∙ q)) ih ∙ ap (λ (t : Bool). (t || is_in n ks) && not (n == m)) (sym (tied n k))

pub rise_without : (ks : List ℕ) (m first : ℕ) → Rise ks first → Rise (without m ks) first
rise_without [] m first h = tt
rise_without (k ∷ ks) m first h = go (is_at (nat_cmp m) k) (rise_without ks m (k + 1) h.1)
  where
    go : (b : Bool) → Rise (without m ks) (k + 1) → Rise (cond b ks (k ∷ without m ks)) first
    go true ih = lower ks first (k + 1) (omega (arith, h.0)) h.1
    go false ih = (h.0, ih)

-- ---- more are issued

in_issued : (cs : List IssuedCid) (living : List ℕ) (at n : ℕ) → HaveNumbers cs at → is_in n (living_with cs living) ≡ (is_in n living || (leb at n && ltb n (at + length cs)))
in_issued [] living at n h = none (is_in n living) ∙ ap (λ (t : Bool). is_in n living || t) (sym (gone (cases_lt n at)))
  where
    none : (a : Bool) → a ≡ (a || false)
    none true = refl
    none false = refl

    gone : (n < at) ⊎ (at ≤ n) → (leb at n && ltb n (at + 0)) ≡ false
    gone (inl less) = rw (lt-leb at n less) refl
    gone (inr more) = rw (le-leb at n more, le-ltb n (at + 0) (omega arith)) refl
in_issued (c ∷ cs) living at n h =
    let is = h.0 in
    in_issued cs (insert_key nat_cmp living c.sequence) (at + 1) n h.1 ∙ ap (λ (t : Bool). t || (leb (at + 1) n && ltb n (at + 1 + length cs))) (in_inserted living c.sequence n) ∙ go (cases_eq n at)
  where
    any : (a : Bool) → true ≡ (a || true)
    any true = refl
    any false = refl

    go : (n ≡ at) ⊎ (n ≡ at → ⊥) → (((n == c.sequence) || is_in n living) || (leb (at + 1) n && ltb n (at + 1 + length cs))) ≡ (is_in n living || (leb at n && ltb n (at + suc (length cs))))
    go (inl same) = let is = h.0 in rw (eq-eqb n c.sequence (omega arith), le-leb at n (omega arith), lt-ltb n (at + suc (length cs)) (omega arith)) (any (is_in n living))
    go (inr other) =
        let is = h.0 in
        let first : leb (at + 1) n ≡ leb at n = elim (cases_lt n at) [ inl less ↦ lt-leb (at + 1) n (omega arith) ∙ sym (lt-leb at n less) | inr more ↦ le-leb (at + 1) n (omega arith) ∙ sym (le-leb at n more) ] in
        let last : at + 1 + length cs ≡ at + suc (length cs) = omega arith in
        rw (ne_eqb n c.sequence (λ z. other (omega arith)), first, last) refl

rise_issued : (cs : List IssuedCid) (living : List ℕ) → Rise living 0 → Rise (living_with cs living) 0
rise_issued [] living h = h
rise_issued (c ∷ cs) living h = rise_issued cs (insert_key nat_cmp living c.sequence) (rise_inserted living c.sequence 0 (omega arith) h)

in_below : (m n : ℕ) → is_in n (below m) ≡ ltb n m
in_below zero n = sym (le-ltb n 0 (omega arith))
in_below (suc m) n = ap (λ (l : List ℕ). is_in n l) (sym (insert_next m m (omega arith))) ∙ in_inserted (below m) m n ∙ ap (λ (t : Bool). (n == m) || t) (in_below m n) ∙ go (cases_eq n m)
  where
    go : (n ≡ m) ⊎ (n ≡ m → ⊥) → ((n == m) || ltb n m) ≡ ltb n (suc m)
    go (inl same) = rw (eq-eqb n m same, lt-ltb n (suc m) (omega arith)) refl
    go (inr other) = rw (ne_eqb n m other) (elim (cases_lt n m) [ inl less ↦ lt-ltb n m less ∙ sym (lt-ltb n (suc m) (omega arith)) | inr more ↦ le-ltb n m more ∙ sym (le-ltb n (suc m) (omega arith)) ])

rise_below : (m : ℕ) → Rise (below m) 0
rise_below zero = tt
rise_below (suc m) = let P : List ℕ → Type 0 = λ l. Rise l 0 in subst P (insert_next m m (omega arith)) (rise_inserted (below m) m 0 (omega arith) (rise_below m))

-- ---- the law

pub first_live : (id_len : ℕ) (lifetime : Option ℕ) (now issued : ℕ) → LivesLess (initial_ids id_len lifetime now issued) []
first_live id_len lifetime now issued = record {
  living = λ n. in_below issued n ∙ and_true (ltb n issued);
  were_issued = λ n e. cc;
  rise = rise_below issued;
}
  where
    and_true : (a : Bool) → a ≡ (a && true)
    and_true true = refl
    and_true false = refl

pub issued_live : (s : OwnIds) (retired : List ℕ) (cs : List IssuedCid) (now : ℕ) → LivesLess s retired → HaveNumbers cs s.issued → s.issued + length cs < 2 ^ 64 → LivesLess (after_new s cs now) retired
issued_live s retired cs now h numbers fits = begun (last_of cs)
  where
    either : (a : Bool) → (a || false) ≡ a
    either true = refl
    either false = refl

    both : (a b : Bool) → b ≡ false → a ≡ (a && not b)
    both true true e = cc
    both true false e = refl
    both false b e = refl

    go : (n : ℕ) → (n < s.issued) ⊎ (s.issued ≤ n) → ((ltb n s.issued && not (is_in n retired)) || (leb s.issued n && ltb n (s.issued + length cs))) ≡ (ltb n (capped (s.issued + length cs)) && not (is_in n retired))
    go n (inl less) = rw (lt-ltb n s.issued less, lt-leb s.issued n less, lt-ltb n (capped (s.issued + length cs)) (omega arith)) (either (not (is_in n retired)))
    go n (inr more) =
        let whole : s.issued + length cs ≡ capped (s.issued + length cs) = omega arith in
        let free : is_in n retired ≡ false = false_from_ne_true (is_in n retired) (λ e. let was = h.were_issued n e in omega arith) in
        rw (le-ltb n s.issued more, le-leb s.issued n more) (ap (λ (k : ℕ). ltb n k) whole ∙ both (ltb n (capped (s.issued + length cs))) (is_in n retired) free)

    begun : (last : Option IssuedCid) → LivesLess (after_batch last s cs now) retired
    begun None = h
    begun (Some c) = record {
      living = λ n. in_issued cs s.living s.issued n numbers ∙ ap (λ (t : Bool). t || (leb s.issued n && ltb n (s.issued + length cs))) (h.living n) ∙ go n (cases_lt n s.issued);
      were_issued = λ n e. let was = h.were_issued n e in omega arith;
      rise = rise_issued cs s.living h.rise;
    }

pub retired_live : (s : OwnIds) (retired : List ℕ) (m : ℕ) → LivesLess s retired → is_wrong s m ≡ false → LivesLess (after_retirement s m) (m ∷ retired)
retired_live s retired m h right = go (is_wrong s m) right
  where
    shift_and : (a b c : Bool) → ((a && not b) && not c) ≡ (a && not (c || b))
    shift_and true true true = refl
    shift_and true true false = refl
    shift_and true false true = refl
    shift_and true false false = refl
    shift_and false b c = refl

    issued_m : m < s.issued
    issued_m = let parts = or_parts (s.id_len == 0) (leb s.issued m) right in leb-false s.issued m parts.1

    was : (n : ℕ) (b : Bool) → (n == m) ≡ b → (b || is_in n retired) ≡ true → n < s.issued
    was n true q e = let same = eqb-true n m q in omega (arith, issued_m)
    was n false q e = h.were_issued n e

    go : (b : Bool) → b ≡ false → LivesLess (let t : OwnIds = cond b s (record s { living = without m s.living }) in t) (m ∷ retired)
    go true e = absurd (let z = e in cc)
    go false e = record {
      living = λ n. in_without s.living m n 0 h.rise ∙ ap (λ (t : Bool). t && not (n == m)) (h.living n) ∙ shift_and (ltb n s.issued) (is_in n retired) (n == m) ∙ ap (λ (t : Bool). ltb n s.issued && not (t || is_in n retired)) (sym (tied n m));
      were_issued = λ n e. was n (n == m) refl (ap (λ (t : Bool). t || is_in n retired) (sym (tied n m)) ∙ e);
      rise = rise_without s.living m 0 h.rise;
    }

pub expired_live : (s : OwnIds) (retired : List ℕ) → LivesLess s retired → LivesLess (after_timeout s) retired
expired_live s retired h = record { living = h.living; were_issued = h.were_issued; rise = h.rise }
