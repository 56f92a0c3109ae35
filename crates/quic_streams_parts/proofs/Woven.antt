-- What a call on the values of one kind makes of those of all kinds.
use Rattle.std.proofs.Common.{◌≡◌, ℕ, suc, zero, ◌+◌, ◌*◌, ◌/◌, ◌%◌, ◌<◌, ◌≤◌, List, [], ◌∷◌, ◌++◌, length, set, get_or, Bool, true, false, cond, Option, Some, None, refl, sym, ap, ◌∙◌, arith, ◌⊎◌, inl, inr}
use Rattle.std.specs.Ordering.{nat_cmp}
use Rattle.std.specs.declared.cmp.Ordering.{Ordering}
use Rattle.std.specs.declared.cmp.Ordering.TheVariants.{Less, Equal, Greater}
use Rattle.std.specs.BTreeMap.{is_at}
use Rattle.std.specs.List.Sorted.{IsStrictlySortedBy}
use Rattle.std.specs.Map.{keys_of}
use Rattle.std.specs.Cmp.{nat_cmp_total, nat_cmp_is, unsigned_tied}
use Rattle.std.proofs.Math.Nat.{div-add-mod, mod-lt}
use Rattle.std.proofs.lemmas.Map.{lookup-none}
use Rattle.std.proofs.lemmas.Map.Keys.{sorted_tail}
use Rattle.std.proofs.lemmas.Map.Entries.{none_below_head}
use Rattle.std.proofs.lemmas.Bool.{eqb-true}
use Rattle.std.proofs.lemmas.Cmp.{ranked}
use Rattle.std.proofs.lemmas.List.{get_or_read, get_or_past, get_or-set_same, get_or-set_other, length-set}
use Rattle.quic_streams_parts.specs.Table.{Table, at, put, without, added}
use Rattle.quic_streams_parts.specs.TableLaws.{nat_cmp-same, at-added, at-apart, at-put, at-put-apart, at-without, at-without-apart, sorted-added, sorted-put, sorted-without}
use Rattle.quic_streams_parts.specs.Woven.{of_kind, with_values, woven}
use Rattle.quic_streams_parts.proofs.Joined.{other}

-- two numbers are one, or aren't
same_or_not : (n k : ℕ) → (n ≡ k) ⊎ (n ≡ k → ⊥)
same_or_not n k = go (is_at (nat_cmp n) k) refl
  where
    apart : false ≡ true → ⊥
    apart e = cc

    go : (b : Bool) → is_at (nat_cmp n) k ≡ b → (n ≡ k) ⊎ (n ≡ k → ⊥)
    go true is = inl (eqb-true n k (sym (unsigned_tied n k) ∙ is))
    go false is = inr (λ e. apart (sym is ∙ ap (λ m. is_at (nat_cmp n) m) (sym e) ∙ itself))
      where
        itself : is_at (nat_cmp n) n ≡ true
        itself = rw (nat_cmp-same n) refl

module _ {A : Type 0} where
  -- the first of two, or else the second
  abbrev or_else : Option A → Option A → Option A
  or_else None o = o
  or_else (Some a) o = Some a

  or_none : (o : Option A) → or_else o None ≡ o
  or_none None = refl
  or_none (Some a) = refl

  none_some : (a : A) → ◌≡◌ {A = Option A} None (Some a) → ⊥
  none_some a e = cc

  some_same : (a b : A) → ◌≡◌ {A = Option A} (Some a) (Some b) → a ≡ b
  some_same a b e = cc

  here : (x : ℕ × A) (xs : Table A) → at (x ∷ xs) x.0 ≡ Some x.1
  here x xs = rw (nat_cmp-same x.0) refl

  beyond : (x : ℕ × A) (xs : Table A) (n : ℕ) → (n ≡ x.0 → ⊥) → at (x ∷ xs) n ≡ at xs n
  beyond x xs n off = rw (other n x.0 off) refl

  -- ---- two maps in order that have the same at each number are one

  -- the first number of one that has what the other has isn't less than the other's
  not_less : (x y : ℕ × A) (xs ys : Table A) → IsStrictlySortedBy nat_cmp (keys_of (y ∷ ys)) → ((n : ℕ) → at (x ∷ xs) n ≡ at (y ∷ ys) n) → nat_cmp x.0 y.0 ≡ Less → ⊥
  not_less x y xs ys o same is =
      let lacks : at (y ∷ ys) x.0 ≡ None = lookup-none (is_at (nat_cmp x.0)) (y ∷ ys) (none_below_head nat_cmp_total x.0 y ys o is) in
      none_some x.1 (sym lacks ∙ sym (same x.0) ∙ here x xs)

  -- behind the first, which has its number alone
  gone : (z : ℕ × A) (zs : Table A) → IsStrictlySortedBy nat_cmp (keys_of (z ∷ zs)) → at zs z.0 ≡ None
  gone z zs q = ap (λ es. at es z.0) (sym (first_out z zs)) ∙ at-without (z ∷ zs) z.0 q
    where
      first_out : (w : ℕ × A) (ws : Table A) → without (w ∷ ws) w.0 ≡ ws
      first_out w ws = rw (nat_cmp-same w.0) refl

  tail_same : (x y : ℕ × A) (xs ys : Table A) → IsStrictlySortedBy nat_cmp (keys_of (x ∷ xs)) → IsStrictlySortedBy nat_cmp (keys_of (y ∷ ys)) → x.0 ≡ y.0 → ((n : ℕ) → at (x ∷ xs) n ≡ at (y ∷ ys) n) → (n : ℕ) → at xs n ≡ at ys n
  tail_same x y xs ys o p e same n = elim (same_or_not n x.0) [
    | inl is ↦ ap (at xs) is ∙ gone x xs o ∙ sym (gone y ys p) ∙ ap (at ys) (sym e ∙ sym is)
    | inr ne ↦ sym (beyond x xs n ne) ∙ same n ∙ beyond y ys n (λ f. ne (f ∙ sym e))
  ]

  same_values : (xs ys : Table A) → IsStrictlySortedBy nat_cmp (keys_of xs) → IsStrictlySortedBy nat_cmp (keys_of ys) → ((n : ℕ) → at xs n ≡ at ys n) → xs ≡ ys
  same_values [] [] o p same = refl
  same_values [] (y ∷ ys) o p same = absurd (none_some y.1 (same y.0 ∙ here y ys))
  same_values (x ∷ xs) [] o p same = absurd (none_some x.1 (sym (same x.0) ∙ here x xs))
  same_values (x ∷ xs) (y ∷ ys) o p same = go (nat_cmp x.0 y.0) refl (λ e. same_values xs ys (sorted_tail nat_cmp x.0 (keys_of xs) o) (sorted_tail nat_cmp y.0 (keys_of ys) p) (tail_same x y xs ys o p e same))
    where
      go : (r : Ordering) → nat_cmp x.0 y.0 ≡ r → (x.0 ≡ y.0 → xs ≡ ys) → x ∷ xs ≡ y ∷ ys
      go Less is tails = absurd (not_less x y xs ys p same is)
      go Greater is tails = absurd (not_less y x ys xs o (λ n. sym (same n)) (sym (nat_cmp_is y.0 x.0 Less (ranked x.0 y.0 Greater (sym is)))))
      go Equal is tails =
          let e : x.0 ≡ y.0 = ranked x.0 y.0 Equal (sym is) in
          let v : x.1 ≡ y.1 = some_same x.1 y.1 (sym (here x xs) ∙ same x.0 ∙ ap (at (y ∷ ys)) e ∙ here y ys) in
          ap (λ n. (n, x.1) ∷ xs) e ∙ ap (λ a. (y.0, a) ∷ xs) v ∙ ap (λ zs. y ∷ zs) (tails e)

  -- ---- what all kinds have

  at-with_values : (xs ys : Table A) (n : ℕ) → at (with_values xs ys) n ≡ or_else (at xs n) (at ys n)
  at-with_values [] ys n = refl
  at-with_values (x ∷ xs) ys n = elim (same_or_not n x.0) [
    | inl is ↦ ap (at (with_values (x ∷ xs) ys)) is ∙ at-added (with_values xs ys) x.0 x.1 ∙ ap (λ o. or_else o (at ys n)) (sym (ap (at (x ∷ xs)) is ∙ here x xs))
    | inr ne ↦ at-apart (with_values xs ys) x.0 x.1 n ne ∙ at-with_values xs ys n ∙ ap (λ o. or_else o (at ys n)) (sym (beyond x xs n ne))
  ]

  sorted-with_values : (xs ys : Table A) → IsStrictlySortedBy nat_cmp (keys_of ys) → IsStrictlySortedBy nat_cmp (keys_of (with_values xs ys))
  sorted-with_values [] ys o = o
  sorted-with_values (x ∷ xs) ys o = sorted-added (with_values xs ys) x.0 x.1 (sorted-with_values xs ys o)

  -- they are in order
  pub sorted-woven : (k : ℕ) (ts : List (Table A)) → IsStrictlySortedBy nat_cmp (keys_of (woven k ts))
  unfolding IsStrictlySortedBy
  sorted-woven k [] = tt
  sorted-woven k (t ∷ ts) = sorted-with_values (of_kind k t) (woven (k + 1) ts) (sorted-woven (k + 1) ts)

  of_kind-in : (k : ℕ) (t : Table A) (i : ℕ) → at (of_kind k t) (4 * i + k) ≡ at t i
  of_kind-in k [] i = refl
  of_kind-in k (x ∷ t) i = elim (same_or_not i x.0) [
    | inl is ↦ ap (λ m. at (of_kind k (x ∷ t)) (4 * m + k)) is ∙ here (4 * x.0 + k, x.1) (of_kind k t) ∙ sym (ap (at (x ∷ t)) is ∙ here x t)
    | inr ne ↦ beyond (4 * x.0 + k, x.1) (of_kind k t) (4 * i + k) (λ e. ne (omega (arith, e))) ∙ of_kind-in k t i ∙ sym (beyond x t i ne)
  ]

  of_kind-out : (k : ℕ) (t : Table A) (n : ℕ) → ((i : ℕ) → n ≡ 4 * i + k → ⊥) → at (of_kind k t) n ≡ None
  of_kind-out k [] n out = refl
  of_kind-out k (x ∷ t) n out = beyond (4 * x.0 + k, x.1) (of_kind k t) n (out x.0) ∙ of_kind-out k t n out

  -- none of a kind before the first
  woven-before : (k : ℕ) (ts : List (Table A)) (i j : ℕ) → j < k → k + length ts ≤ j + 4 → at (woven k ts) (4 * i + j) ≡ None
  woven-before k [] i j less few = refl
  woven-before k (t ∷ ts) i j less few =
      at-with_values (of_kind k t) (woven (k + 1) ts) (4 * i + j)
      ∙ ap (λ o. or_else o (at (woven (k + 1) ts) (4 * i + j))) (of_kind-out k t (4 * i + j) (λ m e. omega (arith, e, less, few)))
      ∙ woven-before (k + 1) ts i j (omega (arith, less)) (omega (arith, few))

  -- of one kind
  at-woven : (k : ℕ) (ts : List (Table A)) (j i : ℕ) → length ts ≤ 4 → j < 4 → at (woven k ts) (4 * i + (k + j)) ≡ at (get_or ts j []) i
  at-woven k [] j i few less = refl
  at-woven k (t ∷ ts) zero i few less =
      let e : 4 * i + (k + zero) ≡ 4 * i + k = omega arith in
      ap (at (woven k (t ∷ ts))) e
      ∙ at-with_values (of_kind k t) (woven (k + 1) ts) (4 * i + k)
      ∙ ap (λ o. or_else (at (of_kind k t) (4 * i + k)) o) (woven-before (k + 1) ts i k (omega arith) (omega (arith, few)))
      ∙ or_none (at (of_kind k t) (4 * i + k))
      ∙ of_kind-in k t i
  at-woven k (t ∷ ts) (suc j) i few less =
      let e : 4 * i + (k + suc j) ≡ 4 * i + (k + 1 + j) = omega arith in
      at-with_values (of_kind k t) (woven (k + 1) ts) (4 * i + (k + suc j))
      ∙ ap (λ o. or_else o (at (woven (k + 1) ts) (4 * i + (k + suc j)))) (of_kind-out k t (4 * i + (k + suc j)) (λ m f. omega (arith, f, less)))
      ∙ ap (at (woven (k + 1) ts)) e
      ∙ at-woven (k + 1) ts j i (omega (arith, few)) (omega (arith, less))

  -- a kind more of which there is none
  woven-more : (k : ℕ) (ts : List (Table A)) → woven k (ts ++ [] ∷ []) ≡ woven k ts
  woven-more k [] = refl
  woven-more k (t ∷ ts) = ap (with_values (of_kind k t)) (woven-more (k + 1) ts)

  pub kind_more : (ts new : List (Table A)) → new ≡ ts ++ [] ∷ [] → woven 0 new ≡ woven 0 ts
  kind_more ts new is = ap (woven 0) is ∙ woven-more 0 ts

  module _ (ts : List (Table A)) (few : length ts ≤ 4) (n : ℕ) where
    parts : n ≡ 4 * (n / 4) + n % 4
    parts = sym (div-add-mod n 4)

    none_before : n % 4 ≡ 0 + n % 4
    none_before = omega arith

    -- what a number has
    found : at (woven 0 ts) n ≡ at (get_or ts (n % 4) []) (n / 4)
    found = ap (at (woven 0 ts)) (parts ∙ ap (λ r. 4 * (n / 4) + r) none_before) ∙ at-woven 0 ts (n % 4) (n / 4) few (mod-lt n (omega arith))

  module _ (ts : List (Table A)) (few : length ts ≤ 4) (n : ℕ) (t : Table A) (is : t ≡ get_or ts (n % 4) []) (l : n % 4 < length ts) where
    -- one kind changes at a number
    changed : (u : Table A) (new : Table A) → IsStrictlySortedBy nat_cmp (keys_of new)
        → at new n ≡ at u (n / 4) → ((m : ℕ) → (m ≡ n → ⊥) → at new m ≡ at (woven 0 ts) m) → ((i : ℕ) → (i ≡ n / 4 → ⊥) → at u i ≡ at t i)
        → woven 0 (set ts (n % 4) u) ≡ new
    changed u new o there elsewhere other_ones = same_values (woven 0 us) new (sorted-woven 0 us) o each
      where
        us : List (Table A)
        us = set ts (n % 4) u

        each : (m : ℕ) → at (woven 0 us) m ≡ at new m
        each m = found us (let len = length-set ts (n % 4) u in omega (arith, len, few)) m ∙ elim (same_or_not (m % 4) (n % 4)) [
          | inr ne ↦ ap (λ r. at r (m / 4)) (get_or-set_other ts (n % 4) (m % 4) u [] ne) ∙ sym (found ts few m) ∙ sym (elsewhere m (λ e. ne (ap (λ k. k % 4) e)))
          | inl e ↦ ap (λ r. at r (m / 4)) (ap (λ k. get_or us k []) e ∙ get_or-set_same ts (n % 4) u [] l) ∙ elim (same_or_not (m / 4) (n / 4)) [
            | inl f ↦ ap (at u) f ∙ sym there ∙ ap (at new) (parts ts few n ∙ ap (λ k. 4 * k + n % 4) (sym f) ∙ ap (λ k. 4 * (m / 4) + k) (sym e) ∙ sym (parts ts few m))
            | inr ne ↦ other_ones (m / 4) ne ∙ ap (λ r. at r (m / 4)) (is ∙ ap (λ k. get_or ts k []) (sym e)) ∙ sym (found ts few m) ∙ sym (elsewhere m (λ g. ne (ap (λ k. k / 4) g)))
          ]
        ]

    there_is : at (woven 0 ts) n ≡ at t (n / 4)
    there_is = found ts few n ∙ ap (λ r. at r (n / 4)) (sym is)

    kind_added : (v : A) → woven 0 (set ts (n % 4) (added t (n / 4) v)) ≡ added (woven 0 ts) n v
    kind_added v = changed (added t (n / 4) v) (added (woven 0 ts) n v) (sorted-added (woven 0 ts) n v (sorted-woven 0 ts))
        (at-added (woven 0 ts) n v ∙ sym (at-added t (n / 4) v)) (λ m ne. at-apart (woven 0 ts) n v m ne) (λ i ne. at-apart t (n / 4) v i ne)

    kind_put : (h v : A) → at t (n / 4) ≡ Some h → woven 0 (set ts (n % 4) (put t (n / 4) v)) ≡ put (woven 0 ts) n v
    kind_put h v e = changed (put t (n / 4) v) (put (woven 0 ts) n v) (sorted-put (woven 0 ts) n v (sorted-woven 0 ts))
        (at-put (woven 0 ts) n h v (there_is ∙ e) ∙ sym (at-put t (n / 4) h v e)) (λ m ne. at-put-apart (woven 0 ts) n v m ne) (λ i ne. at-put-apart t (n / 4) v i ne)

    kind_without : at (without t (n / 4)) (n / 4) ≡ None → woven 0 (set ts (n % 4) (without t (n / 4))) ≡ without (woven 0 ts) n
    kind_without none = changed (without t (n / 4)) (without (woven 0 ts) n) (sorted-without (woven 0 ts) n (sorted-woven 0 ts))
        (at-without (woven 0 ts) n (sorted-woven 0 ts) ∙ sym none) (λ m ne. at-without-apart (woven 0 ts) n m ne) (λ i ne. at-without-apart t (n / 4) i ne)

  -- ---- the same, where the kind was looked up

  module _ (ts : List (Table A)) (few : length ts ≤ 4) (n k : ℕ) (e : k ≡ n % 4) where
    -- none is there
    pub found_past : length ts ≤ k → at (woven 0 ts) n ≡ None
    found_past past = found ts few n ∙ ap (λ r. at r (n / 4)) (get_or_past ts (n % 4) [] (omega (arith, e, past)))

    module _ (t : Table A) (l : k < length ts) (is : t ≡ get_or ts k t) where
      same_kind : t ≡ get_or ts (n % 4) []
      same_kind = get_or_read ts k t l is [] ∙ ap (λ j. get_or ts j []) e

      in_range : n % 4 < length ts
      in_range = omega (arith, e, l)

      pub found_at : at (woven 0 ts) n ≡ at t (n / 4)
      found_at = found ts few n ∙ ap (λ r. at r (n / 4)) (sym same_kind)

      pub one_added : (v : A) → woven 0 (set ts k (added t (n / 4) v)) ≡ added (woven 0 ts) n v
      one_added v = ap (λ j. woven 0 (set ts j (added t (n / 4) v))) e ∙ kind_added ts few n t same_kind in_range v

      pub one_put : (h v : A) → at t (n / 4) ≡ Some h → woven 0 (set ts k (put t (n / 4) v)) ≡ put (woven 0 ts) n v
      one_put h v f = ap (λ j. woven 0 (set ts j (put t (n / 4) v))) e ∙ kind_put ts few n t same_kind in_range h v f

      pub one_without : (u : Table A) → u ≡ without t (n / 4) → at u (n / 4) ≡ None → woven 0 (set ts k u) ≡ without (woven 0 ts) n
      one_without u f none = ap (λ r. woven 0 (set ts k r)) f ∙ ap (λ j. woven 0 (set ts j (without t (n / 4)))) e ∙ kind_without ts few n t same_kind in_range (ap (λ r. at r (n / 4)) (sym f) ∙ none)
