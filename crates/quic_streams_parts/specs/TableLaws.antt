-- What changes of a map from stream ids come to, one after another.
use Rattle.std.proofs.Common.{◌≡◌, ℕ, List, [], ◌∷◌, Bool, true, false, cond, Some, None, refl, sym, ap, ◌∙◌, subst, arith}
use Rattle.std.specs.Ordering.{nat_cmp, match_ordering, is_eq}
use Rattle.std.specs.declared.cmp.Ordering.{Ordering}
use Rattle.std.specs.declared.cmp.Ordering.TheVariants.{Less, Equal, Greater}
use Rattle.std.specs.Cmp.{nat_cmp_total, nat_cmp_is, unsigned_tied}
use Rattle.std.specs.List.{AllByRecursion}
use Rattle.std.specs.BTreeMap.{is_at}
use Rattle.std.specs.List.Sorted.{IsStrictlySortedBy}
use Rattle.std.specs.Map.{remove_entry, keys_of}
use Rattle.std.proofs.lemmas.Map.{lookup-none, keys-set_value}
use Rattle.std.proofs.lemmas.Map.Keys.{sorted_head, sorted_tail}
use Rattle.std.proofs.lemmas.Map.Entries.{none_below_head}
use Rattle.std.proofs.lemmas.Bool.{eq-eqb, eqb-true, le-ltb, ne_eqb}
use Rattle.std.proofs.lemmas.Cmp.{ranked}
use Rattle.quic_streams_parts.specs.Table.{Table, at, put, without, added}

-- a number is equal to itself
pub nat_cmp-same : (n : ℕ) → nat_cmp n n ≡ Equal
nat_cmp-same n = rw (le-ltb n n (omega arith), eq-eqb n n refl) refl

-- above a number: the other way round
turned : (n k : ℕ) → nat_cmp n k ≡ Greater → nat_cmp k n ≡ Less
turned n k is = sym (nat_cmp_is k n Less (ranked n k Greater (sym is)))

-- what is below the first is below the others
below_all : (n k : ℕ) (ks : List ℕ) → nat_cmp n k ≡ Less → AllByRecursion (λ y. nat_cmp k y ≡ Less) ks → AllByRecursion (λ y. nat_cmp n y ≡ Less) ks
below_all n k [] is a = tt
below_all n k (y ∷ ks) is a = (nat_cmp_total.trans n k y is a.0, below_all n k ks is a.1)

module _ {A : Type 0} where
  none_some : (v : A) → None ≡ Some v → ⊥
  none_some v e = cc

  -- a value that is added where one was is put there
  pub added-known : (es : Table A) (id : ℕ) (h v : A) → IsStrictlySortedBy nat_cmp (keys_of es) → at es id ≡ Some h → added es id v ≡ put es id v
  added-known [] id h v o e = absurd (none_some h e)
  added-known (x ∷ es) id h v o e = go (nat_cmp id x.0) refl e (added-known es id h v (sorted_tail nat_cmp x.0 (keys_of es) o))
    where
      go : (r : Ordering) → nat_cmp id x.0 ≡ r → cond (is_eq r) (Some x.1) (at es id) ≡ Some h → (at es id ≡ Some h → added es id v ≡ put es id v) → match_ordering r ((id, v) ∷ x ∷ es) ((x.0, v) ∷ es) (x ∷ added es id v) ≡ cond (is_eq r) ((x.0, v) ∷ es) (x ∷ put es id v)
      go Less is f ih = absurd (none_some h (sym (lookup-none (is_at (nat_cmp id)) (x ∷ es) (none_below_head nat_cmp_total id x es o is)) ∙ e))
      go Equal is f ih = refl
      go Greater is f ih = ap (λ t. x ∷ t) (ih f)

  -- what is added twice is added once
  pub added-added : (es : Table A) (id : ℕ) (u v : A) → added (added es id u) id v ≡ added es id v
  added-added [] id u v = rw (nat_cmp-same id) refl
  added-added (x ∷ es) id u v = go (nat_cmp id x.0) refl (added-added es id u v)
    where
      go : (r : Ordering) → nat_cmp id x.0 ≡ r → added (added es id u) id v ≡ added es id v → added (match_ordering r ((id, u) ∷ x ∷ es) ((x.0, u) ∷ es) (x ∷ added es id u)) id v ≡ match_ordering r ((id, v) ∷ x ∷ es) ((x.0, v) ∷ es) (x ∷ added es id v)
      go Less is ih = rw (nat_cmp-same id) refl
      go Equal is ih = rw is refl
      go Greater is ih = rw is (ap (λ t. x ∷ t) ih)

  -- what stands first is there
  pub at-first : (es : Table A) (id : ℕ) (v : A) → at ((id, v) ∷ es) id ≡ Some v
  at-first es id v = rw (nat_cmp-same id) refl

  -- what was added is there
  pub at-added : (es : Table A) (id : ℕ) (v : A) → at (added es id v) id ≡ Some v
  at-added [] id v = rw (nat_cmp-same id) refl
  at-added (x ∷ es) id v = go (nat_cmp id x.0) refl (at-added es id v)
    where
      go : (r : Ordering) → nat_cmp id x.0 ≡ r → at (added es id v) id ≡ Some v → at (match_ordering r ((id, v) ∷ x ∷ es) ((x.0, v) ∷ es) (x ∷ added es id v)) id ≡ Some v
      go Less is ih = rw (nat_cmp-same id) refl
      go Equal is ih = rw is refl
      go Greater is ih = rw is ih

  -- what is changed and then taken out is taken out
  pub without-put : (es : Table A) (id : ℕ) (v : A) → without (put es id v) id ≡ without es id
  without-put [] id v = refl
  without-put (x ∷ es) id v = go (is_at (nat_cmp id) x.0) refl (without-put es id v)
    where
      go : (b : Bool) → is_at (nat_cmp id) x.0 ≡ b → without (put es id v) id ≡ without es id → remove_entry (is_at (nat_cmp id)) (cond b ((x.0, v) ∷ es) (x ∷ put es id v)) ≡ cond b es (x ∷ without es id)
      go true is ih = rw is refl
      go false is ih = rw is (ap (λ t. x ∷ t) ih)

  -- nothing is taken out where nothing is
  pub without-unknown : (es : Table A) (id : ℕ) → at es id ≡ None → without es id ≡ es
  without-unknown [] id e = refl
  without-unknown (x ∷ es) id e = go (is_at (nat_cmp id) x.0) e (without-unknown es id)
    where
      go : (b : Bool) → cond b (Some x.1) (at es id) ≡ None → (at es id ≡ None → without es id ≡ es) → cond b es (x ∷ without es id) ≡ x ∷ es
      go true h ih = absurd (none_some x.1 (sym h))
      go false h ih = ap (λ t. x ∷ t) (ih h)

  -- what is added where nothing was, and taken out again, leaves what was
  pub without-added : (es : Table A) (id : ℕ) (v : A) → at es id ≡ None → without (added es id v) id ≡ es
  without-added [] id v e = rw (nat_cmp-same id) refl
  without-added (x ∷ es) id v e = go (nat_cmp id x.0) refl e (without-added es id v)
    where
      go : (r : Ordering) → nat_cmp id x.0 ≡ r → cond (is_eq r) (Some x.1) (at es id) ≡ None → (at es id ≡ None → without (added es id v) id ≡ es) → without (match_ordering r ((id, v) ∷ x ∷ es) ((x.0, v) ∷ es) (x ∷ added es id v)) id ≡ x ∷ es
      go Less is f ih = rw (nat_cmp-same id) refl
      go Equal is f ih = absurd (none_some x.1 (sym f))
      go Greater is f ih = rw is (ap (λ t. x ∷ t) (ih f))

  -- elsewhere an added value changes nothing
  pub at-apart : (es : Table A) (id : ℕ) (v : A) (q : ℕ) → (q ≡ id → ⊥) → at (added es id v) q ≡ at es q
  at-apart [] id v q ne = rw (unsigned_tied q id ∙ ne_eqb q id ne) refl
  at-apart (x ∷ es) id v q ne = go (nat_cmp id x.0) refl (at-apart es id v q ne)
    where
      go : (r : Ordering) → nat_cmp id x.0 ≡ r → at (added es id v) q ≡ at es q → at (match_ordering r ((id, v) ∷ x ∷ es) ((x.0, v) ∷ es) (x ∷ added es id v)) q ≡ at (x ∷ es) q
      go Less is ih = rw (unsigned_tied q id ∙ ne_eqb q id ne) refl
      go Equal is ih =
          let same : id ≡ x.0 = ranked id x.0 Equal (sym is) in
          let off : is_at (nat_cmp q) x.0 ≡ false = unsigned_tied q x.0 ∙ ne_eqb q x.0 (λ e. ne (e ∙ sym same)) in
          rw off refl
      go Greater is ih = ap (λ t. cond (is_at (nat_cmp q) x.0) (Some x.1) t) ih

  -- what was unknown stays so where a value is put
  pub unknown-put : (es : Table A) (id : ℕ) (v : A) (q : ℕ) → at es q ≡ None → at (put es id v) q ≡ None
  unknown-put [] id v q e = e
  unknown-put (x ∷ es) id v q e = go (is_at (nat_cmp id) x.0) (is_at (nat_cmp q) x.0) e (unknown-put es id v q) refl
    where
      go : (a b : Bool) → cond b (Some x.1) (at es q) ≡ None → (at es q ≡ None → at (put es id v) q ≡ None) → is_at (nat_cmp q) x.0 ≡ b → at (cond a ((x.0, v) ∷ es) (x ∷ put es id v)) q ≡ None
      go a true h ih is = absurd (none_some x.1 (sym h))
      go true false h ih is = rw is h
      go false false h ih is = rw is (ih h)

  -- a fact of each id holds of one that is added
  pub ids-added : (P : ℕ → Type 0) (es : Table A) (id : ℕ) (v : A) → P id → AllByRecursion P (keys_of es) → AllByRecursion P (keys_of (added es id v))
  ids-added P [] id v p a = (p, tt)
  ids-added P (x ∷ es) id v p a = go (nat_cmp id x.0) (ids-added P es id v p a.1)
    where
      go : (r : Ordering) → AllByRecursion P (keys_of (added es id v)) → AllByRecursion P (keys_of (match_ordering r ((id, v) ∷ x ∷ es) ((x.0, v) ∷ es) (x ∷ added es id v)))
      go Less ih = (p, a)
      go Equal ih = a
      go Greater ih = (a.0, ih)

  -- what was unknown stays so where a value is taken out
  pub unknown-without : (es : Table A) (id : ℕ) (q : ℕ) → at es q ≡ None → at (without es id) q ≡ None
  unknown-without [] id q e = e
  unknown-without (x ∷ es) id q e = go (is_at (nat_cmp id) x.0) (is_at (nat_cmp q) x.0) e (unknown-without es id q) refl
    where
      go : (a b : Bool) → cond b (Some x.1) (at es q) ≡ None → (at es q ≡ None → at (without es id) q ≡ None) → is_at (nat_cmp q) x.0 ≡ b → at (cond a es (x ∷ without es id)) q ≡ None
      go a true h ih is = absurd (none_some x.1 (sym h))
      go true false h ih is = h
      go false false h ih is = rw is (ih h)

  -- a fact of each id holds of those that are left
  pub ids-without : (P : ℕ → Type 0) (es : Table A) (id : ℕ) → AllByRecursion P (keys_of es) → AllByRecursion P (keys_of (without es id))
  ids-without P [] id a = tt
  ids-without P (x ∷ es) id a = go (is_at (nat_cmp id) x.0) (ids-without P es id a.1)
    where
      go : (b : Bool) → AllByRecursion P (keys_of (without es id)) → AllByRecursion P (keys_of (cond b es (x ∷ without es id)))
      go true ih = a.1
      go false ih = (a.0, ih)

  -- what was put is there
  pub at-put : (es : Table A) (id : ℕ) (h v : A) → at es id ≡ Some h → at (put es id v) id ≡ Some v
  at-put [] id h v e = absurd (none_some h e)
  at-put (x ∷ es) id h v e = go (is_at (nat_cmp id) x.0) refl e (at-put es id h v)
    where
      go : (b : Bool) → is_at (nat_cmp id) x.0 ≡ b → cond b (Some x.1) (at es id) ≡ Some h → (at es id ≡ Some h → at (put es id v) id ≡ Some v) → at (cond b ((x.0, v) ∷ es) (x ∷ put es id v)) id ≡ Some v
      go true is f ih = rw is refl
      go false is f ih = rw is (ih f)

  -- elsewhere a value that is put changes nothing
  pub at-put-apart : (es : Table A) (id : ℕ) (v : A) (q : ℕ) → (q ≡ id → ⊥) → at (put es id v) q ≡ at es q
  at-put-apart [] id v q ne = refl
  at-put-apart (x ∷ es) id v q ne = go (is_at (nat_cmp id) x.0) refl (at-put-apart es id v q ne)
    where
      go : (b : Bool) → is_at (nat_cmp id) x.0 ≡ b → at (put es id v) q ≡ at es q → at (cond b ((x.0, v) ∷ es) (x ∷ put es id v)) q ≡ at (x ∷ es) q
      go true is ih =
          let same : id ≡ x.0 = eqb-true id x.0 (sym (unsigned_tied id x.0) ∙ is) in
          let off : is_at (nat_cmp q) x.0 ≡ false = unsigned_tied q x.0 ∙ ne_eqb q x.0 (λ e. ne (e ∙ sym same)) in
          rw off refl
      go false is ih = ap (λ t. cond (is_at (nat_cmp q) x.0) (Some x.1) t) ih

  -- nothing stands below all ids
  none_above : (es : Table A) (id : ℕ) → AllByRecursion (λ y. nat_cmp id y ≡ Less) (keys_of es) → at es id ≡ None
  none_above [] id a = refl
  none_above (x ∷ es) id a = rw a.0 (none_above es id a.1)

  -- nothing is left where a value is taken out
  pub at-without : (es : Table A) (id : ℕ) → IsStrictlySortedBy nat_cmp (keys_of es) → at (without es id) id ≡ None
  at-without [] id o = refl
  at-without (x ∷ es) id o = go (is_at (nat_cmp id) x.0) refl (at-without es id (sorted_tail nat_cmp x.0 (keys_of es) o))
    where
      go : (b : Bool) → is_at (nat_cmp id) x.0 ≡ b → at (without es id) id ≡ None → at (cond b es (x ∷ without es id)) id ≡ None
      go true is ih =
          let same : id ≡ x.0 = eqb-true id x.0 (sym (unsigned_tied id x.0) ∙ is) in
          rw same (none_above es x.0 (sorted_head nat_cmp x.0 (keys_of es) o))
      go false is ih = rw is ih

  -- elsewhere a value that is taken out changes nothing
  pub at-without-apart : (es : Table A) (id q : ℕ) → (q ≡ id → ⊥) → at (without es id) q ≡ at es q
  at-without-apart [] id q ne = refl
  at-without-apart (x ∷ es) id q ne = go (is_at (nat_cmp id) x.0) refl (at-without-apart es id q ne)
    where
      go : (b : Bool) → is_at (nat_cmp id) x.0 ≡ b → at (without es id) q ≡ at es q → at (cond b es (x ∷ without es id)) q ≡ at (x ∷ es) q
      go true is ih =
          let same : id ≡ x.0 = eqb-true id x.0 (sym (unsigned_tied id x.0) ∙ is) in
          let off : is_at (nat_cmp q) x.0 ≡ false = unsigned_tied q x.0 ∙ ne_eqb q x.0 (λ e. ne (e ∙ sym same)) in
          rw off refl
      go false is ih = ap (λ t. cond (is_at (nat_cmp q) x.0) (Some x.1) t) ih

  -- ---- ids stay in order

  -- where a value is put
  pub sorted-put : (es : Table A) (id : ℕ) (v : A) → IsStrictlySortedBy nat_cmp (keys_of es) → IsStrictlySortedBy nat_cmp (keys_of (put es id v))
  sorted-put es id v o = subst (IsStrictlySortedBy nat_cmp) (sym (keys-set_value (is_at (nat_cmp id)) es v)) o

  -- where a value is added
  pub sorted-added : (es : Table A) (id : ℕ) (v : A) → IsStrictlySortedBy nat_cmp (keys_of es) → IsStrictlySortedBy nat_cmp (keys_of (added es id v))
  unfolding IsStrictlySortedBy
  sorted-added [] id v o = (tt, tt)
  sorted-added (x ∷ es) id v o = go (nat_cmp id x.0) refl (sorted-added es id v o.1)
    where
      go : (r : Ordering) → nat_cmp id x.0 ≡ r → IsStrictlySortedBy nat_cmp (keys_of (added es id v)) → IsStrictlySortedBy nat_cmp (keys_of (match_ordering r ((id, v) ∷ x ∷ es) ((x.0, v) ∷ es) (x ∷ added es id v)))
      go Less is ih = ((is, below_all id x.0 (keys_of es) is o.0), o)
      go Equal is ih = o
      go Greater is ih = (ids-added (λ y. nat_cmp x.0 y ≡ Less) es id v (turned id x.0 is) o.0, ih)

  -- where a value is taken out
  pub sorted-without : (es : Table A) (id : ℕ) → IsStrictlySortedBy nat_cmp (keys_of es) → IsStrictlySortedBy nat_cmp (keys_of (without es id))
  unfolding IsStrictlySortedBy
  sorted-without [] id o = tt
  sorted-without (x ∷ es) id o = go (is_at (nat_cmp id) x.0) (sorted-without es id o.1)
    where
      go : (b : Bool) → IsStrictlySortedBy nat_cmp (keys_of (without es id)) → IsStrictlySortedBy nat_cmp (keys_of (cond b es (x ∷ without es id)))
      go true ih = o.1
      go false ih = (ids-without (λ y. nat_cmp x.0 y ≡ Less) es id o.0, ih)
