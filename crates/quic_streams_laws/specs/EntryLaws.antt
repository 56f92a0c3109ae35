-- What an entry more, and one less, leave of a map in the order of its keys, whatever that order
-- is.
use Rattle.std.proofs.Common.{◌≡◌, List, [], ◌∷◌, Bool, true, false, cond, Some, None, refl, sym, ap, ◌∙◌}
use Rattle.std.specs.Ordering.{match_ordering, is_eq, ordering_reverse}
use Rattle.std.specs.declared.cmp.Ordering.{Ordering}
use Rattle.std.specs.declared.cmp.Ordering.TheVariants.{Less, Equal, Greater}
use Rattle.std.specs.Cmp.{IsTotalOrder}
use Rattle.std.specs.List.{AllByRecursion}
use Rattle.std.specs.List.Sorted.{IsStrictlySortedBy}
use Rattle.std.specs.BTreeMap.{is_at, insert_entry}
use Rattle.std.specs.Map.{lookup, remove_entry, keys_of}
use Rattle.std.proofs.lemmas.Cmp.{tied_itself, alike_right}

-- what is equal
pub is_equal : (r : Ordering) → is_eq r ≡ true → r ≡ Equal
is_equal Less e = cc
is_equal Equal e = refl
is_equal Greater e = cc

module _ {K : Type 0} (R : K → K → Ordering) (o : IsTotalOrder R) where
  below_all : (n k : K) (ks : List K) → R n k ≡ Less → AllByRecursion (λ y. R k y ≡ Less) ks → AllByRecursion (λ y. R n y ≡ Less) ks
  below_all n k [] is a = tt
  below_all n k (y ∷ ks) is a = (o.trans n k y is a.0, below_all n k ks is a.1)

  alike_all : (n k : K) (ks : List K) → R n k ≡ Equal → AllByRecursion (λ y. R k y ≡ Less) ks → AllByRecursion (λ y. R n y ≡ Less) ks
  alike_all n k [] is a = tt
  alike_all n k (y ∷ ks) is a = (o.congr n k y is ∙ a.0, alike_all n k ks is a.1)

module _ {K X : Type 0} (R : K → K → Ordering) (o : IsTotalOrder R) where
  -- what was put in is there
  pub inserted-here : (es : List (K × X)) (k : K) (v : X) → lookup (is_at (R k)) (insert_entry R es k v) ≡ Some v
  inserted-here [] k v = rw (tied_itself o k) refl
  inserted-here (e ∷ es) k v = go (R k e.0) refl (inserted-here es k v)
    where
      go : (r : Ordering) → R k e.0 ≡ r → lookup (is_at (R k)) (insert_entry R es k v) ≡ Some v → lookup (is_at (R k)) (match_ordering r ((k, v) ∷ e ∷ es) ((e.0, v) ∷ es) (e ∷ insert_entry R es k v)) ≡ Some v
      go Less is ih = rw (tied_itself o k) refl
      go Equal is ih = rw is refl
      go Greater is ih = rw is ih

  -- and elsewhere all is as it was
  pub inserted-apart : (es : List (K × X)) (k : K) (v : X) (q : K) → is_eq (R q k) ≡ false → lookup (is_at (R q)) (insert_entry R es k v) ≡ lookup (is_at (R q)) es
  inserted-apart [] k v q ne = rw ne refl
  inserted-apart (e ∷ es) k v q ne = go (R k e.0) refl (inserted-apart es k v q ne)
    where
      go : (r : Ordering) → R k e.0 ≡ r → lookup (is_at (R q)) (insert_entry R es k v) ≡ lookup (is_at (R q)) es
          → lookup (is_at (R q)) (match_ordering r ((k, v) ∷ e ∷ es) ((e.0, v) ∷ es) (e ∷ insert_entry R es k v)) ≡ lookup (is_at (R q)) (e ∷ es)
      go Less is ih = rw ne refl
      go Equal is ih = let off : is_eq (R q e.0) ≡ false = ap is_eq (sym (alike_right o k e.0 q is)) ∙ ne in rw off refl
      go Greater is ih = ap (λ t. cond (is_at (R q) e.0) (Some e.1) t) ih

  keys_inserted : (P : K → Type 0) (es : List (K × X)) (k : K) (v : X) → P k → AllByRecursion P (keys_of es) → AllByRecursion P (keys_of (insert_entry R es k v))
  keys_inserted P [] k v p a = (p, tt)
  keys_inserted P (e ∷ es) k v p a = go (R k e.0) (keys_inserted P es k v p a.1)
    where
      go : (r : Ordering) → AllByRecursion P (keys_of (insert_entry R es k v)) → AllByRecursion P (keys_of (match_ordering r ((k, v) ∷ e ∷ es) ((e.0, v) ∷ es) (e ∷ insert_entry R es k v)))
      go Less ih = (p, a)
      go Equal ih = a
      go Greater ih = (a.0, ih)

  -- the keys stay in order
  pub sorted-inserted : (es : List (K × X)) (k : K) (v : X) → IsStrictlySortedBy R (keys_of es) → IsStrictlySortedBy R (keys_of (insert_entry R es k v))
  unfolding IsStrictlySortedBy
  sorted-inserted [] k v s = (tt, tt)
  sorted-inserted (e ∷ es) k v s = go (R k e.0) refl (sorted-inserted es k v s.1)
    where
      go : (r : Ordering) → R k e.0 ≡ r → IsStrictlySortedBy R (keys_of (insert_entry R es k v)) → IsStrictlySortedBy R (keys_of (match_ordering r ((k, v) ∷ e ∷ es) ((e.0, v) ∷ es) (e ∷ insert_entry R es k v)))
      go Less is ih = ((is, below_all R o k e.0 (keys_of es) is s.0), s)
      go Equal is ih = s
      go Greater is ih = (keys_inserted (λ y. R e.0 y ≡ Less) es k v (o.antisymm e.0 k ∙ ap ordering_reverse is) s.0, ih)

  -- nothing is below all keys
  none_above : (es : List (K × X)) (k : K) → AllByRecursion (λ y. R k y ≡ Less) (keys_of es) → lookup (is_at (R k)) es ≡ None
  none_above [] k a = refl
  none_above (e ∷ es) k a = rw a.0 (none_above es k a.1)

  -- what was taken out isn't there
  pub removed-here : (es : List (K × X)) (k : K) → IsStrictlySortedBy R (keys_of es) → lookup (is_at (R k)) (remove_entry (is_at (R k)) es) ≡ None
  unfolding IsStrictlySortedBy
  removed-here [] k s = refl
  removed-here (e ∷ es) k s = go (is_at (R k) e.0) refl (removed-here es k s.1)
    where
      go : (b : Bool) → is_at (R k) e.0 ≡ b → lookup (is_at (R k)) (remove_entry (is_at (R k)) es) ≡ None → lookup (is_at (R k)) (cond b es (e ∷ remove_entry (is_at (R k)) es)) ≡ None
      go true is ih = none_above es k (alike_all R o k e.0 (keys_of es) (is_equal (R k e.0) is) s.0)
      go false is ih = rw is ih

  -- and elsewhere all is as it was
  pub removed-apart : (es : List (K × X)) (k q : K) → is_eq (R q k) ≡ false → lookup (is_at (R q)) (remove_entry (is_at (R k)) es) ≡ lookup (is_at (R q)) es
  removed-apart [] k q ne = refl
  removed-apart (e ∷ es) k q ne = go (is_at (R k) e.0) refl (removed-apart es k q ne)
    where
      go : (b : Bool) → is_at (R k) e.0 ≡ b → lookup (is_at (R q)) (remove_entry (is_at (R k)) es) ≡ lookup (is_at (R q)) es → lookup (is_at (R q)) (cond b es (e ∷ remove_entry (is_at (R k)) es)) ≡ lookup (is_at (R q)) (e ∷ es)
      go true is ih = let off : is_eq (R q e.0) ≡ false = ap is_eq (sym (alike_right o k e.0 q (is_equal (R k e.0) is))) ∙ ne in rw off refl
      go false is ih = ap (λ t. cond (is_at (R q) e.0) (Some e.1) t) ih

  keys_removed : (P : K → Type 0) (es : List (K × X)) (k : K) → AllByRecursion P (keys_of es) → AllByRecursion P (keys_of (remove_entry (is_at (R k)) es))
  keys_removed P [] k a = tt
  keys_removed P (e ∷ es) k a = go (is_at (R k) e.0) (keys_removed P es k a.1)
    where
      go : (b : Bool) → AllByRecursion P (keys_of (remove_entry (is_at (R k)) es)) → AllByRecursion P (keys_of (cond b es (e ∷ remove_entry (is_at (R k)) es)))
      go true ih = a.1
      go false ih = (a.0, ih)

  -- the keys stay in order
  pub sorted-removed : (es : List (K × X)) (k : K) → IsStrictlySortedBy R (keys_of es) → IsStrictlySortedBy R (keys_of (remove_entry (is_at (R k)) es))
  unfolding IsStrictlySortedBy
  sorted-removed [] k s = tt
  sorted-removed (e ∷ es) k s = go (is_at (R k) e.0) (sorted-removed es k s.1)
    where
      go : (b : Bool) → IsStrictlySortedBy R (keys_of (remove_entry (is_at (R k)) es)) → IsStrictlySortedBy R (keys_of (cond b es (e ∷ remove_entry (is_at (R k)) es)))
      go true ih = s.1
      go false ih = (keys_removed (λ y. R e.0 y ≡ Less) es k s.0, ih)
