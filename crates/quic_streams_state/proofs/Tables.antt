-- What two changes of one half come to.
use Rattle.std.proofs.Common.{◌≡◌, ℕ, ◌+◌, ◌∷◌, [], Bool, true, false, cond, Option, Some, None, refl, sym, ap, subst, ◌∙◌, arith}
use Rattle.std.specs.List.{sum_by}
use Rattle.std.specs.Ordering.{nat_cmp, match_ordering}
use Rattle.std.specs.declared.cmp.Ordering.{Ordering}
use Rattle.std.specs.declared.cmp.Ordering.TheVariants.{Less, Equal, Greater}
use Rattle.std.specs.BTreeMap.{is_at}
use Rattle.std.specs.Map.{values_of}
use Rattle.std.specs.Option.{unwrap_or, option_map}
use Rattle.std.proofs.lemmas.Map.Entries.{sum_by-set_value, sum_by-remove_entry}
use Rattle.quic_wire_core.specs.declared.stream_id.Side.{Side}
use Rattle.quic_streams_parts.specs.Table.{Table, at, put, added, without}
use Rattle.quic_streams_parts.specs.TableLaws.{nat_cmp-same, at-put, at-added, without-added}
use Rattle.quic_streams_halves.specs.Halves.{Halves, placed, with_half, changed}

module _ {A : Type 0} where
  -- a value that is put twice is put once
  pub put-put : (es : Table A) (id : ℕ) (u v : A) → put (put es id u) id v ≡ put es id v
  put-put [] id u v = refl
  put-put (x ∷ es) id u v = go (is_at (nat_cmp id) x.0) refl (put-put es id u v)
    where
      go : (b : Bool) → is_at (nat_cmp id) x.0 ≡ b → put (put es id u) id v ≡ put es id v → put (cond b ((x.0, u) ∷ es) (x ∷ put es id u)) id v ≡ cond b ((x.0, v) ∷ es) (x ∷ put es id v)
      go true is ih = rw is refl
      go false is ih = rw is (ap (λ t. x ∷ t) ih)

  -- a value that is added and then changed is added so
  pub put-added : (es : Table A) (id : ℕ) (u v : A) → put (added es id u) id v ≡ added es id v
  put-added [] id u v = rw (nat_cmp-same id) refl
  put-added (x ∷ es) id u v = go (nat_cmp id x.0) refl (put-added es id u v)
    where
      go : (r : Ordering) → nat_cmp id x.0 ≡ r → put (added es id u) id v ≡ added es id v → put (match_ordering r ((id, u) ∷ x ∷ es) ((x.0, u) ∷ es) (x ∷ added es id u)) id v ≡ match_ordering r ((id, v) ∷ x ∷ es) ((x.0, v) ∷ es) (x ∷ added es id v)
      go Less is ih = rw (nat_cmp-same id) refl
      go Equal is ih = rw is refl
      go Greater is ih = rw is (ap (λ t. x ∷ t) ih)

  -- a half that takes two values takes the second
  pub with_half-twice : (side : Side) (hs : Halves A) (id : ℕ) (u v : A) → with_half side (with_half side hs id u) id v ≡ with_half side hs id v
  with_half-twice side hs id u v = go (at hs.live id) refl
    where
      go : (o : Option A) → at hs.live id ≡ o → with_half side (placed o side hs id u) id v ≡ placed o side hs id v
      go (Some h) is = rw (at-put hs.live id h u is, put-put hs.live id u v) refl
      go None is = rw (at-added hs.live id u, put-added hs.live id u v) refl

  -- the value that a half takes
  pub at-with_half : (side : Side) (hs : Halves A) (id : ℕ) (u : A) → at (with_half side hs id u).live id ≡ Some u
  at-with_half side hs id u = go (at hs.live id) refl
    where
      go : (o : Option A) → at hs.live id ≡ o → at (placed o side hs id u).live id ≡ Some u
      go (Some h) is = at-put hs.live id h u is
      go None is = at-added hs.live id u

  -- a sum after a value is added where none was
  pub sum-added : (f : A → ℕ) (es : Table A) (id : ℕ) (v : A) → at es id ≡ None → sum_by f (values_of (added es id v)) ≡ sum_by f (values_of es) + f v
  sum-added f es id v none =
      let P : Option A → Type 0 = λ r. sum_by f (values_of (without (added es id v) id)) + unwrap_or (option_map f r) 0 ≡ sum_by f (values_of (added es id v)) in
      let parts : P (Some v) = subst P (at-added es id v) (sum_by-remove_entry f (is_at (nat_cmp id)) (added es id v)) in
      let Q : Table A → Type 0 = λ xs. sum_by f (values_of xs) + f v ≡ sum_by f (values_of (added es id v)) in
      sym (subst Q (without-added es id v none) parts)

  -- a half in use that takes a value which then changes
  pub changed-with_half : (f : A → A) (side : Side) (hs : Halves A) (id : ℕ) (h u : A) → at hs.live id ≡ Some h → changed f (with_half side hs id u) id ≡ with_half side hs id (f u)
  changed-with_half f side hs id h u found = rw (found, at-put hs.live id h u found, put-put hs.live id u (f u)) refl

  -- a sum stays where a half takes a value that counts as much, or comes into use with one that
  -- doesn't count
  pub sum-with_half : (f : A → ℕ) (side : Side) (hs : Halves A) (id : ℕ) (h v : A) → at hs.live id ≡ Some h → f v ≡ f h → sum_by f (values_of (with_half side hs id v).live) ≡ sum_by f (values_of hs.live)
  sum-with_half f side hs id h v found same = rw found (omega (arith, sum_by-set_value f (is_at (nat_cmp id)) hs.live h v found))

  pub sum-fresh : (f : A → ℕ) (side : Side) (hs : Halves A) (id : ℕ) (v : A) → at hs.live id ≡ None → f v ≡ 0 → sum_by f (values_of (with_half side hs id v).live) ≡ sum_by f (values_of hs.live)
  sum-fresh f side hs id v none nothing = rw none (omega (arith, sum-added f hs.live id v none))
