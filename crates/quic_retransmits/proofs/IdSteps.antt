-- Sets of ids, as their ascending lists.
use Rattle.std.proofs.Common.{◌≡◌, ℕ, ◌<◌, ◌^◌, [], ◌∷◌, ◌++◌, Bool, true, false, cond, List, Option, Some, None, length, refl, sym, ap, ◌∙◌, arith}
use Rattle.std.specs.Prelude.{◌||◌}
use Rattle.std.specs.List.{slice_get, AllByRecursion}
use Rattle.std.specs.List.Sorted.{IsStrictlySortedBy}
use Rattle.std.specs.Ordering.{nat_cmp, match_ordering, is_eq}
use Rattle.std.specs.declared.cmp.Ordering.{Ordering}
use Rattle.std.specs.declared.cmp.Ordering.TheVariants.{Less, Equal, Greater}
use Rattle.std.specs.Cmp.{unsigned_tied, nat_cmp_total}
use Rattle.std.specs.BTreeMap.{is_at}
use Rattle.std.specs.Option.{is_some}
use Rattle.std.specs.Set.{remove_key}
use Rattle.std.proofs.lemmas.Bool.{eq-eqb, or_parts}
use Rattle.std.proofs.lemmas.Map.Keys.{sorted_head, sorted_tail, sorted_from_all_adjacent}
use Rattle.quic_retransmits.specs.Retransmits.{AreIds, with_id, without_id, with_ids, without_ids, has_id, first_of}
use Rattle.quic_retransmits.specs.Lone.{all_ids, AreAllIds}

pub are_inserted : (id : ℕ) (ids : List ℕ) → id < 2 ^ 62 → AreIds ids → AreIds (with_id id ids)
are_inserted id [] l h = (l, tt)
are_inserted id (x ∷ xs) l h = go (nat_cmp id x) (are_inserted id xs l h.1)
  where
    go : (r : Ordering) → AreIds (with_id id xs) → AreIds (match_ordering r (id ∷ x ∷ xs) (x ∷ xs) (x ∷ with_id id xs))
    go Less ih = (l, h)
    go Equal ih = h
    go Greater ih = (h.0, ih)

pub are_removed : (test : ℕ → Bool) (ids : List ℕ) → AreIds ids → AreIds (remove_key test ids)
are_removed test [] h = h
are_removed test (x ∷ xs) h = go (test x) (are_removed test xs h.1)
  where
    go : (b : Bool) → AreIds (remove_key test xs) → AreIds (cond b xs (x ∷ remove_key test xs))
    go true ih = h.1
    go false ih = (h.0, ih)

pub are_with : (more ids : List ℕ) → AreIds more → AreIds ids → AreIds (with_ids more ids)
are_with [] ids m h = h
are_with (k ∷ ks) ids m h = are_with ks (with_id k ids) m.1 (are_inserted k ids m.0 h)

pub are_without : (less ids : List ℕ) → AreIds ids → AreIds (without_ids less ids)
are_without [] ids h = h
are_without (k ∷ ks) ids h = are_removed (is_at (nat_cmp k)) (without_ids ks ids) (are_without ks ids h)

-- the last of a list of ids comes out first
pub without_last : (ks : List ℕ) (k : ℕ) (ids : List ℕ) → without_ids (ks ++ k ∷ []) ids ≡ without_ids ks (without_id k ids)
without_last [] k ids = refl
without_last (x ∷ xs) k ids = ap (λ (l : List ℕ). without_id x l) (without_last xs k ids)

at_itself : (k : ℕ) → is_at (nat_cmp k) k ≡ true
at_itself k = unsigned_tied k k ∙ eq-eqb k k refl

-- a new id that is put in and taken out leaves what was
pub taken_back : (k : ℕ) (ks : List ℕ) → has_id k ks ≡ false → without_id k (with_id k ks) ≡ ks
taken_back k [] e = rw (at_itself k) refl
taken_back k (x ∷ xs) e =
    let parts = or_parts (is_at (nat_cmp k) x) (has_id k xs) e in
    go (nat_cmp k x) refl parts.0 (taken_back k xs parts.1)
  where
    go : (r : Ordering) → nat_cmp k x ≡ r → is_at (nat_cmp k) x ≡ false → without_id k (with_id k xs) ≡ xs → without_id k (match_ordering r (k ∷ x ∷ xs) (x ∷ xs) (x ∷ with_id k xs)) ≡ x ∷ xs
    go Less q other ih = rw (at_itself k) refl
    go Equal q other ih = absurd (let e = ap is_eq q in cc)
    go Greater q other ih = rw other (ap (λ (l : List ℕ). x ∷ l) ih)

-- a number below all ids is none of them
none_above : (k : ℕ) (ks : List ℕ) → AllByRecursion (λ y. nat_cmp k y ≡ Less) ks → has_id k ks ≡ false
none_above k [] a = refl
none_above k (x ∷ xs) a = rw a.0 (none_above k xs a.1)

-- where the ids ascend, one of them that was put in again changed nothing
pub known_before : (k : ℕ) (ks : List ℕ) → IsStrictlySortedBy nat_cmp (with_id k ks) → has_id k ks ≡ true → with_id k ks ≡ ks
known_before k [] o e = absurd (let w : true ≡ false = sym e in cc)
known_before k (x ∷ xs) o e = go (nat_cmp k x) refl o e (known_before k xs)
  where
    go : (r : Ordering) → nat_cmp k x ≡ r → IsStrictlySortedBy nat_cmp (match_ordering r (k ∷ x ∷ xs) (x ∷ xs) (x ∷ with_id k xs)) → (is_eq r || has_id k xs) ≡ true → (IsStrictlySortedBy nat_cmp (with_id k xs) → has_id k xs ≡ true → with_id k xs ≡ xs) → match_ordering r (k ∷ x ∷ xs) (x ∷ xs) (x ∷ with_id k xs) ≡ x ∷ xs
    go Less is o e ih =
        let none = none_above k (x ∷ xs) (sorted_head nat_cmp k (x ∷ xs) o) in
        let same : has_id k (x ∷ xs) ≡ has_id k xs = rw is refl in
        absurd (let w : true ≡ false = sym e ∙ sym same ∙ none in cc)
    go Equal is o e ih = refl
    go Greater is o e ih = ap (λ (l : List ℕ). x ∷ l) (ih (sorted_tail nat_cmp x (with_id k xs) o) e)

-- the same, before others come out
pub noted_back : (added : List ℕ) (k : ℕ) (ks : List ℕ) → has_id k ks ≡ false → without_ids (added ++ k ∷ []) (with_id k ks) ≡ without_ids added ks
noted_back added k ks e = without_last added k (with_id k ks) ∙ ap (λ (l : List ℕ). without_ids added l) (taken_back k ks e)

-- the least of a set
pub first_is : {A : Type 0} → (xs : List A) (x : A) → slice_get xs 0 ≡ Some x → first_of xs ≡ Some x
first_is [] x e = cc
first_is (y ∷ ys) x e = e

pub first_none : {A : Type 0} → (xs : List A) → length xs ≡ 0 → first_of xs ≡ None
first_none [] e = refl
first_none (y ∷ ys) e = absurd (omega arith)

pub first_small : (ids : List ℕ) (id : ℕ) → AreIds ids → slice_get ids 0 ≡ Some id → id < 2 ^ 62
first_small [] id h e = cc
first_small (x ∷ xs) id h e = let same : x ≡ id = cc in let l = h.0 in omega arith

-- ---- the only id, where it stands apart from the others

pub all_are : (lone : Option ℕ) (ids : List ℕ) → AreAllIds lone ids → AreIds (all_ids lone ids)
all_are None ids h = h
all_are (Some x) ids h = (h.0, tt)

pub all_ordered : (lone : Option ℕ) (ids : List ℕ) → IsStrictlySortedBy nat_cmp ids → IsStrictlySortedBy nat_cmp (all_ids lone ids)
all_ordered None ids o = o
all_ordered (Some x) ids o = sorted_from_all_adjacent nat_cmp_total (x ∷ []) 0 (λ k l. absurd (omega (arith, l)))

-- it is one of the ids, and is known where it comes again
pub lone_has : (lone : Option ℕ) (ids : List ℕ) (id : ℕ) → has_id id (all_ids lone []) ≡ true → has_id id (all_ids lone ids) ≡ true
lone_has None ids id e = absurd (let w : true ≡ false = sym e in cc)
lone_has (Some x) ids id e = e

pub lone_same : (lone : Option ℕ) (ids : List ℕ) (id : ℕ) → has_id id (all_ids lone []) ≡ true → all_ids lone ids ≡ with_id id (all_ids lone ids)
lone_same None ids id e = absurd (let w : true ≡ false = sym e in cc)
lone_same (Some x) ids id e = go (nat_cmp id x) e
  where
    go : (r : Ordering) → (is_eq r || false) ≡ true → x ∷ [] ≡ match_ordering r (id ∷ x ∷ []) (x ∷ []) (x ∷ id ∷ [])
    go Less e = absurd (let w : true ≡ false = sym e in cc)
    go Equal e = refl
    go Greater e = absurd (let w : true ≡ false = sym e in cc)

-- any other is one of the others
pub lone_apart : (lone : Option ℕ) (ids : List ℕ) (id : ℕ) → AreAllIds lone ids → has_id id (all_ids lone []) ≡ false → has_id id (all_ids lone ids) ≡ has_id id ids
lone_apart None ids id h e = refl
lone_apart (Some x) ids id h e = e ∙ sym (ap (λ (l : List ℕ). has_id id l) h.1)

-- without it no id is left
pub lone_removed : (lone : Option ℕ) (ids : List ℕ) (id : ℕ) → AreAllIds lone ids → has_id id (all_ids lone []) ≡ true → ids ≡ without_id id (all_ids lone ids)
lone_removed None ids id h e = absurd (let w : true ≡ false = sym e in cc)
lone_removed (Some x) ids id h e = h.1 ∙ go (is_at (nat_cmp id) x) e
  where
    go : (b : Bool) → (b || false) ≡ true → [] ≡ cond b [] (x ∷ [])
    go true e = refl
    go false e = absurd (let w : true ≡ false = sym e in cc)

-- any other leaves it
pub lone_left : (lone : Option ℕ) (ids : List ℕ) (id : ℕ) → has_id id (all_ids lone []) ≡ false → all_ids lone (without_id id ids) ≡ without_id id (all_ids lone ids)
lone_left None ids id e = refl
lone_left (Some x) ids id e = go (is_at (nat_cmp id) x) e
  where
    go : (b : Bool) → (b || false) ≡ false → x ∷ [] ≡ cond b [] (x ∷ [])
    go true e = absurd (let w : true ≡ false = e in cc)
    go false e = refl

pub all_removed : (lone : Option ℕ) (ids : List ℕ) (test : ℕ → Bool) → AreAllIds lone ids → AreAllIds lone (remove_key test ids)
all_removed None ids test h = are_removed test ids h
all_removed (Some x) ids test h = (h.0, ap (λ (l : List ℕ). remove_key test l) h.1)

-- a new one that joins it
pub lone_joined : (lone : Option ℕ) (ids new : List ℕ) → lone ≡ None → AreIds new → AreAllIds lone new
lone_joined None ids new e h = h
lone_joined (Some x) ids new e h = absurd (cc)

-- it is an id, and where there is none the others are
pub lone_small : (lone : Option ℕ) (ids : List ℕ) (id : ℕ) → lone ≡ Some id → AreAllIds lone ids → id < 2 ^ 62
lone_small None ids id e h = absurd (cc)
lone_small (Some x) ids id e h = let same : x ≡ id = cc in let l = h.0 in omega arith

pub others_are : (lone : Option ℕ) (ids : List ℕ) → lone ≡ None → AreAllIds lone ids → AreIds ids
others_are None ids e h = h
others_are (Some x) ids e h = absurd (cc)

-- where it stands apart, and is another, an id is none of them
pub lone_lacks : (lone : Option ℕ) (ids : List ℕ) (id : ℕ) → is_some lone ≡ true → has_id id (all_ids lone []) ≡ false → has_id id (all_ids lone ids) ≡ false
lone_lacks None ids id is e = absurd (let w : true ≡ false = sym is in cc)
lone_lacks (Some x) ids id is e = e
