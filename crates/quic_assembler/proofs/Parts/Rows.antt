-- Parts of which the first stands apart: what its steps make of all of them.
use Rattle.std.proofs.Common.{◌≡◌, ℕ, ◌<◌, length, List, [], ◌∷◌, true, false, cond, Bool, Option, Some, None, refl, sym, ap, ◌∙◌, subst, arith}
use Rattle.std.specs.Prelude.{◌↔◌}
use Rattle.std.specs.List.{All, AllByRecursion}
use Rattle.std.specs.Option.{IsSome, IfSome, IfNone}
use Rattle.std.specs.Result.{OnOk, OnErr}
use Rattle.std.specs.declared.result.Result.{Result}
use Rattle.std.specs.declared.result.Result.TheVariants.{Ok, Err}
use Rattle.std.specs.Ordering.{nat_cmp, match_ordering}
use Rattle.std.specs.declared.cmp.Ordering.{Ordering}
use Rattle.std.specs.declared.cmp.Ordering.TheVariants.{Less, Equal, Greater}
use Rattle.std.specs.Cmp.{nat_cmp_is, nat_cmp_total}
use Rattle.std.specs.Map.{keys_of, remove_entry}
use Rattle.std.specs.BTreeMap.{insert_entry}
use Rattle.std.proofs.lemmas.List.Elements.{recursion_from_All}
use Rattle.quic_sets.specs.Parts.{Part}
use Rattle.quic_assembler.specs.PartRow.{part_row, AreAbove, IsPartRow}

-- the others end behind the first
pub row_first : (f : Option Part) (p : Part) (os : List Part) → f ≡ Some p → IsPartRow f os → AreAbove p.0 os
row_first None p os is h = absurd (cc)
row_first (Some q) p os is h = let same : q ≡ p = cc in subst (λ (x : Part). AreAbove x.0 os) same h

-- ---- a part is kept

-- one that ends behind the first comes among the others, which still end behind it
pub above_kept : (k : ℕ) (os : List Part) (end : ℕ) (b : List ℕ) → k < end → AreAbove k os → AreAbove k (insert_entry nat_cmp os end b)
above_kept k [] end b lt a = (sym (nat_cmp_is k end Less lt), tt)
above_kept k (o ∷ os) end b lt a = go (nat_cmp end o.0) (above_kept k os end b lt a.1)
  where
    go : (r : Ordering) → AreAbove k (insert_entry nat_cmp os end b) → AreAbove k (match_ordering r ((end, b) ∷ o ∷ os) ((o.0, b) ∷ os) (o ∷ insert_entry nat_cmp os end b))
    go Less ih = (sym (nat_cmp_is k end Less lt), a)
    go Equal ih = a
    go Greater ih = (a.0, ih)

-- and so where memory may have lacked for it
pub above_either : {E : Type 0} (r : Result Unit E) (k end : ℕ) (os new : List Part) (b : List ℕ) → k < end → AreAbove k os → OnOk r (new ≡ insert_entry nat_cmp os end b) → OnErr r (new ≡ os) → AreAbove k new
above_either (Ok x) k end os new b lt a ok err = rw ok (above_kept k os end b lt a)
above_either (Err x) k end os new b lt a ok err = rw err a

-- one that ends before the others comes first
pub above_first : (k : ℕ) (b : List ℕ) (os : List Part) → AreAbove k os → insert_entry nat_cmp os k b ≡ (k, b) ∷ os
above_first k b [] a = refl
above_first k b (o ∷ os) a = rw a.0 refl

pub below_all : (n k : ℕ) (os : List Part) → nat_cmp n k ≡ Less → AreAbove k os → AreAbove n os
below_all n k [] is a = tt
below_all n k (o ∷ os) is a = (nat_cmp_total.trans n k o.0 is a.0, below_all n k os is a.1)

-- where one ends before the first, that comes among the others
pub row_before : (f : Option Part) (p q d : Part) (os new : List Part) (end : ℕ) (b : List ℕ) → f ≡ Some p → IsPartRow f os → end < p.0 → q ≡ p → d ≡ (end, b) → new ≡ insert_entry nat_cmp os q.0 q.1 → d ∷ new ≡ insert_entry nat_cmp (part_row f os) end b
row_before f p q d os new end b is h lt same e put =
    let c : nat_cmp end p.0 ≡ Less = sym (nat_cmp_is end p.0 Less lt) in
    let a : insert_entry nat_cmp os p.0 p.1 ≡ p ∷ os = above_first p.0 p.1 os (row_first f p os is h) in
    rw (is, e, put, same, c, a) refl

pub above_before : (f : Option Part) (p q d : Part) (os new : List Part) (end : ℕ) (b : List ℕ) → f ≡ Some p → IsPartRow f os → end < p.0 → q ≡ p → d ≡ (end, b) → new ≡ insert_entry nat_cmp os q.0 q.1 → AreAbove d.0 new
above_before f p q d os new end b is h lt same e put =
    let c : nat_cmp end p.0 ≡ Less = sym (nat_cmp_is end p.0 Less lt) in
    let up = row_first f p os is h in
    let a : insert_entry nat_cmp os p.0 p.1 ≡ p ∷ os = above_first p.0 p.1 os up in
    rw (e, put, same, a) (c, below_all end p.0 os c up)

-- ---- a part goes

-- the first of the others stands apart: what is left of them ends behind it
pub row_next : (r : Option Part) (olds news : List Part) → (IsSome r ↔ (0 < length olds)) → IfNone r (news ≡ olds) → IfSome r (λ p. All (λ y. nat_cmp p.0 y ≡ Less) (keys_of news)) → IsPartRow r news
row_next None olds news v u a = u ∙ none olds (λ l. v.1 l)
  where
    none : (xs : List Part) → (0 < length xs → false ≡ true) → xs ≡ []
    none [] n = refl
    none (x ∷ xs) n = absurd (let w : false ≡ true = n (omega arith) in cc)
row_next (Some p) olds news v u a = each news (recursion_from_All (λ y. nat_cmp p.0 y ≡ Less) (keys_of news) a)
  where
    each : (xs : List Part) → AllByRecursion (λ y. nat_cmp p.0 y ≡ Less) (keys_of xs) → AreAbove p.0 xs
    each [] a = tt
    each (x ∷ xs) a = (a.0, each xs a.1)

-- one of the others goes
pub above_left : (k : ℕ) (test : ℕ → Bool) (os : List Part) → AreAbove k os → AreAbove k (remove_entry test os)
above_left k test [] a = tt
above_left k test (o ∷ os) a = go (test o.0) (above_left k test os a.1)
  where
    go : (b : Bool) → AreAbove k (remove_entry test os) → AreAbove k (cond b os (o ∷ remove_entry test os))
    go true ih = a.1
    go false ih = (a.0, ih)

pub row_left : (f : Option Part) (test : ℕ → Bool) (os : List Part) → IsPartRow f os → IsPartRow f (remove_entry test os)
row_left None test os h = ap (λ (l : List Part). remove_entry test l) h
row_left (Some p) test os h = above_left p.0 test os h
