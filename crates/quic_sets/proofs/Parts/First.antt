-- The first part behind an offset, and the first of all.
use Rattle.std.proofs.Common.{◌≡◌, ℕ, ◌+◌, ◌<◌, ltb, List, [], ◌∷◌, Bool, true, false, ◌&&◌, cond, Some, None, refl, sym, ap, ◌∙◌, arith}
use Rattle.std.specs.List.{filter}
use Rattle.std.specs.Ordering.{nat_cmp, is_le}
use Rattle.std.specs.declared.cmp.Ordering.{Ordering}
use Rattle.std.specs.declared.cmp.Ordering.TheVariants.{Less, Equal, Greater}
use Rattle.std.specs.Cmp.{unsigned_tied, ranked}
use Rattle.std.specs.BTreeMap.{is_at}
use Rattle.std.proofs.lemmas.Bool.{eq-eqb, lt-ltb, le-ltb, ne_eqb}
use Rattle.quic_sets.specs.Parts.{Part, after}

-- the head of a filter is the first that passes
pub after_filter : (p : Part → Bool) (at : ℕ) → ((x : Part) → p x ≡ ltb at x.0) → (es : List Part) (x : Part) (rest : List Part) → filter p es ≡ x ∷ rest → after at es ≡ Some x
after_filter p at same [] x rest e = cc
after_filter p at same (y ∷ es) x rest e = go (p y) refl e (after_filter p at same es x rest)
  where
    go : (b : Bool) → p y ≡ b → cond b (y ∷ filter p es) (filter p es) ≡ x ∷ rest → (filter p es ≡ x ∷ rest → after at es ≡ Some x) → cond (ltb at y.0) (Some y) (after at es) ≡ Some x
    go true q e ih = let same_y : y ≡ x = cc in rw (sym (same y) ∙ q) (ap Some same_y)
    go false q e ih = rw (sym (same y) ∙ q) (ih e)

pub after_filter_none : (p : Part → Bool) (at : ℕ) → ((x : Part) → p x ≡ ltb at x.0) → (es : List Part) → filter p es ≡ [] → after at es ≡ None
after_filter_none p at same [] e = refl
after_filter_none p at same (y ∷ es) e = go (p y) refl e (after_filter_none p at same es)
  where
    go : (b : Bool) → p y ≡ b → cond b (y ∷ filter p es) (filter p es) ≡ [] → (filter p es ≡ [] → after at es ≡ None) → cond (ltb at y.0) (Some y) (after at es) ≡ None
    go true q e ih = cc
    go false q e ih = rw (sym (same y) ∙ q) (ih e)

pub at_itself : (k : ℕ) → is_at (nat_cmp k) k ≡ true
at_itself k = unsigned_tied k k ∙ eq-eqb k k refl

pub from_next : (at q : ℕ) → (is_le (nat_cmp (at + 1) q) && true) ≡ ltb at q
from_next at q = go (nat_cmp (at + 1) q) refl
  where
    go : (r : Ordering) → r ≡ nat_cmp (at + 1) q → (is_le r && true) ≡ ltb at q
    go Less e = let l : at + 1 < q = ranked (at + 1) q Less e in sym (lt-ltb at q (omega arith))
    go Equal e = let l : at + 1 ≡ q = ranked (at + 1) q Equal e in sym (lt-ltb at q (omega arith))
    go Greater e = let l : q < at + 1 = ranked (at + 1) q Greater e in sym (le-ltb at q (omega arith))

pub not_at : (a b : ℕ) → (a ≡ b → ⊥) → is_at (nat_cmp a) b ≡ false
not_at a b n = unsigned_tied a b ∙ ne_eqb a b n
