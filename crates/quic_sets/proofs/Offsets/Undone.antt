-- Entries that were put in, and are taken out again.
use Rattle.std.proofs.Common.{◌≡◌, ℕ, List, [], ◌∷◌, ◌++◌, Bool, true, false, cond, Some, None, refl, sym, ap}
use Rattle.std.specs.Ordering.{nat_cmp, is_eq, match_ordering}
use Rattle.std.specs.declared.cmp.Ordering.{Ordering}
use Rattle.std.specs.declared.cmp.Ordering.TheVariants.{Less, Equal, Greater}
use Rattle.std.specs.Map.{lookup, remove_entry}
use Rattle.std.specs.BTreeMap.{insert_entry, is_at}
use Rattle.quic_sets.specs.Parts.{undone}
use Rattle.quic_sets.proofs.Parts.First.{at_itself}

pub undone_last : {X : Type 0} (ks : List ℕ) (k : ℕ) (ps : List (ℕ × X)) → undone (ks ++ k ∷ []) ps ≡ undone ks (remove_entry (is_at (nat_cmp k)) ps)
undone_last [] k ps = refl
undone_last {X = X} (j ∷ ks) k ps = ap (λ (qs : List (ℕ × X)). remove_entry (is_at (nat_cmp j)) qs) (undone_last ks k ps)

-- what has no such key stays
pub absent : {X : Type 0} (test : ℕ → Bool) (es : List (ℕ × X)) → lookup test es ≡ None → remove_entry test es ≡ es
absent test [] e = refl
absent {X = X} test (x ∷ es) e = go (test x.0) e (absent test es)
  where
    go : (b : Bool) → cond b (Some x.1) (lookup test es) ≡ None → (lookup test es ≡ None → remove_entry test es ≡ es) → cond b es (x ∷ remove_entry test es) ≡ x ∷ es
    go true e ih = cc
    go false e ih = ap (λ (qs : List (ℕ × X)). x ∷ qs) (ih e)

-- an entry with a new key leaves what was there when it is taken out
pub taken_out : {X : Type 0} (k : ℕ) (v : X) (es : List (ℕ × X)) → lookup (is_at (nat_cmp k)) es ≡ None → remove_entry (is_at (nat_cmp k)) (insert_entry nat_cmp es k v) ≡ es
taken_out k v [] e = rw (at_itself k) refl
taken_out {X = X} k v (x ∷ es) e = go (nat_cmp k x.0) refl e (taken_out k v es)
  where
    go : (r : Ordering) → nat_cmp k x.0 ≡ r → cond (is_eq r) (Some x.1) (lookup (is_at (nat_cmp k)) es) ≡ None → (lookup (is_at (nat_cmp k)) es ≡ None → remove_entry (is_at (nat_cmp k)) (insert_entry nat_cmp es k v) ≡ es)
        → remove_entry (is_at (nat_cmp k)) (match_ordering r ((k, v) ∷ x ∷ es) ((x.0, v) ∷ es) (x ∷ insert_entry nat_cmp es k v)) ≡ x ∷ es
    go Less q e ih = rw (at_itself k) refl
    go Equal q e ih = cc
    go Greater q e ih = let other : is_at (nat_cmp k) x.0 ≡ false = ap is_eq q in rw other (ap (λ (qs : List (ℕ × X)). x ∷ qs) (ih e))

-- one more part is taken out
pub undone_more : {X : Type 0} (olds news : List ℕ) (k : ℕ) (ps ns : List (ℕ × X)) → olds ≡ news ++ k ∷ [] → ns ≡ remove_entry (is_at (nat_cmp k)) ps → undone news ns ≡ undone olds ps
undone_more olds news k ps ns e is = rw (e, is) (sym (undone_last news k ps))
