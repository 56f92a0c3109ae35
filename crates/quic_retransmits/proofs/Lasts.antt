-- The last of a list leaves.
use Rattle.std.proofs.Common.{◌≡◌, List, [], ◌∷◌, ◌++◌, map, refl, sym, ap, ◌∙◌, Option, Some, None}
use Rattle.std.specs.Prelude.{option_to_list}

-- what a list was without the last is what it is where the last left
pub last_gone : {A B : Type 0} (f : A → B) (old new : List A) (o : Option A) (ys : List B) (y : B) → old ≡ new ++ option_to_list o → (o ≡ None → old ≡ []) → map f old ≡ ys ++ y ∷ [] → map f new ≡ ys
last_gone {A} {B} f old new None ys y is none e = absurd (nothing ys (sym (ap (map f) (none refl)) ∙ e))
  where
    nothing : (zs : List B) → [] ≡ zs ++ y ∷ [] → ⊥
    nothing [] w = cc
    nothing (z ∷ zs) w = cc
last_gone {A} {B} f old new (Some x) ys y is none e = go new ys (sym (ap (map f) is) ∙ e)
  where
    go : (xs : List A) (zs : List B) → map f (xs ++ x ∷ []) ≡ zs ++ y ∷ [] → map f xs ≡ zs
    go [] [] w = refl
    go [] (z ∷ []) w = cc
    go [] (z ∷ v ∷ zs) w = cc
    go (u ∷ []) [] w = cc
    go (u ∷ t ∷ xs) [] w = cc
    go (u ∷ xs) (z ∷ zs) w =
        let first : f u ≡ z = cc in
        let others : map f (xs ++ x ∷ []) ≡ zs ++ y ∷ [] = cc in
        ap (λ (b : B). b ∷ map f xs) first ∙ ap (λ (l : List B). z ∷ l) (go xs zs others)
