-- Lists that grow, and what holds of two lists in step.
use Rattle.std.proofs.Common.{◌≡◌, ℕ, zero, suc, List, [], ◌∷◌, ◌++◌, length, Some, ◌⊎◌, inl, inr, refl, sym, ap, subst}
use Rattle.std.specs.List.{slice_get}
use Rattle.quic_headline.specs.Runs.{In}
use Rattle.quic_headline.proofs.Packets.Invariant.{InStep}

-- ---- growing

-- what stood in a list stands in a longer one
pub get_front : {X : Type 0} (xs ys : List X) (k : ℕ) (x : X) → slice_get xs k ≡ Some x → slice_get (xs ++ ys) k ≡ Some x
get_front [] ys k x e = cc
get_front (y ∷ xs) ys zero x e = e
get_front (y ∷ xs) ys (suc k) x e = get_front xs ys k x e

-- what stands in a list with one more at its end
pub in_more : {X : Type 0} (x y : X) (xs : List X) → In x (xs ++ y ∷ []) → In x xs ⊎ (x ≡ y)
in_more x y [] (inl e) = inr e
in_more x y [] (inr i) = absurd i
in_more x y (z ∷ xs) (inl e) = inl (inl e)
in_more x y (z ∷ xs) (inr i) = go (in_more x y xs i)
  where
    go : In x xs ⊎ (x ≡ y) → In x (z ∷ xs) ⊎ (x ≡ y)
    go (inl i) = inl (inr i)
    go (inr e) = inr e

-- ---- what holds of two lists in step

module _ {Y X : Type 0} where
  pub step_on : (P Q : Y → X → Type 0) → ((y : Y) (x : X) → P y x → Q y x) → (ys : List Y) (xs : List X) → InStep P ys xs → InStep Q ys xs
  step_on P Q f [] [] a = tt
  step_on P Q f (y ∷ ys) (x ∷ xs) a = (f y x a.0, step_on P Q f ys xs a.1)
  step_on P Q f [] (x ∷ xs) a = absurd a
  step_on P Q f (y ∷ ys) [] a = absurd a

  -- they are as many
  pub step_length : (P : Y → X → Type 0) (ys : List Y) (xs : List X) → InStep P ys xs → length ys ≡ length xs
  step_length P [] [] all = refl
  step_length P (y ∷ ys) (x ∷ xs) all = ap suc (step_length P ys xs all.1)
  step_length P [] (x ∷ xs) all = absurd all
  step_length P (y ∷ ys) [] all = absurd all

  pub step_push : (P : Y → X → Type 0) (ys : List Y) (xs : List X) (y : Y) (x : X) → InStep P ys xs → P y x → InStep P (ys ++ y ∷ []) (xs ++ x ∷ [])
  step_push P [] [] y x a p = (p, tt)
  step_push P (v ∷ ys) (u ∷ xs) y x a p = (a.0, step_push P ys xs y x a.1 p)
  step_push P [] (u ∷ xs) y x a p = absurd a
  step_push P (v ∷ ys) [] y x a p = absurd a

  -- what stands at a place of the second list, with what stands there in the first
  pub step_at : (P : Y → X → Type 0) (ys : List Y) (xs : List X) (k : ℕ) (x : X) → InStep P ys xs → slice_get xs k ≡ Some x → (y : Y) × In y ys × P y x
  step_at P [] [] k x a e = cc
  step_at P (v ∷ ys) (u ∷ xs) zero x a e =
      let is : u ≡ x = cc in
      (v, inl refl, subst (λ (z : X). P v z) is a.0)
  step_at P (v ∷ ys) (u ∷ xs) (suc k) x a e =
      let rest = step_at P ys xs k x a.1 e in
      (rest.0, inr rest.1, rest.2)
  step_at P [] (u ∷ xs) k x a e = absurd a
  step_at P (v ∷ ys) [] k x a e = absurd a

  -- what stands in the second list, with what stands there in the first
  pub step_in : (P : Y → X → Type 0) (ys : List Y) (xs : List X) (x : X) → InStep P ys xs → In x xs → (y : Y) × In y ys × P y x
  step_in P [] [] x a i = absurd i
  step_in P (v ∷ ys) (u ∷ xs) x a (inl is) = (v, inl refl, subst (λ (z : X). P v z) (sym is) a.0)
  step_in P (v ∷ ys) (u ∷ xs) x a (inr i) =
      let rest = step_in P ys xs x a.1 i in
      (rest.0, inr rest.1, rest.2)
  step_in P [] (u ∷ xs) x a i = absurd a
  step_in P (v ∷ ys) [] x a i = absurd a

  -- what stands in the first list, with what stands there in the second
  pub step_of : (P : Y → X → Type 0) (ys : List Y) (xs : List X) (y : Y) → InStep P ys xs → In y ys → (x : X) × P y x
  step_of P [] [] y a i = absurd i
  step_of P (v ∷ ys) (u ∷ xs) y a (inl is) = (u, subst (λ (z : Y). P z u) (sym is) a.0)
  step_of P (v ∷ ys) (u ∷ xs) y a (inr i) = step_of P ys xs y a.1 i
  step_of P [] (u ∷ xs) y a i = absurd a
  step_of P (v ∷ ys) [] y a i = absurd a
