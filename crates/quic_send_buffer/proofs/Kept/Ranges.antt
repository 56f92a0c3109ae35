-- A range of two lists, one behind the other.
use Rattle.std.proofs.Common.{◌≡◌, ℕ, ◌+◌, ◌-◌, ◌≤◌, List, ◌++◌, length, take, drop, sym, ap, ◌∙◌, arith}
use Rattle.std.specs.Prelude.{slice_range}
use Rattle.std.proofs.lemmas.List.{take-append-le, drop-append-le, length-drop, length-take}
use Rattle.std.proofs.lemmas.List.Folds.{drop_split}
use Rattle.std.proofs.Math.Seq.{drop-append-add, take-append-add}

-- the range lies in the first list
pub within_first : (xs ys : List ℕ) (a b : ℕ) → a ≤ b → b ≤ length xs → slice_range xs a b ≡ slice_range (xs ++ ys) a b
within_first xs ys a b ab bn =
    let long : b - a ≤ length (drop a xs) = omega (arith, length-drop a xs) in
    sym (take-append-le (b - a) (drop a xs) ys long) ∙ ap (λ (z : List ℕ). take (b - a) z) (sym (drop-append-le a xs ys (omega arith)))

-- it lies in the second list
pub within_second : (xs ys : List ℕ) (a b : ℕ) → length xs ≤ a → a ≤ b → slice_range ys (a - length xs) (b - length xs) ≡ slice_range (xs ++ ys) a b
within_second xs ys a b na ab =
    let count : b - length xs - (a - length xs) ≡ b - a = omega arith in
    let place : a ≡ length xs + (a - length xs) = omega arith in
    ap (λ (k : ℕ). take k (drop (a - length xs) ys)) count ∙ ap (λ (z : List ℕ). take (b - a) z) (sym (drop-append-add xs ys (a - length xs)) ∙ ap (λ (k : ℕ). drop k (xs ++ ys)) (sym place))

-- two ranges of a list, one behind the other, are one
pub range_joined : (xs : List ℕ) (a b c : ℕ) → a ≤ b → b ≤ c → b ≤ length xs → slice_range xs a b ++ slice_range xs b c ≡ slice_range xs a c
range_joined xs a b c ab bc bn =
    let taken = length-take (b - a) (drop a xs) in
    let left = length-drop a xs in
    let split : c - a ≡ length (slice_range xs a b) + (c - b) = omega (arith, taken, left) in
    sym (ap (λ (z : List ℕ). take (c - a) z) (drop_split xs a b ab)
    ∙ ap (λ (k : ℕ). take k (slice_range xs a b ++ drop b xs)) split
    ∙ take-append-add (slice_range xs a b) (drop b xs) (c - b))
