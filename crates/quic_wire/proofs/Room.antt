-- Writing into room that is spare.
use Rattle.std.proofs.Common.{◌≡◌, ℕ, ◌+◌, ◌-◌, ◌≤◌, List, ◌++◌, length, ap, ◌∙◌, arith, vec_len, vec_capacity}
use Rattle.std.proofs.lemmas.List.{length-append}
use Rattle.std.specs.declared.vec.Vec.{Vec}

-- so many bytes more are so much longer
pub longer : {Z : Type 0} (u w : Vec ℕ Z) (added : List ℕ) (n : ℕ) → w.items ≡ u.items ++ added → length added ≡ n → vec_len w ≡ vec_len u + n
longer u w added n more size =
    let new = w.ok.0 in
    let old = u.ok.0 in
    let sum : length w.items ≡ length u.items + length added = ap length more ∙ length-append u.items added in
    omega (arith, new, old, sum, size)

-- what is written into room that was spare takes no other block
pub as_roomy : {Z : Type 0} (u w : Vec ℕ Z) (n : ℕ) → vec_len w ≡ vec_len u + n → vec_len u + n ≤ vec_capacity u → vec_capacity u - vec_len u ≤ (vec_capacity w - vec_len w) + n → vec_capacity u ≤ vec_capacity w
as_roomy u w n len room spare =
    let fits = w.ok.1 in
    omega (arith, fits)
