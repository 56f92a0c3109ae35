-- A part of a number that is at most the whole.
use Rattle.std.proofs.Common.{ℕ, ◌*◌, ◌/◌, ◌-◌, ◌^◌, ◌≤◌, ◌<◌, arith}
use Rattle.std.proofs.Math.Nat.{mul-le-mul, div-le_of_le-mul}

-- a product of two numbers of 64 bits fits 128 bits
pub product_fits : (a b : ℕ) → a < 2 ^ 64 → b < 2 ^ 64 → a * b < 2 ^ 128
product_fits a b p q =
    let a_most : a ≤ 2 ^ 64 - 1 = omega arith in
    let b_most : b ≤ 2 ^ 64 - 1 = omega arith in
    let most : a * b ≤ (2 ^ 64 - 1) * (2 ^ 64 - 1) = mul-le-mul a_most b_most in
    omega arith

-- a part is at most the whole
pub part_is_less : (w a b : ℕ) → a ≤ b → w * a / b ≤ w
part_is_less w a b p =
    let less : w * a ≤ b * w = grind (arith, mul-le-mul) in
    div-le_of_le-mul b less
