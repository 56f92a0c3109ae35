-- What calls answer to C: a number from 0 on, or that of an error.
use Rattle.std.specs.Prelude.{ℕ, ℤ, pos, negsuc, min, Bool, true, false, Option, Some, None, Result, Ok, Err, ⊤}
use Rattle.quic_c_core.specs.declared.call_error.CallError.{CallError}
use Rattle.quic_c_core.specs.Answers.{error_number}

-- a number, of 2^31 - 1 at most
abbrev pub small_number : ℕ → ℤ
small_number n = pos (min n 2147483647)

-- the answer of a call that gives a small number
abbrev pub small_answer : Result ℕ CallError → ℤ
small_answer (Ok n) = small_number n
small_answer (Err e) = error_number e

-- the answer of a call that gives a number, of 2^63 - 1 at most
abbrev pub counted_answer : Result ℕ CallError → ℤ
counted_answer (Ok n) = pos (min n 9223372036854775807)
counted_answer (Err e) = error_number e

-- the answer of a call that gives nothing
abbrev pub done_answer : Result (Unit {0}) CallError → ℤ
done_answer (Ok _) = pos 0
done_answer (Err e) = error_number e

-- the number of what is so or isn't
abbrev pub switch_number : Bool → ℤ
switch_number true = pos 1
switch_number false = pos 0

-- this is so of the number that is answered; nothing is said of an error
abbrev pub IfCount : ℤ → (ℕ → Type 0) → Type 0
IfCount (pos n) P = P n
IfCount (negsuc n) P = ⊤

-- how many bytes a poll gave
abbrev pub given_length : Option (ℕ × ℕ) → ℕ
given_length None = 0
given_length (Some given) = min given.0 9223372036854775807
