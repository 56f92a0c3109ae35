-- Names of numbers, for people to read.
use Rattle.std.specs.Prelude.{ℕ, List, [], ◌∷◌, ◌++◌, Option, Some, None, ◌==◌, if◌then◌else◌, decimal}

-- The text that stands beside a number in a list, where it has one.
abbrev pub text_in : List (ℕ × List ℕ) → ℕ → Option (List ℕ)
text_in [] n = None
text_in (p ∷ rest) n = if n == p.0 then Some p.1 else text_in rest n

-- The name, or else the number behind a word for what it is.
abbrev pub text_or_number : Option (List ℕ) → List ℕ → ℕ → List ℕ
text_or_number (Some name) what n = name
text_or_number None what n = what ++ decimal n
