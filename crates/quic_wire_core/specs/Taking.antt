-- Reading from the front of bytes, one part after another.
use Rattle.std.specs.Prelude.{◌≡◌, ℕ, List, Result, Ok, Err}

infixl 10 ◌>>=◌
-- One reading behind another: the first refusal stands.
abbrev pub ◌>>=◌ : {A B E : Type 0} → Result A E → (A → Result B E) → Result B E
(Ok x) >>= f = f x
(Err e) >>= f = Err e

-- What a function took from the front of a slice, seen by a view, is what reading gives, with the
-- bytes that are left. A refusal leaves nothing to go on with.
abbrev pub Reads : {X Y E : Type 0} → (X → Y) → Result X E → List ℕ → Result (Y × List ℕ) E → Type 0
Reads view (Ok x) rest read = read ≡ Ok (view x, rest)
Reads view (Err e) rest read = read ≡ Err e
