-- What a poll appends.
use Rattle.std.specs.Prelude.{ℕ, List, [], Option, Some, None}

-- the bytes of a datagram, if there is one
abbrev pub given_bytes : Option (List ℕ) → List ℕ
given_bytes None = []
given_bytes (Some d) = d
