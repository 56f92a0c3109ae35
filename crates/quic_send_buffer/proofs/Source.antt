-- Pieces of buffers are the beginning of their bytes.
use Rattle.std.proofs.Common.{◌≡◌, ℕ, ◌≤◌, ◌<◌, List, [], ◌∷◌, ◌++◌, length, take, drop, refl, sym, ap, ◌∙◌, inl, inr, arith, length-take, take-append-drop, append_assoc}
use Rattle.std.specs.List.{concat}
use Rattle.std.proofs.lemmas.Bool.{cases_lt, le-leb, lt-leb}
use Rattle.std.proofs.lemmas.List.{take_all}
use Rattle.quic_send_buffer.specs.Source.{next_piece, left_behind}

pub pieces_are_prefixes : (cs : List (List ℕ)) (limit : ℕ) → concat cs ≡ next_piece cs limit ++ concat (left_behind cs limit)
pieces_are_prefixes [] limit = refl
pieces_are_prefixes ([] ∷ cs) limit = pieces_are_prefixes cs limit
pieces_are_prefixes ((b ∷ bs) ∷ cs) limit = elim (cases_lt limit (length (b ∷ bs))) [
  | inl lt ↦ rw (lt-leb (length (b ∷ bs)) limit lt) (ap (λ (xs : List ℕ). xs ++ concat cs) (sym (take-append-drop limit (b ∷ bs))) ∙ append_assoc (take limit (b ∷ bs)) (drop limit (b ∷ bs)) (concat cs))
  | inr le ↦ rw (le-leb (length (b ∷ bs)) limit le) (ap (λ (xs : List ℕ). xs ++ concat cs) (sym (take_all limit (b ∷ bs) le)))
]

pub pieces_are_short : (cs : List (List ℕ)) (limit : ℕ) → length (next_piece cs limit) ≤ limit
pieces_are_short [] limit = omega arith
pieces_are_short ([] ∷ cs) limit = pieces_are_short cs limit
pieces_are_short ((b ∷ bs) ∷ cs) limit = let len = length-take limit (b ∷ bs) in omega (arith, len)

pub pieces_are_filled : (cs : List (List ℕ)) (limit : ℕ) → 0 < limit → 0 < length (concat cs) → 0 < length (next_piece cs limit)
pieces_are_filled [] limit most some = absurd (omega (arith, some))
pieces_are_filled ([] ∷ cs) limit most some = pieces_are_filled cs limit most some
pieces_are_filled ((b ∷ bs) ∷ cs) limit most some = let len = length-take limit (b ∷ bs) in omega (arith, len, most)
