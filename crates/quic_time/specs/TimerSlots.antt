-- How a table of timers stands in an array.
use Rattle.std.specs.Prelude.{◌≡◌, ℕ, Option, None, List, [], ◌∷◌, length, slice_index_or, refl}
use Rattle.std.proofs.Common.{ap, arith}
use Rattle.quic_time.specs.Timers.{Timers, each_timer}

-- the moments in the order of the nine timers
abbrev pub timers_of : List (Option ℕ) → Timers
timers_of moments = record {
  loss_detection = slice_index_or moments 0 None;
  idle = slice_index_or moments 1 None;
  close = slice_index_or moments 2 None;
  key_discard = slice_index_or moments 3 None;
  path_validation = slice_index_or moments 4 None;
  keep_alive = slice_index_or moments 5 None;
  pacing = slice_index_or moments 6 None;
  push_new_cid = slice_index_or moments 7 None;
  max_ack_delay = slice_index_or moments 8 None;
}

-- the element at a place, or none
abbrev at : List (Option ℕ) → ℕ → Option ℕ
at xs k = slice_index_or xs k None

none : (xs : List (Option ℕ)) → length xs ≡ 0 → [] ≡ xs
none [] n = refl
none (x ∷ xs) n = absurd (omega arith)

one : (xs : List (Option ℕ)) → length xs ≡ 1 → at xs 0 ∷ [] ≡ xs
one [] n = absurd (omega arith)
one (x ∷ xs) n = ap (λ t. x ∷ t) (none xs (omega arith))

two : (xs : List (Option ℕ)) → length xs ≡ 2 → at xs 0 ∷ at xs 1 ∷ [] ≡ xs
two [] n = absurd (omega arith)
two (x ∷ xs) n = ap (λ t. x ∷ t) (one xs (omega arith))

three : (xs : List (Option ℕ)) → length xs ≡ 3 → at xs 0 ∷ at xs 1 ∷ at xs 2 ∷ [] ≡ xs
three [] n = absurd (omega arith)
three (x ∷ xs) n = ap (λ t. x ∷ t) (two xs (omega arith))

four : (xs : List (Option ℕ)) → length xs ≡ 4 → at xs 0 ∷ at xs 1 ∷ at xs 2 ∷ at xs 3 ∷ [] ≡ xs
four [] n = absurd (omega arith)
four (x ∷ xs) n = ap (λ t. x ∷ t) (three xs (omega arith))

five : (xs : List (Option ℕ)) → length xs ≡ 5 → at xs 0 ∷ at xs 1 ∷ at xs 2 ∷ at xs 3 ∷ at xs 4 ∷ [] ≡ xs
five [] n = absurd (omega arith)
five (x ∷ xs) n = ap (λ t. x ∷ t) (four xs (omega arith))

six : (xs : List (Option ℕ)) → length xs ≡ 6 → at xs 0 ∷ at xs 1 ∷ at xs 2 ∷ at xs 3 ∷ at xs 4 ∷ at xs 5 ∷ [] ≡ xs
six [] n = absurd (omega arith)
six (x ∷ xs) n = ap (λ t. x ∷ t) (five xs (omega arith))

seven : (xs : List (Option ℕ)) → length xs ≡ 7 → at xs 0 ∷ at xs 1 ∷ at xs 2 ∷ at xs 3 ∷ at xs 4 ∷ at xs 5 ∷ at xs 6 ∷ [] ≡ xs
seven [] n = absurd (omega arith)
seven (x ∷ xs) n = ap (λ t. x ∷ t) (six xs (omega arith))

eight : (xs : List (Option ℕ)) → length xs ≡ 8 → at xs 0 ∷ at xs 1 ∷ at xs 2 ∷ at xs 3 ∷ at xs 4 ∷ at xs 5 ∷ at xs 6 ∷ at xs 7 ∷ [] ≡ xs
eight [] n = absurd (omega arith)
eight (x ∷ xs) n = ap (λ t. x ∷ t) (seven xs (omega arith))

-- nine moments are read back from the timers that they are
pub back_again : (moments : List (Option ℕ)) → length moments ≡ 9 → each_timer (timers_of moments) ≡ moments
back_again [] n = absurd (omega arith)
back_again (x ∷ xs) n = ap (λ t. x ∷ t) (eight xs (omega arith))
