-- A queue that is turned round once, where what passes a test is put back.
use Rattle.std.proofs.Common.{◌≡◌, ◌+◌, ◌-◌, ◌<◌, ℕ, Bool, true, false, cond, List, [], ◌∷◌, ◌++◌, length, get_or, take, drop, drop-cons, append_assoc, sym, ap, ◌∙◌, add-one, arith}
use Rattle.std.specs.List.{filter}
use Rattle.std.proofs.lemmas.List.{append-nil}
use Rattle.std.proofs.lemmas.List.Elements.{filter_more}
use Rattle.std.proofs.lemmas.List.Sums.{sum_by-cons, sum_by_push}
use Rattle.quic_messages.proofs.Fronts.{head_of, tail_of}
use Rattle.quic_messages.specs.Messages.{bytes_of}

module _ {X : Type 0} (keep : X → Bool) (xs : List X) (i : ℕ) (x : X) (rest : List X) (within : i < length xs) (popped : x ∷ rest ≡ drop i xs ++ filter keep (take i xs)) where
  cut : drop i xs ≡ get_or xs i x ∷ drop (i + 1) xs
  cut = rw add-one (drop-cons xs i x within)

  front : x ∷ rest ≡ get_or xs i x ∷ (drop (i + 1) xs ++ filter keep (take i xs))
  front = popped ∙ ap (λ ys. ys ++ filter keep (take i xs)) cut

  -- the first of the queue is the next of the list
  pub next : get_or xs i x ≡ x
  next = sym (ap (head_of x) front)

  -- the others stand as they did
  others : rest ≡ drop (i + 1) xs ++ filter keep (take i xs)
  others = ap tail_of front

  -- what passed, with the next
  passed : filter keep (take (i + 1) xs) ≡ filter keep (take i xs) ++ cond (keep x) (x ∷ []) []
  passed = filter_more keep xs i x within ∙ ap (λ y. filter keep (take i xs) ++ cond (keep y) (y ∷ []) []) next

  -- one that passes is put back
  pub put_back : keep x ≡ true → rest ++ x ∷ [] ≡ drop (i + 1) xs ++ filter keep (take (i + 1) xs)
  put_back e = rw (passed, e, others) (append_assoc (drop (i + 1) xs) (filter keep (take i xs)) (x ∷ []))

  -- any other isn't
  pub left_out : keep x ≡ false → rest ≡ drop (i + 1) xs ++ filter keep (take (i + 1) xs)
  left_out e = rw (passed, e, append-nil (filter keep (take i xs))) others

-- one that is put back leaves what they take together
pub bytes_put_back : (size : List ℕ → ℕ) (m : List ℕ) (ms : List (List ℕ)) → bytes_of size (ms ++ m ∷ []) ≡ bytes_of size (m ∷ ms)
bytes_put_back size m ms =
    let front = sum_by-cons size m ms in
    let back = sum_by_push size ms m in
    omega arith

-- one that is taken out lessens it by what it takes
pub bytes_taken : (size : List ℕ → ℕ) (m : List ℕ) (ms : List (List ℕ)) → bytes_of size (m ∷ ms) - size m ≡ bytes_of size ms
bytes_taken size m ms =
    let front = sum_by-cons size m ms in
    omega arith
