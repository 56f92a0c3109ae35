-- Which messages are left where the oldest go, and which go.
use Rattle.std.proofs.Common.{◌≡◌, ◌+◌, ◌<◌, ◌≤◌, ℕ, Bool, true, false, cond, nat_le, List, [], ◌∷◌, ◌++◌, length, length-append, refl, sym, ap, ◌∙◌, arith}
use Rattle.std.proofs.lemmas.Bool.{leb-true, leb-false, le-leb}
use Rattle.std.proofs.lemmas.List.Sums.{sum_by_push}
use Rattle.quic_messages.proofs.Fronts.{head_of, tail_of}
use Rattle.quic_messages.specs.Messages.{bytes_of, left_for, gone_for, with_message}

module _ (size : List ℕ → ℕ) where
  -- where one more fits, all stay
  pub left_for_all : (room len : ℕ) (ms : List (List ℕ)) → nat_le (bytes_of size ms + len) room ≡ true → left_for size room len ms ≡ ms
  left_for_all room len [] e = refl
  left_for_all room len (m ∷ ms) e = rw e refl

  -- where it doesn't fit beside all of them, the oldest goes
  pub left_for_fewer : (room len : ℕ) (m : List ℕ) (ms : List (List ℕ)) → nat_le (bytes_of size (m ∷ ms) + len) room ≡ false → left_for size room len (m ∷ ms) ≡ left_for size room len ms
  left_for_fewer room len m ms e = rw e refl

  -- none is left of none
  pub left_for_none : (room len : ℕ) (ms : List (List ℕ)) → length ms ≡ 0 → left_for size room len ms ≡ ms
  left_for_none room len [] e = refl
  left_for_none room len (m ∷ ms) e = absurd (omega arith)

  gone_and_left_by : (b : Bool) (m : List ℕ) (ms gone left : List (List ℕ)) → gone ++ left ≡ ms → cond b [] (m ∷ gone) ++ cond b (m ∷ ms) left ≡ m ∷ ms
  gone_and_left_by true m ms gone left e = refl
  gone_and_left_by false m ms gone left e = ap (λ xs. m ∷ xs) e

  -- those that go and those that are left are all of them
  pub gone_and_left : (room len : ℕ) (ms : List (List ℕ)) → gone_for size room len ms ++ left_for size room len ms ≡ ms
  gone_and_left room len [] = refl
  gone_and_left room len (m ∷ ms) = gone_and_left_by (nat_le (bytes_of size (m ∷ ms) + len) room) m ms _ _ (gone_and_left room len ms)

  left_fits_by : (b : Bool) (room len : ℕ) (all left : List (List ℕ)) → nat_le (bytes_of size all + len) room ≡ b → bytes_of size left + len ≤ room → bytes_of size (cond b all left) + len ≤ room
  left_fits_by true room len all left e h = leb-true _ _ e
  left_fits_by false room len all left e h = h

  -- one more fits beside those that are left, if it fits at all
  pub left_fits : (room len : ℕ) (ms : List (List ℕ)) → len ≤ room → bytes_of size (left_for size room len ms) + len ≤ room
  left_fits room len [] h = omega arith
  left_fits room len (m ∷ ms) h = left_fits_by (nat_le (bytes_of size (m ∷ ms) + len) room) room len (m ∷ ms) _ refl (left_fits room len ms h)

  -- with it those that are left fill the room at most
  pub with_message_fits : (room : ℕ) (m : List ℕ) (ms : List (List ℕ)) → size m ≤ room → bytes_of size (with_message size room m ms) ≤ room
  with_message_fits room m ms h =
      let left = left_fits room (size m) ms h in
      let more = sum_by_push size (left_for size room (size m) ms) m in
      omega arith

  -- where there is room, it joins them all
  pub with_message_all : (room : ℕ) (m : List ℕ) (ms : List (List ℕ)) → bytes_of size ms + size m ≤ room → with_message size room m ms ≡ ms ++ m ∷ []
  with_message_all room m ms h = ap (λ left. left ++ m ∷ []) (left_for_all room (size m) ms (le-leb _ _ h))

  -- a list that ends in something isn't empty
  no_end : {X : Type 0} (front : List X) (x : X) → [] ≡ front ++ x ∷ [] → ⊥
  no_end front x e =
      let long = length-append front (x ∷ []) in
      let none = ap length e in
      omega arith

  fewest_by : (b : Bool) (room len : ℕ) (x : List ℕ) (ms : List (List ℕ)) → nat_le (bytes_of size (x ∷ ms) + len) room ≡ b
      → ((front : List (List ℕ)) (m : List ℕ) → gone_for size room len ms ≡ front ++ m ∷ [] → room < bytes_of size (m ∷ left_for size room len ms) + len)
      → (front : List (List ℕ)) (m : List ℕ) → cond b [] (x ∷ gone_for size room len ms) ≡ front ++ m ∷ [] → room < bytes_of size (m ∷ cond b (x ∷ ms) (left_for size room len ms)) + len
  fewest_by true room len x ms e rest front m h = absurd (no_end front m h)
  fewest_by false room len x ms e rest [] m h =
      let same : x ≡ m = ap (head_of x) h in
      let left : left_for size room len ms ≡ ms = ap (λ gone. gone ++ left_for size room len ms) (sym (ap tail_of h)) ∙ gone_and_left room len ms in
      rw (left, ← same) (leb-false _ _ e)
  fewest_by false room len x ms e rest (y ∷ front) m h = rest front m (ap tail_of h)

  -- nor did it fit beside the last that went
  pub fewest_go : (room len : ℕ) (ms front : List (List ℕ)) (m : List ℕ) → gone_for size room len ms ≡ front ++ m ∷ [] → room < bytes_of size (m ∷ left_for size room len ms) + len
  fewest_go room len [] front m h = absurd (no_end front m h)
  fewest_go room len (x ∷ ms) front m h = fewest_by (nat_le (bytes_of size (x ∷ ms) + len) room) room len x ms refl (fewest_go room len ms) front m h
