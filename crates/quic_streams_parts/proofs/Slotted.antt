-- What a call on slots makes of the values that they hold.
use Rattle.std.proofs.Common.{◌≡◌, ℕ, suc, zero, ◌+◌, ◌-◌, ◌<◌, List, [], ◌∷◌, ◌++◌, length, get_or, set, Option, Some, None, refl, sym, ap, ◌∙◌, subst, append_assoc, append-nil, arith}
use Rattle.quic_streams_parts.specs.Table.{Table, at, put, without, added}
use Rattle.quic_streams_parts.specs.TableLaws.{nat_cmp-same}
use Rattle.quic_streams_parts.specs.Slots.{in_slot, numbered, AllBelow, AllFrom}
use Rattle.quic_streams_parts.proofs.Joined.{at_below, at_from, without_below, without_from, put_below, put_from, added_below, added_from, from_less, below_more, below_append}

module _ {A : Type 0} where
  -- what a slot holds comes before the others
  pub in_front : (n : ℕ) (o : Option A) (es : Table A) → in_slot n o es ≡ in_slot n o [] ++ es
  in_front n None es = refl
  in_front n (Some p) es = refl

  -- one slot is below the next number
  pub one_below : (n : ℕ) (o : Option A) → AllBelow (n + 1) (in_slot n o [])
  one_below n None = tt
  one_below n (Some p) = (omega arith, tt)

  -- no number lies below the first
  pub all_from : (b : ℕ) (os : List (Option A)) → AllFrom b (numbered b os)
  all_from b [] = tt
  all_from b (None ∷ os) = from_less (b + 1) b (numbered (b + 1) os) (omega arith) (all_from (b + 1) os)
  all_from b (Some p ∷ os) = (omega arith, from_less (b + 1) b (numbered (b + 1) os) (omega arith) (all_from (b + 1) os))

  -- a slot more
  pub numbered_push : (b : ℕ) (os : List (Option A)) (o : Option A) → numbered b (os ++ o ∷ []) ≡ numbered b os ++ in_slot (b + length os) o []
  numbered_push b [] o = ap (λ n. in_slot n o []) (omega arith)
  numbered_push b (q ∷ os) o =
      ap (in_slot b q) (numbered_push (b + 1) os o)
      ∙ in_front b q _
      ∙ sym (append_assoc (in_slot b q []) (numbered (b + 1) os) (in_slot (b + 1 + length os) o []))
      ∙ ap (λ es. es ++ in_slot (b + 1 + length os) o []) (sym (in_front b q (numbered (b + 1) os)))
      ∙ ap (λ n. in_slot b q (numbered (b + 1) os) ++ in_slot n o []) (omega arith)

  -- ---- one slot

  one_at : (b : ℕ) (o : Option A) → at (in_slot b o []) b ≡ o
  one_at b None = refl
  one_at b (Some p) = rw (nat_cmp-same b) refl

  one_without : (b : ℕ) (o : Option A) → without (in_slot b o []) b ≡ []
  one_without b None = refl
  one_without b (Some p) = rw (nat_cmp-same b) refl

  one_added : (b : ℕ) (o : Option A) (p : A) → added (in_slot b o []) b p ≡ (b, p) ∷ []
  one_added b None p = refl
  one_added b (Some q) p = rw (nat_cmp-same b) refl

  one_put : (b : ℕ) (q p : A) → put (in_slot b (Some q) []) b p ≡ (b, p) ∷ []
  one_put b q p = rw (nat_cmp-same b) refl

  -- ---- the slot at an index

  pub numbered_at : (b : ℕ) (os : List (Option A)) (i : ℕ) → at (numbered b os) (b + i) ≡ get_or os i None
  numbered_at b [] i = refl
  numbered_at b (o ∷ os) zero =
      let here : at (numbered b (o ∷ os)) b ≡ o =
      ap (λ es. at es b) (in_front b o (numbered (b + 1) os)) ∙ at_below (b + 1) (in_slot b o []) (numbered (b + 1) os) b (all_from (b + 1) os) (omega arith) ∙ one_at b o in
      let e : b + zero ≡ b = omega arith in
      rw e here
  numbered_at b (o ∷ os) (suc i) =
      let e : b + suc i ≡ b + 1 + i = omega arith in
      ap (λ n. at (numbered b (o ∷ os)) n) e
      ∙ ap (λ es. at es (b + 1 + i)) (in_front b o (numbered (b + 1) os))
      ∙ at_from (b + 1) (in_slot b o []) (numbered (b + 1) os) (b + 1 + i) (one_below b o) (omega arith)
      ∙ numbered_at (b + 1) os i

  pub numbered_clear : (b : ℕ) (os : List (Option A)) (i : ℕ) → numbered b (set os i None) ≡ without (numbered b os) (b + i)
  numbered_clear b [] i = refl
  numbered_clear b (o ∷ os) zero =
      let here : without (numbered b (o ∷ os)) b ≡ numbered (b + 1) os =
      ap (λ es. without es b) (in_front b o (numbered (b + 1) os)) ∙ without_below (b + 1) (in_slot b o []) (numbered (b + 1) os) b (all_from (b + 1) os) (omega arith)
      ∙ ap (λ es. es ++ numbered (b + 1) os) (one_without b o) in
      let e : b + zero ≡ b = omega arith in
      rw e (sym here)
  numbered_clear b (o ∷ os) (suc i) =
      let e : b + suc i ≡ b + 1 + i = omega arith in
      in_front b o (numbered (b + 1) (set os i None))
      ∙ ap (λ es. in_slot b o [] ++ es) (numbered_clear (b + 1) os i)
      ∙ sym (without_from (b + 1) (in_slot b o []) (numbered (b + 1) os) (b + 1 + i) (one_below b o) (omega arith))
      ∙ ap (λ es. without es (b + 1 + i)) (sym (in_front b o (numbered (b + 1) os)))
      ∙ ap (λ n. without (numbered b (o ∷ os)) n) (sym e)

  pub numbered_set : (b : ℕ) (os : List (Option A)) (i : ℕ) (p : A) → i < length os → numbered b (set os i (Some p)) ≡ added (numbered b os) (b + i) p
  numbered_set b [] i p l = absurd (omega arith)
  numbered_set b (o ∷ os) zero p l =
      let here : added (numbered b (o ∷ os)) b p ≡ (b, p) ∷ numbered (b + 1) os =
      ap (λ es. added es b p) (in_front b o (numbered (b + 1) os)) ∙ added_below (b + 1) (in_slot b o []) (numbered (b + 1) os) b p (all_from (b + 1) os) (omega arith)
      ∙ ap (λ es. es ++ numbered (b + 1) os) (one_added b o p) in
      let e : b + zero ≡ b = omega arith in
      rw e (sym here)
  numbered_set b (o ∷ os) (suc i) p l =
      let e : b + suc i ≡ b + 1 + i = omega arith in
      in_front b o (numbered (b + 1) (set os i (Some p)))
      ∙ ap (λ es. in_slot b o [] ++ es) (numbered_set (b + 1) os i p (omega arith))
      ∙ sym (added_from (b + 1) (in_slot b o []) (numbered (b + 1) os) (b + 1 + i) p (one_below b o) (omega arith))
      ∙ ap (λ es. added es (b + 1 + i) p) (sym (in_front b o (numbered (b + 1) os)))
      ∙ ap (λ n. added (numbered b (o ∷ os)) n p) (sym e)

  pub numbered_put : (b : ℕ) (os : List (Option A)) (i : ℕ) (q p : A) → get_or os i None ≡ Some q → numbered b (set os i (Some p)) ≡ put (numbered b os) (b + i) p
  numbered_put b [] i q p is = absurd cc
  numbered_put b (o ∷ os) zero q p is =
      let here : put (numbered b (o ∷ os)) b p ≡ (b, p) ∷ numbered (b + 1) os =
      ap (λ es. put es b p) (in_front b o (numbered (b + 1) os)) ∙ put_below (b + 1) (in_slot b o []) (numbered (b + 1) os) b p (all_from (b + 1) os) (omega arith)
      ∙ ap (λ r. put (in_slot b r []) b p ++ numbered (b + 1) os) is ∙ ap (λ es. es ++ numbered (b + 1) os) (one_put b q p) in
      let e : b + zero ≡ b = omega arith in
      rw e (sym here)
  numbered_put b (o ∷ os) (suc i) q p is =
      let e : b + suc i ≡ b + 1 + i = omega arith in
      in_front b o (numbered (b + 1) (set os i (Some p)))
      ∙ ap (λ es. in_slot b o [] ++ es) (numbered_put (b + 1) os i q p is)
      ∙ sym (put_from (b + 1) (in_slot b o []) (numbered (b + 1) os) (b + 1 + i) p (one_below b o) (omega arith))
      ∙ ap (λ es. put es (b + 1 + i) p) (sym (in_front b o (numbered (b + 1) os)))
      ∙ ap (λ n. put (numbered b (o ∷ os)) n p) (sym e)

  -- the first slot is given up, and what it held goes behind other values
  pub moved : (b : ℕ) (o : Option A) (os : List (Option A)) (es : Table A) → (es ++ in_slot b o []) ++ numbered (b + 1) os ≡ es ++ numbered b (o ∷ os)
  moved b o os es = append_assoc es (in_slot b o []) (numbered (b + 1) os) ∙ ap (λ xs. es ++ xs) (sym (in_front b o (numbered (b + 1) os)))

  pub moved_below : (b : ℕ) (o : Option A) (es : Table A) → AllBelow b es → AllBelow (b + 1) (es ++ in_slot b o [])
  moved_below b o es all = below_append (b + 1) es (in_slot b o []) (below_more b (b + 1) es (omega arith) all) (one_below b o)

  -- an empty slot more at the end
  pub numbered_widen : (b : ℕ) (os : List (Option A)) → numbered b (os ++ None ∷ []) ≡ numbered b os
  numbered_widen b os = numbered_push b os None ∙ append-nil (numbered b os)
