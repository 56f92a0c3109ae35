-- The slot of a number, as it is looked up and changed.
use Rattle.std.proofs.Common.{◌≡◌, ℕ, ◌+◌, ◌-◌, ◌≤◌, ◌<◌, List, length, get_or, set, Option, Some, None, sym, ap, ◌∙◌, true, false, ⊎_elim, arith}
use Rattle.std.proofs.lemmas.Bool.{cases_lt}
use Rattle.std.proofs.lemmas.List.{get_or_read, get_or_past}
use Rattle.quic_streams_parts.specs.Table.{at, put, without, added}
use Rattle.quic_streams_parts.specs.TableLaws.{without-unknown}
use Rattle.quic_streams_parts.specs.Slots.{numbered}
use Rattle.quic_streams_parts.proofs.Slotted.{numbered_at, numbered_clear, numbered_set, numbered_put}

-- what isn't below
pub past : (i n : ℕ) → (i < n → false ≡ true) → n ≤ i
past i n h = ⊎_elim (λ (l : i < n). absurd (never (h l))) (λ (le : n ≤ i). le) (cases_lt i n)
  where
    never : false ≡ true → ⊥
    never e = cc

module _ {A : Type 0} where
  module _ (b n : ℕ) (os : List (Option A)) (le : b ≤ n) where
    -- the number of the slot
    there : b + (n - b) ≡ n
    there = omega arith

    at_slot : at (numbered b os) n ≡ get_or os (n - b) None
    at_slot = ap (at (numbered b os)) (sym there) ∙ numbered_at b os (n - b)

    -- what a slot holds that was looked up
    pub slot_found : (o : Option A) → n - b < length os → o ≡ get_or os (n - b) o → o ≡ at (numbered b os) n
    slot_found o l is = get_or_read os (n - b) o l is None ∙ sym at_slot

    -- no slot
    pub slot_past : length os ≤ n - b → at (numbered b os) n ≡ None
    slot_past past = at_slot ∙ get_or_past os (n - b) None past

    pub without_past : length os ≤ n - b → without (numbered b os) n ≡ numbered b os
    without_past past = without-unknown (numbered b os) n (slot_past past)

    -- a slot is emptied
    pub slot_cleared : (new : List (Option A)) → new ≡ set os (n - b) None → numbered b new ≡ without (numbered b os) n
    slot_cleared new is = ap (numbered b) is ∙ numbered_clear b os (n - b) ∙ ap (without (numbered b os)) there

    -- a slot gets a packet
    pub slot_set : (new : List (Option A)) (p : A) → n - b < length os → new ≡ set os (n - b) (Some p) → numbered b new ≡ added (numbered b os) n p
    slot_set new p l is = ap (numbered b) is ∙ numbered_set b os (n - b) p l ∙ ap (λ k. added (numbered b os) k p) there

    -- a slot that holds a value gets another
    pub slot_put : (q p : A) → at (numbered b os) n ≡ Some q → numbered b (set os (n - b) (Some p)) ≡ put (numbered b os) n p
    slot_put q p is = numbered_put b os (n - b) q p (sym at_slot ∙ is) ∙ ap (λ k. put (numbered b os) k p) there
