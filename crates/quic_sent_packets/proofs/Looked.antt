-- The place of a number, as it is looked up and changed.
use Rattle.std.proofs.Common.{◌≡◌, ℕ, ◌+◌, ◌-◌, ◌≤◌, ◌<◌, List, length, get_or, set, Option, Some, None, IfSome, IfNone, sym, ap, ◌∙◌, subst, true, false, ⊎_elim, arith}
use Rattle.std.proofs.lemmas.Bool.{cases_lt}
use Rattle.std.proofs.lemmas.List.{get_or_read, get_or_past}
use Rattle.quic_streams_parts.specs.Table.{at, put, without, added}
use Rattle.quic_streams_parts.specs.TableLaws.{without-unknown}
use Rattle.quic_sent_packets.specs.Packets.{TrackedPacket, without_record}
use Rattle.quic_sent_packets.specs.Places.{numbered}
use Rattle.quic_sent_packets.proofs.Numbered.{numbered_at, numbered_clear, numbered_set, numbered_put}

-- what isn't below
pub past : (i n : ℕ) → (i < n → false ≡ true) → n ≤ i
past i n h = ⊎_elim (λ (l : i < n). absurd (never (h l))) (λ (le : n ≤ i). le) (cases_lt i n)
  where
    never : false ≡ true → ⊥
    never e = cc

module _ (b n : ℕ) (os : List (Option TrackedPacket)) (le : b ≤ n) where
  -- the number of the place
  there : b + (n - b) ≡ n
  there = omega arith

  at_place : at (numbered b os) n ≡ get_or os (n - b) None
  at_place = ap (at (numbered b os)) (sym there) ∙ numbered_at b os (n - b)

  -- what a place holds that was looked up
  pub place_found : (o : Option TrackedPacket) → n - b < length os → o ≡ get_or os (n - b) o → o ≡ at (numbered b os) n
  place_found o l is = get_or_read os (n - b) o l is None ∙ sym at_place

  -- no place
  pub place_past : length os ≤ n - b → at (numbered b os) n ≡ None
  place_past past = at_place ∙ get_or_past os (n - b) None past

  pub without_past : length os ≤ n - b → without (numbered b os) n ≡ numbered b os
  without_past past = without-unknown (numbered b os) n (place_past past)

  -- a place is emptied
  pub place_cleared : (new : List (Option TrackedPacket)) → new ≡ set os (n - b) None → numbered b new ≡ without (numbered b os) n
  place_cleared new is = ap (numbered b) is ∙ numbered_clear b os (n - b) ∙ ap (without (numbered b os)) there

  -- a place gets a packet
  pub place_set : (new : List (Option TrackedPacket)) (p : TrackedPacket) → n - b < length os → new ≡ set os (n - b) (Some p) → numbered b new ≡ added (numbered b os) n p
  place_set new p l is = ap (numbered b) is ∙ numbered_set b os (n - b) p l ∙ ap (λ k. added (numbered b os) k p) there

  -- what has to be sent again is taken from what a place holds
  pub place_taken : (o w : Option TrackedPacket) (new : List (Option TrackedPacket)) → n - b < length os → o ≡ get_or os (n - b) o → new ≡ set os (n - b) w → IfSome o (λ p. w ≡ Some (without_record p))
      → IfSome (at (numbered b os) n) (λ p. numbered b new ≡ put (numbered b os) n (without_record p))
  place_taken o w new l found is taken = subst (λ r. IfSome r (λ p. numbered b new ≡ put (numbered b os) n (without_record p))) (place_found o l found) (go o (sym (get_or_read os (n - b) o l found None)) taken)
    where
      go : (r : Option TrackedPacket) → get_or os (n - b) None ≡ r → IfSome r (λ p. w ≡ Some (without_record p)) → IfSome r (λ p. numbered b new ≡ put (numbered b os) n (without_record p))
      go None held e = tt
      go (Some p) held e = ap (numbered b) is ∙ ap (λ v. numbered b (set os (n - b) v)) e ∙ numbered_put b os (n - b) p (without_record p) held ∙ ap (λ k. put (numbered b os) k (without_record p)) there

  pub place_kept : (o w : Option TrackedPacket) (new : List (Option TrackedPacket)) → n - b < length os → o ≡ get_or os (n - b) o → new ≡ set os (n - b) w → IfNone o (w ≡ None) → IfNone (at (numbered b os) n) (numbered b new ≡ numbered b os)
  place_kept o w new l found is none = subst (λ r. IfNone r (numbered b new ≡ numbered b os)) (place_found o l found) (go o (place_found o l found) none)
    where
      go : (r : Option TrackedPacket) → r ≡ at (numbered b os) n → IfNone r (w ≡ None) → IfNone r (numbered b new ≡ numbered b os)
      go (Some p) held e = tt
      go None held e = place_cleared new (is ∙ ap (λ v. set os (n - b) v) e) ∙ without-unknown (numbered b os) n (sym held)
