-- The first packet from a number on, and the last of a range, where some packets come before
-- others.
use Rattle.std.proofs.Common.{◌≡◌, ℕ, ◌+◌, ◌≤◌, nat_le, List, [], ◌∷◌, ◌++◌, length, Option, Some, None, refl, ap, ◌∙◌, append-nil, arith}
use Rattle.std.specs.Option.{option_map}
use Rattle.std.proofs.lemmas.List.Elements.{filter-append}
use Rattle.quic_streams_parts.specs.Table.{Table}
use Rattle.quic_sent_packets.specs.Packets.{TrackedPacket, oldest, newest, newest_behind, from, within, is_within}
use Rattle.quic_sent_packets.specs.Places.{numbered}

-- the number of a packet
abbrev pub number_of : Option (ℕ × TrackedPacket) → Option ℕ
number_of r = option_map (λ p. p.0) r

module _ (low : ℕ) (xs ys : Table TrackedPacket) where
  -- it is the first of the first ones, if there is one
  pub first_of_both : (p : ℕ × TrackedPacket) (ps : Table TrackedPacket) → from low xs ≡ p ∷ ps → number_of (oldest (from low (xs ++ ys))) ≡ Some p.0
  first_of_both p ps is = ap (λ es. number_of (oldest es)) (filter-append (λ q. nat_le low q.0) xs ys ∙ ap (λ es. es ++ from low ys) is)

  -- or else of the others
  pub first_of_others : from low xs ≡ [] → number_of (oldest (from low (xs ++ ys))) ≡ number_of (oldest (from low ys))
  first_of_others none = ap (λ es. number_of (oldest es)) (filter-append (λ q. nat_le low q.0) xs ys ∙ ap (λ es. es ++ from low ys) none)

-- what comes last of both
behind_both : (ps qs : Table TrackedPacket) (n : ℕ) → number_of (newest qs) ≡ Some n → number_of (newest (ps ++ qs)) ≡ Some n
behind_both ps [] n is = absurd cc
behind_both [] (q ∷ qs) n is = is
behind_both (p ∷ ps) (q ∷ qs) n is = ap (λ r. Some r.0) (go p ps) ∙ is
  where
    go : (p : ℕ × TrackedPacket) (ps : Table TrackedPacket) → newest_behind p (ps ++ q ∷ qs) ≡ newest_behind q qs
    go p [] = refl
    go p (x ∷ ps) = go x ps

before_none : (ps qs : Table TrackedPacket) → number_of (newest qs) ≡ None → number_of (newest (ps ++ qs)) ≡ number_of (newest ps)
before_none ps [] none = ap (λ es. number_of (newest es)) (append-nil ps)
before_none ps (q ∷ qs) none = absurd cc

module _ (low high : ℕ) (xs ys : Table TrackedPacket) where
  -- it is the last of the others, if there is one
  pub last_of_both : (n : ℕ) → number_of (newest (within low high ys)) ≡ Some n → number_of (newest (within low high (xs ++ ys))) ≡ Some n
  last_of_both n is = ap (λ es. number_of (newest es)) (filter-append (λ q. is_within low high q.0) xs ys) ∙ behind_both (within low high xs) (within low high ys) n is

  -- or else of the first ones
  pub last_of_first : number_of (newest (within low high ys)) ≡ None → number_of (newest (within low high (xs ++ ys))) ≡ number_of (newest (within low high xs))
  last_of_first none = ap (λ es. number_of (newest es)) (filter-append (λ q. is_within low high q.0) xs ys) ∙ before_none (within low high xs) (within low high ys) none

-- no more packets than places
pub few_held : (b : ℕ) (os : List (Option TrackedPacket)) → length (numbered b os) ≤ length os
few_held b [] = omega arith
few_held b (None ∷ os) = let few = few_held (b + 1) os in omega arith
few_held b (Some p ∷ os) = let few = few_held (b + 1) os in omega arith
