-- A datagram opens as it was sent where its taker took none above it: its number was cut against
-- one that the taker took.
use Rattle.std.proofs.Common.{◌≡◌, ℕ, zero, suc, ◌+◌, ◌≤◌, Bool, true, List, [], ◌∷◌, Some, refl, sym, ap, ◌∙◌, subst, inl, inr, arith}
use Rattle.std.specs.Prelude.{slice_get}
use Rattle.std.proofs.lemmas.Bool.{eq-eqb}
use Rattle.quic_wire_core.specs.declared.stream_id.Side.{Side}
use Rattle.quic_wire_core.specs.StreamId.{other_side}
use Rattle.quic_packet.specs.Number.{truncated, expanded}
use Rattle.quic_packet.proofs.Numbers as numbers
use Rattle.quic_machine.specs.Policy.{Policy, CanOpen}
use Rattle.quic_machine.specs.Start.{IsLawful}
use Rattle.quic_machine.specs.Machine.{World}
use Rattle.quic_headline.specs.Runs.{Run, Packet, In, given_until, AreServed, opens_by_key, expected_behind}
use Rattle.quic_headline.specs.Observer.{Sent, frames_opened, took, sents_until}
use Rattle.quic_headline.specs.Headline.{IsHonest, NoneAbove, OpensAs, opened_there, NewestOpens}
use Rattle.quic_headline.proofs.Packets.Invariant.{InStep, IsSent}
use Rattle.quic_headline.proofs.Packets.Delivered.{shown, shown_if, expands, by_key_given, frames_of_payload}
use Rattle.quic_headline.proofs.Packets.Group.{PacketsHold}
use Rattle.quic_headline.proofs.Packets.Sight.{Sight}
use Rattle.quic_headline.proofs.Packets.Referring.{Refers, expected_most}
use Rattle.quic_headline.proofs.Places.Parties.{Party}
use Rattle.quic_headline.proofs.Places.Groups.{And}
use Rattle.quic_headline.proofs.Places.Placed.{Placed, placed_less, party_at}
use Rattle.quic_headline.proofs.Places.Openings.{took_other, given_here}
use Rattle.quic_headline.proofs.Places.Flights.{own_at}
use Rattle.quic_headline.proofs.Timers.Watched.{Observed}

-- ---- one datagram

-- what stands at a place of both lists
pub stands_both : {Y X : Type 0} (P : Y → X → Type 0) (ys : List Y) (xs : List X) (k : ℕ) (y : Y) (x : X) → InStep P ys xs → slice_get ys k ≡ Some y → slice_get xs k ≡ Some x → In y ys × P y x
stands_both P (v ∷ ys) (u ∷ xs) zero y x a e f =
    let same : v ≡ y = cc in
    let other : u ≡ x = cc in
    (inl (sym same), subst (λ (z : _). P z x) same (subst (λ (z : _). P v z) other a.0))
stands_both P (v ∷ ys) (u ∷ xs) (suc k) y x a e f =
    let rest = stands_both P ys xs k y x a.1 e f in
    (inr rest.0, rest.1)
stands_both P [] [] k y x a e f = cc
stands_both P [] (u ∷ xs) k y x a e f = absurd a
stands_both P (v ∷ ys) [] k y x a e f = absurd a

-- one that was sent so opens so where this number is expected, which is neither below what its
-- number was cut against nor more than one above its number
opens_sent : (p q : Policy) (s : Sent) (d : List ℕ) → IsSent p s d → CanOpen p q → IsLawful p → (x : ℕ) → s.reference ≤ x → x ≤ s.number + 1 → OpensAs s (opens_by_key q x d)
opens_sent p q s d g mates lawful x low high = record {
  opening = shown s.number s.reference g.payload;
  is = is;
  number = refl;
  frames = ap frames_opened is ∙ frames_of_payload s.frames g.payload g.spells;
}
  where
    expanded_is : expands s.number s.reference x ≡ true
    expanded_is = eq-eqb (expanded (truncated s.number s.reference) x) s.number (numbers.newest_opens s.number s.reference x g.near low high)

    is : opens_by_key q x d ≡ Some (shown s.number s.reference g.payload)
    is =
        by_key_given p q s.id s.number s.reference s.frames d g mates lawful x
        ∙ ap (λ (b : Bool). shown_if b s.number s.reference g.payload) expanded_is

-- ---- at a place

module _ (r : Run) (end : World) (honest : IsHonest r) (side : Side) (i : ℕ) (at : Placed (And Observed Refers) r end side i) where
  abbrev here : Party
  here = party_at r i at.world side at.sents

  abbrev there : Party
  there = party_at r i at.world (other_side side) at.theirs

  abbrev packets : Placed PacketsHold r end side i
  packets = placed_less (And Observed Refers) PacketsHold r end side i (λ x y h. h.0.0) at

  newest_at : (place : ℕ) (d : List ℕ) (s : Sent) → slice_get (given_until r side i) place ≡ Some d → slice_get (sents_until r side i) place ≡ Some s → NoneAbove (took r (other_side side) i) s.number → OpensAs s (opened_there r side i d)
  newest_at place d s given sent none =
      let own : sents_until r side i ≡ at.sents = own_at r end honest side i (placed_less (And Observed Refers) Sight r end side i (λ x y h. h.0.1) at) in
      let found = stands_both (IsSent here.policy) at.sents here.given place s d at.gives.0.0.gives.each
      (subst (λ (ss : List Sent). slice_get ss place ≡ Some s) own sent)
      (subst (λ (ds : List (List ℕ)). slice_get ds place ≡ Some d) (given_here r end honest side i packets) given) in
      let low : s.reference ≤ expected_behind (took r (other_side side) i) =
      subst (λ (ps : List Packet). s.reference ≤ expected_behind ps) (sym (took_other r end honest side i packets)) (at.gives.1.behind s found.0) in
      let high : expected_behind (took r (other_side side) i) ≤ s.number + 1 =
      expected_most (took r (other_side side) i) (s.number + 1) (λ packet j. (let most = none packet j in omega arith)) in
      opens_sent here.policy there.policy s d found.1 at.joined.to_y at.joined.x_lawful (expected_behind (took r (other_side side) i)) low high

-- the clause, where what is observed, and what numbers were cut against, hold at each place
pub newest_opens : (r : Run) (end : World) → IsHonest r → ((side : Side) (i : ℕ) → AreServed r i → Placed (And Observed Refers) r end side i) → NewestOpens r
newest_opens r end honest all side i place d s served = newest_at r end honest side i (all side i served) place d s
