-- Where there are too many runs of numbers to acknowledge, the least goes: so many others lie above
-- it, each of which ends with a number that was taken, that its numbers may be forgotten.
use Rattle.std.proofs.Common.{◌≡◌, ℕ, ◌+◌, ◌-◌, ◌≤◌, ◌<◌, ◌⊎◌, Bool, true, false, not, ◌&&◌, ◌||◌, cond, List, [], ◌∷◌, filter, length, refl, sym, ap, ◌∙◌, subst, inl, inr, arith}
use Rattle.std.specs.Prelude.{nat_lt, ◌==◌}
use Rattle.std.specs.List.{list_any}
use Rattle.std.proofs.lemmas.Bool.{cases_lt, lt-ltb, le-ltb, ltb-true, eqb-true, and_parts, and_from, and_left}
use Rattle.quic_sets.specs.Runs.{Run, Has, AreRunsFrom, AreRuns}
use Rattle.quic_sets.proofs.RunLists.{at_least}
use Rattle.quic_recovery_core.specs.PendingAcks.{at_most, but_least}
use Rattle.quic_recovery_core.specs.declared.spaces.pending_acks.TheConstants.{MAX_ACK_RUNS}
use Rattle.quic_recovery_core.proofs.AckRunSteps.{at_most-many, at_most-few}
use Rattle.quic_headline.specs.Runs.{Packet, In, IsTaken}
use Rattle.quic_headline.specs.AckFrames.{ends_above}
use Rattle.quic_headline.proofs.Packets.Invariant.{AreTaken}

-- ---- what is chosen of a list

-- of what passes a test no less passes one that lets more pass
fewer : {X : Type 0} (f g : X → Bool) → ((x : X) → g x ≡ true → f x ≡ true) → (xs : List X) → length (filter g xs) ≤ length (filter f xs)
fewer f g more [] = omega arith
fewer f g more (x ∷ xs) = go (f x) (g x) (more x) (fewer f g more xs)
  where
    go : (a b : Bool) → (b ≡ true → a ≡ true) → length (filter g xs) ≤ length (filter f xs) → length (cond b (x ∷ filter g xs) (filter g xs)) ≤ length (cond a (x ∷ filter f xs) (filter f xs))
    go true true all rest = omega arith
    go true false all rest = omega arith
    go false true all rest = (let clash : false ≡ true = all refl in cc)
    go false false all rest = rest

-- and more, where one passes that alone
one_fewer : {X : Type 0} (f g : X → Bool) → ((x : X) → g x ≡ true → f x ≡ true) → (xs : List X) (x : X) → In x xs → f x ≡ true → g x ≡ false → length (filter g xs) < length (filter f xs)
one_fewer f g more [] x i some none = absurd i
one_fewer f g more (y ∷ xs) x (inl is) some none = here (f y) (g y) (ap f (sym is) ∙ some) (ap g (sym is) ∙ none) (fewer f g more xs)
  where
    here : (a b : Bool) → a ≡ true → b ≡ false → length (filter g xs) ≤ length (filter f xs) → length (cond b (y ∷ filter g xs) (filter g xs)) < length (cond a (y ∷ filter f xs) (filter f xs))
    here true true first second rest = cc
    here true false first second rest = omega arith
    here false b first second rest = cc
one_fewer f g more (y ∷ xs) x (inr i) some none = go (f y) (g y) (more y) (one_fewer f g more xs x i some none)
  where
    go : (a b : Bool) → (b ≡ true → a ≡ true) → length (filter g xs) < length (filter f xs) → length (cond b (y ∷ filter g xs) (filter g xs)) < length (cond a (y ∷ filter f xs) (filter f xs))
    go true true all rest = omega arith
    go true false all rest = omega arith
    go false true all rest = (let clash : false ≡ true = all refl in cc)
    go false false all rest = rest

-- ---- the packets that end a run

-- whether a packet above a number is one of them
abbrev ends_run : ℕ → List Packet → Packet → Bool
ends_run n packets p = nat_lt n p.number && not (list_any (λ q. q.number == p.number + 1) packets)

ends_more : (j k : ℕ) (packets : List Packet) → j ≤ k → (p : Packet) → ends_run k packets p ≡ true → ends_run j packets p ≡ true
ends_more j k packets le p is =
    let parts = and_parts (nat_lt k p.number) (not (list_any (λ q. q.number == p.number + 1) packets)) is in
    let over = ltb-true k p.number parts.0 in
    and_from (nat_lt j p.number) (not (list_any (λ q. q.number == p.number + 1) packets)) (lt-ltb j p.number (omega (arith, over, le))) parts.1

-- above a lesser number there are no fewer
pub ends_fewer : (j k : ℕ) (packets : List Packet) → j ≤ k → length (ends_above k packets) ≤ length (ends_above j packets)
ends_fewer j k packets le = fewer (ends_run j packets) (ends_run k packets) (ends_more j k packets le) packets

-- one of the packets has a number
found : (n : ℕ) (ps : List Packet) → list_any (λ q. q.number == n) ps ≡ true → IsTaken ps n
found n [] is = cc
found n (p ∷ ps) is = go (p.number == n) refl is (found n ps)
  where
    go : (b : Bool) → (p.number == n) ≡ b → (b || list_any (λ q. q.number == n) ps) ≡ true → (list_any (λ q. q.number == n) ps ≡ true → IsTaken ps n) → IsTaken (p ∷ ps) n
    go true same is rest = record { packet = p; was_taken = inl refl; is = eqb-true p.number n same }
    go false same is rest = (let t = rest is in record { packet = t.packet; was_taken = inr t.was_taken; is = t.is })

-- ---- the least run goes

-- Of the packets that were taken a set has the numbers, but for some that needn't be named, nor
-- need those below them.
module _ (packets : List Packet) (Out : ℕ → Type 0) (down : (j k : ℕ) → j ≤ k → Out k → Out j) where
  -- a number is in the set, or needn't be named
  abbrev pub Kept : List Run → ℕ → Type 0
  Kept rs k = Has rs k ⊎ Out k

  -- so it is of each number from one on
  abbrev KeptFrom : ℕ → List Run → Type 0
  KeptFrom m rs = (p : Packet) → In p packets → m ≤ p.number → Kept rs p.number

  -- behind the first run
  behind : (m : ℕ) (r : Run) (rs : List Run) → m ≤ r.end + 1 → KeptFrom m (r ∷ rs) → KeptFrom (r.end + 1) rs
  behind m r rs low kept p i le = go (kept p i (omega (arith, low, le)))
    where
      go : Kept (r ∷ rs) p.number → Kept rs p.number
      go (inl (inl here)) = absurd (omega (arith, here.1, le))
      go (inl (inr there)) = inl there
      go (inr out) = inr out

  -- a number below runs needn't be named, or so many packets above it end a run
  ends_of : (m k : ℕ) (rs : List Run) → k < m → AreRunsFrom m rs → AreTaken rs packets → KeptFrom m rs → Out k ⊎ (length rs ≤ length (ends_above k packets))
  ends_of m k [] lt runs taken kept = inr (omega arith)
  ends_of m k (r ∷ rs) lt runs taken kept = next (list_any (λ q. q.number == r.end) packets) refl (ends_of (r.end + 1) r.end rs (omega arith) runs.2 (λ j has. taken j (inr has)) (behind m r rs (omega (arith, runs.0, runs.1)) kept))
    where
      -- the number behind the run isn't in the set
      outside : (p : Packet) → p.number ≡ r.end → Kept (r ∷ rs) p.number → Out k
      outside p is (inl (inl here)) = absurd (omega (arith, here.1, is))
      outside p is (inl (inr there)) = absurd (let le = at_least p.number (r.end + 1) rs runs.2 there in omega (arith, le, is))
      outside p is (inr out) = down k p.number (omega (arith, lt, runs.0, runs.1, is)) out

      -- where none has that number, a packet ends the run
      last : list_any (λ q. q.number == r.end) packets ≡ false → Out r.end ⊎ (length rs ≤ length (ends_above r.end packets)) → Out k ⊎ (length (r ∷ rs) ≤ length (ends_above k packets))
      last none (inl out) = inl (down k r.end (omega (arith, lt, runs.0, runs.1)) out)
      last none (inr le) =
          let t : IsTaken packets (r.end - 1) = taken (r.end - 1) (inl (omega (arith, runs.1), omega (arith, runs.1))) in
          let p : Packet = t.packet in
          let is : p.number ≡ r.end - 1 = t.is in
          let after : p.number + 1 ≡ r.end = omega (arith, is, runs.1) in
          let free : not (list_any (λ q. q.number == p.number + 1) packets) ≡ true = ap (λ (n : ℕ). not (list_any (λ q. q.number == n) packets)) after ∙ ap not none in
          let over : nat_lt k p.number ≡ true = lt-ltb k p.number (omega (arith, lt, runs.0, runs.1, is)) in
          let under : nat_lt r.end p.number ≡ false = le-ltb r.end p.number (omega (arith, runs.1, is)) in
          let one = one_fewer (ends_run k packets) (ends_run r.end packets) (ends_more k r.end packets (omega (arith, lt, runs.0, runs.1))) packets p t.was_taken
          (and_from (nat_lt k p.number) (not (list_any (λ q. q.number == p.number + 1) packets)) over free)
          (and_left (nat_lt r.end p.number) (not (list_any (λ q. q.number == p.number + 1) packets)) under) in
          inr (omega (arith, le, one))

      next : (b : Bool) → list_any (λ q. q.number == r.end) packets ≡ b → Out r.end ⊎ (length rs ≤ length (ends_above r.end packets)) → Out k ⊎ (length (r ∷ rs) ≤ length (ends_above k packets))
      next true some rest = (let t = found r.end packets some in
          let is = t.is in
          inl (outside t.packet is (kept t.packet t.was_taken (omega (arith, is, runs.0, runs.1)))))
      next false none rest = last none rest

  module _ (many : (k : ℕ) → MAX_ACK_RUNS ≤ length (ends_above k packets) → Out k) where
    -- what was in the set is so without the least of too many runs, or needn't be named
    but_least_kept : (rs : List Run) → AreRuns rs → AreTaken rs packets → KeptFrom 0 rs → MAX_ACK_RUNS < length rs → (k : ℕ) → Kept rs k → Kept (but_least rs) k
    but_least_kept [] runs taken kept over k was = was
    but_least_kept (r ∷ rs) runs taken kept over k (inl (inr there)) = inl there
    but_least_kept (r ∷ rs) runs taken kept over k (inr out) = inr out
    but_least_kept (r ∷ rs) runs taken kept over k (inl (inl here)) =
        go (ends_of (r.end + 1) k rs (omega (arith, here.1)) runs.2 (λ j has. taken j (inr has)) (behind 0 r rs (omega arith) kept))
      where
        go : Out k ⊎ (length rs ≤ length (ends_above k packets)) → Kept rs k
        go (inl out) = inr out
        go (inr le) = inr (many k (omega (arith, over, le)))

    -- so it is of each packet where the least goes, if there are too many
    pub most_kept : (rs : List Run) → AreRuns rs → AreTaken rs packets → ((p : Packet) → In p packets → Kept rs p.number) → (p : Packet) → In p packets → Kept (at_most rs) p.number
    most_kept rs runs taken kept p i = elim (cases_lt MAX_ACK_RUNS (length rs)) [
      | inl over ↦ subst (λ (xs : List Run). Kept xs p.number) (sym (at_most-many rs over)) (but_least_kept rs runs taken (λ q j low. kept q j) over p.number (kept p i))
      | inr few ↦ subst (λ (xs : List Run). Kept xs p.number) (sym (at_most-few rs few)) (kept p i)
    ]
