-- What is kept of bursts, over whole histories.
use Rattle.std.proofs.Common.{◌≡◌, ℕ, ◌+◌, ◌≤◌, List, [], ◌∷◌, leb, ltb, cond, min, max, take, length, Bool, true, false, zero, suc, refl, sym, ap, ◌∙◌, arith, Some, None, Option}
use Rattle.std.specs.Prelude.{◌==◌, eqb}
use Rattle.std.specs.List.{count_by}
use Rattle.std.proofs.lemmas.Bool.{leb-true, leb-false}
use Rattle.std.proofs.lemmas.List.{length-take}
use Rattle.std.proofs.lemmas.List.Sums.{sum_by-cons}
use Rattle.quic_congestion.specs.Bursts.{Burst, Bursts, placed, kept_with, kept_above, suspected, judged, judged_if, is_suspicious, ended, begun_at, lost_behind, is_black_hole, Sign, PacketLost, PacketAcknowledged, ProbeAcknowledged, LossesTold, bursts_after, bursts_over, no_bursts}
use Rattle.quic_congestion.specs.BurstsLaw.{AreAtMost, AreDescending}

-- ---- the order of sizes

at_most_more : (x y : ℕ) (xs : List ℕ) → x ≤ y → AreAtMost x xs → AreAtMost y xs
at_most_more x y [] l h = tt
at_most_more x y (z ∷ zs) l h = let k = h.0 in (omega arith, at_most_more x y zs l h.1)

at_most_placed : (x s : ℕ) (xs : List ℕ) → s ≤ x → AreAtMost x xs → AreAtMost x (placed s xs)
at_most_placed x s [] l h = (l, tt)
at_most_placed x s (y ∷ ys) l h = go (leb y s) (at_most_placed x s ys l h.1)
  where
    go : (b : Bool) → AreAtMost x (placed s ys) → AreAtMost x (cond b (s ∷ y ∷ ys) (y ∷ placed s ys))
    go true i = (l, h)
    go false i = (h.0, i)

pub placed_descending : (s : ℕ) (xs : List ℕ) → AreDescending xs → AreDescending (placed s xs)
placed_descending s [] h = (tt, tt)
placed_descending s (y ∷ ys) h = go (leb y s) refl (placed_descending s ys h.1)
  where
    go : (b : Bool) → leb y s ≡ b → AreDescending (placed s ys) → AreDescending (cond b (s ∷ y ∷ ys) (y ∷ placed s ys))
    go true e i = let l = leb-true y s e in ((l, at_most_more y s ys l h.0), h)
    go false e i = let k = leb-false y s e in let l : s ≤ y = omega arith in (at_most_placed y s ys l h.0, i)

at_most_taken : (x n : ℕ) (xs : List ℕ) → AreAtMost x xs → AreAtMost x (take n xs)
at_most_taken x zero xs h = tt
at_most_taken x (suc n) [] h = tt
at_most_taken x (suc n) (y ∷ ys) h = (h.0, at_most_taken x n ys h.1)

taken_descending : (n : ℕ) (xs : List ℕ) → AreDescending xs → AreDescending (take n xs)
taken_descending zero xs h = tt
taken_descending (suc n) [] h = tt
taken_descending (suc n) (y ∷ ys) h = (at_most_taken y n ys h.0, taken_descending n ys h.1)

at_most_above : (x s : ℕ) (xs : List ℕ) → AreAtMost x xs → AreAtMost x (kept_above s xs)
at_most_above x s [] h = tt
at_most_above x s (y ∷ ys) h = go (ltb s y) (at_most_above x s ys h.1)
  where
    go : (b : Bool) → AreAtMost x (kept_above s ys) → AreAtMost x (cond b (y ∷ kept_above s ys) (kept_above s ys))
    go true i = (h.0, i)
    go false i = i

above_descending : (s : ℕ) (xs : List ℕ) → AreDescending xs → AreDescending (kept_above s xs)
above_descending s [] h = tt
above_descending s (y ∷ ys) h = go (ltb s y) (above_descending s ys h.1)
  where
    go : (b : Bool) → AreDescending (kept_above s ys) → AreDescending (cond b (y ∷ kept_above s ys) (kept_above s ys))
    go true i = (at_most_above y s ys h.0, i)
    go false i = i

-- ---- how many there are

above_shorter : (s : ℕ) (xs : List ℕ) → length (kept_above s xs) ≤ length xs
above_shorter s [] = omega arith
above_shorter s (y ∷ ys) = go (ltb s y) (above_shorter s ys)
  where
    go : (b : Bool) → length (kept_above s ys) ≤ length ys → length (cond b (y ∷ kept_above s ys) (kept_above s ys)) ≤ length (y ∷ ys)
    go true i = omega arith
    go false i = omega arith

swapped : (a b c d : ℕ) → c ≡ b + d → a + c ≡ b + (a + d)
swapped a b c d e = omega arith

counted : (n x : ℕ) (xs : List ℕ) → count_by (eqb n) (x ∷ xs) ≡ cond (eqb n x) 1 0 + count_by (eqb n) xs
counted n x xs = sum_by-cons (λ y. cond (eqb n y) 1 0) x xs

-- each size is there as often as before, and once more
pub placed_counted : (s n : ℕ) (xs : List ℕ) → count_by (eqb n) (placed s xs) ≡ count_by (eqb n) (s ∷ xs)
placed_counted s n [] = refl
placed_counted s n (y ∷ ys) = go (leb y s) (placed_counted s n ys)
  where
    go : (b : Bool) → count_by (eqb n) (placed s ys) ≡ count_by (eqb n) (s ∷ ys) → count_by (eqb n) (cond b (s ∷ y ∷ ys) (y ∷ placed s ys)) ≡ count_by (eqb n) (s ∷ y ∷ ys)
    go true i = refl
    go false i =
        counted n y (placed s ys)
        ∙ swapped (cond (eqb n y) 1 0) (cond (eqb n s) 1 0) (count_by (eqb n) (placed s ys)) (count_by (eqb n) ys) (i ∙ counted n s ys)
        ∙ sym (ap (λ (k : ℕ). cond (eqb n s) 1 0 + k) (counted n y ys))
        ∙ sym (counted n s (y ∷ ys))

-- ---- histories

-- what holds of no sizes, of some with one more, and of those above one, holds of what is kept
over_kept : (P : List ℕ → Type 0) → P [] → ((s : ℕ) (xs : List ℕ) → P xs → P (kept_with s xs)) → ((s : ℕ) (xs : List ℕ) → P xs → P (kept_above s xs))
    → (b : Bursts) (signs : List Sign) → P b.kept → P (bursts_over b signs).kept
over_kept P none with above b [] h = h
over_kept P none with above b (sign ∷ earlier) h = one sign (bursts_over b earlier) (over_kept P none with above b earlier h)
  where
    judge : (c : Bursts) (burst : Burst) → P c.kept → P (judged c burst).kept
    judge c burst i = go (is_suspicious c burst)
      where
        go : (t : Bool) → P (cond t (suspected c burst) c).kept
        go true = with burst.size c.kept i
        go false = i

    judge_if : (o : Option Burst) (c : Bursts) → P c.kept → P (judged_if o c).kept
    judge_if None c i = i
    judge_if (Some burst) c i = judge c burst i

    end : (c : Bursts) → P c.kept → P (ended c).kept
    end c i = judge_if c.current (record c { current = None }) i

    lose : (o : Option Burst) (number size : ℕ) (c : Bursts) → P c.kept → P (lost_behind o number size c).kept
    lose None number size c i = i
    lose (Some burst) number size c i = go (number == burst.last + 1)
      where
        go : (t : Bool) → P (cond t (begun_at number (min burst.size size) c) (begun_at number size (ended c))).kept
        go true = i
        go false = end c i

    one : (sign : Sign) (c : Bursts) → P c.kept → P (bursts_after sign c).kept
    one (PacketLost number size) c i = lose c.current number size c i
    one (PacketAcknowledged number size) c i = go (ltb size c.acked) (size == c.acked)
      where
        go : (t u : Bool) → P (cond t c (cond u (record c { number = max c.number number }) (record c { acked = size; number = number; kept = kept_above size c.kept }))).kept
        go true u = i
        go false true = i
        go false false = above size c.kept i
    one (ProbeAcknowledged number size) c i = none
    one LossesTold c i = go (is_black_hole c)
      where
        go : (t : Bool) → P (cond t (record (ended c) { kept = [] }) (ended c)).kept
        go true = none
        go false = end c i

pub four_at_most : (least : ℕ) (signs : List Sign) → length (bursts_over (no_bursts least) signs).kept ≤ 4
four_at_most least signs =
    over_kept (λ xs. length xs ≤ 4) (omega arith) (λ s xs h. omega (arith, length-take 4 (placed s xs))) (λ s xs h. omega (arith, above_shorter s xs)) (no_bursts least) signs (omega arith)

pub kept_descending : (least : ℕ) (signs : List Sign) → AreDescending (bursts_over (no_bursts least) signs).kept
kept_descending least signs =
    over_kept AreDescending tt (λ s xs h. taken_descending 4 (placed s xs) (placed_descending s xs h)) (λ s xs h. above_descending s xs h) (no_bursts least) signs tt
