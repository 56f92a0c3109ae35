-- Bytes that come where some have arrived: those change nothing, and those before them can be put
-- in first.
use Rattle.std.proofs.Common.{◌≡◌, ℕ, ◌+◌, ◌-◌, ◌^◌, ◌<◌, ◌≤◌, ltb, length, List, [], ◌∷◌, take, drop, Bool, true, false, not, ◌&&◌, ◌||◌, Some, None, Option, refl, sym, ap, ◌∙◌, arith, max, suc, zero, length-take, length-drop, take_all, drop-drop}
use Rattle.std.specs.Option.{option_or, is_some}
use Rattle.std.proofs.lemmas.List.{drop_all}
use Rattle.std.proofs.lemmas.Bool.{ltb-true, ltb-false, both_ways}
use Rattle.quic_sets.specs.Spans.{Span, AreSpans, in_spans}
use Rattle.quic_sets.specs.Parts.{Part, start, after}
use Rattle.quic_assembler.specs.Arrived.{AreApart, byte_at, with_gaps, with_free, with_part, waits}
use Rattle.quic_assembler.specs.PartSteps.{is_held, HasFree}
use Rattle.quic_assembler.proofs.Parts.Steps.{none_left, behind_first, one_held}
use Rattle.quic_assembler.proofs.Arrived.Bytes.{at_gaps}
use Rattle.quic_assembler.proofs.Arrived.Claims.{gaps_apart}
use Rattle.quic_assembler.proofs.Parts.Free.{behind_span, free_none, at_free}
use Rattle.quic_sets.proofs.Offsets.Spans.{in_below}
use Rattle.quic_assembler.proofs.Parts.Gaps.{dry_here}
use Rattle.quic_assembler.proofs.Arrived.Runs.{in_past}
use Rattle.quic_assembler.proofs.Arrived.Runs as runs

-- whether an offset is in some runs, or a byte waits at it
abbrev here : List Span → List Part → ℕ → Bool
here gs ps o = in_spans gs o || waits ps o

-- ---- lists
take_take : (a n : ℕ) (bs : List ℕ) → a ≤ n → take a (take n bs) ≡ take a bs
take_take zero n bs l = refl
take_take (suc a) zero bs l = absurd (omega arith)
take_take (suc a) (suc n) [] l = refl
take_take (suc a) (suc n) (b ∷ bs) l = ap (λ (t : List ℕ). b ∷ t) (take_take a n bs (omega arith))

none_of : (n : ℕ) → take {A = ℕ} n [] ≡ []
none_of n = take_all n [] (omega arith)

drop_take : (a n : ℕ) (bs : List ℕ) → a ≤ n → drop a (take n bs) ≡ take (n - a) (drop a bs)
drop_take zero n bs l = ap (λ k. take k bs) (omega arith)
drop_take (suc a) zero bs l = absurd (omega arith)
drop_take (suc a) (suc n) [] l = sym (none_of (suc n - suc a))
drop_take (suc a) (suc n) (b ∷ bs) l = drop_take a n bs (omega arith) ∙ ap (λ k. take k (drop a bs)) (omega arith)

-- ---- what has arrived changes nothing
one_gap : (at : ℕ) (ps : List Part) (b : ℕ) (bs : List ℕ) → AreApart 0 ps → waits ps at ≡ true → with_gaps ps at (b ∷ bs) ≡ with_gaps ps (at + 1) bs
one_gap at ps b bs h w = go (is_held at (after at ps)) refl
  where
    go : (x : Bool) → is_held at (after at ps) ≡ x → with_gaps ps at (b ∷ bs) ≡ with_gaps ps (at + 1) bs
    go true q = one_held at ps b bs q
    go false q = absurd (both_ways (waits ps at) (ap is_some (dry_here at ps ps false refl h (sym q) refl)) w)

one_free : (low at : ℕ) (gs : List Span) (ps : List Part) (b : ℕ) (bs : List ℕ) → AreSpans low gs → AreApart 0 ps → here gs ps at ≡ true → with_free gs ps at (b ∷ bs) ≡ with_free gs ps (at + 1) bs
one_free low at [] ps b bs h a w = one_gap at ps b bs a w
one_free low at (g ∷ gs) ps b bs h a w = go (ltb at g.1) refl (ltb at g.0) refl w (one_free (g.0 + 1) at gs ps b bs h.2 a)
  where
    go : (x : Bool) → ltb at g.1 ≡ x → (y : Bool) → ltb at g.0 ≡ y → (((not x && y) || in_spans gs at) || waits ps at) ≡ true
        → (here gs ps at ≡ true → with_free gs ps at (b ∷ bs) ≡ with_free gs ps (at + 1) bs) → with_free (g ∷ gs) ps at (b ∷ bs) ≡ with_free (g ∷ gs) ps (at + 1) bs
    go true q y r w ih =
        let full = h.1 in
        let k = ltb-true at g.1 q in
        let out = in_below (g.0 + 1) at gs h.2 (omega arith) in
        let wait : waits ps at ≡ true = sym (ap (λ c. c || waits ps at) out) ∙ w in
        let e1 : g.1 - at ≡ suc (g.1 - (at + 1)) = omega arith in
        let e2 : g.0 - at ≡ suc (g.0 - (at + 1)) = omega arith in
        let e3 : max at g.0 ≡ g.0 = omega arith in
        let e4 : max (at + 1) g.0 ≡ g.0 = omega arith in
        rw (e1, e2, e3, e4) (ap (λ (qs : List Part). with_free gs qs g.0 (drop (g.0 - (at + 1)) bs)) (one_gap at ps b (take (g.1 - (at + 1)) bs) a wait))
    go false q true r w ih =
        let k = ltb-false at g.1 q in
        let l = ltb-true at g.0 r in
        let e1 : g.1 - at ≡ 0 = omega arith in
        let e2 : g.1 - (at + 1) ≡ 0 = omega arith in
        let e3 : g.0 - at ≡ suc (g.0 - (at + 1)) = omega arith in
        let e4 : max at g.0 ≡ g.0 = omega arith in
        let e5 : max (at + 1) g.0 ≡ g.0 = omega arith in
        rw (e1, e2, e3, e4, e5) (ap (λ (qs : List Part). with_free gs qs g.0 (drop (g.0 - (at + 1)) bs)) (none_left ps at ∙ sym (none_left ps (at + 1))))
    go false q false r w ih =
        let l = ltb-false at g.0 r in
        behind_span at g gs ps (b ∷ bs) h.1 l ∙ ih w ∙ sym (behind_span (at + 1) g gs ps bs h.1 (omega arith))

pub free_skips : (k at : ℕ) (gs : List Span) (ps : List Part) (bs : List ℕ) → AreSpans 0 gs → AreApart 0 ps → k ≤ length bs → ((o : ℕ) → at ≤ o → o < at + k → (in_spans gs o || waits ps o) ≡ true) → with_free gs ps at bs ≡ with_free gs ps (at + k) (drop k bs)
free_skips zero at gs ps bs h a l w = ap (λ n. with_free gs ps n bs) (omega arith)
free_skips (suc k) at gs ps [] h a l w = absurd (omega arith)
free_skips (suc k) at gs ps (b ∷ bs) h a l w =
    one_free 0 at gs ps b bs h a (w at (omega arith) (omega arith))
    ∙ free_skips k (at + 1) gs ps bs h a (omega arith) (λ o m n. w o (omega arith) (omega arith))
    ∙ ap (λ n. with_free gs ps n (drop k bs)) (omega arith)

-- ---- what waits goes on to wait
some_or : (x y : Option ℕ) → is_some x ≡ true → is_some (option_or x y) ≡ true
some_or None y e = cc
some_or (Some z) y e = refl

gaps_keep : (at o : ℕ) (ps : List Part) (bs : List ℕ) → AreApart 0 ps → waits ps o ≡ true → waits (with_gaps ps at bs) o ≡ true
gaps_keep at o ps bs h w = ap is_some (at_gaps 0 ps at bs o h) ∙ some_or (byte_at ps o) _ w

pub free_keeps : (at o : ℕ) (gs : List Span) (ps : List Part) (bs : List ℕ) → AreSpans 0 gs → AreApart 0 ps → at + length bs < 2 ^ 62 → waits ps o ≡ true → waits (with_free gs ps at bs) o ≡ true
free_keeps at o gs ps bs g h s w = ap is_some (at_free 0 at 0 o gs ps bs g h (omega arith) (λ l. s)) ∙ some_or (byte_at ps o) _ w

-- ---- bytes up to where some have arrived can be put in first
behind_part : (at z : ℕ) (cs ds : List ℕ) (qs : List Part) → at + length cs ≤ z → with_gaps (with_part at cs qs) z ds ≡ with_part at cs (with_gaps qs z ds)
behind_part at z [] ds qs l = refl
behind_part at z (c ∷ cs) ds qs l = behind_first z (at + length (c ∷ cs), c ∷ cs) qs ds l

gaps_split : (low at n : ℕ) (ps : List Part) (bs : List ℕ) → AreApart low ps → waits ps (at + n) ≡ true → n ≤ length bs → with_gaps ps at bs ≡ with_gaps (with_gaps ps at (take n bs)) (at + n) (drop n bs)
gaps_split low at n [] bs h w s = cc
gaps_split low at n (p ∷ ps) bs h w s = go (ltb (at + n) p.0) refl (gaps_split p.0 (max at p.0) (n - (p.0 - at)) ps (drop (p.0 - at) bs) h.2)
  where
    from : start p ≤ at + n
    from = low_of (ltb (at + n) (start p)) refl
      where
        low_of : (b : Bool) → ltb (at + n) (start p) ≡ b → start p ≤ at + n
        low_of true q = absurd (both_ways (waits (p ∷ ps) (at + n)) (runs.in_below low p ps (at + n) h (ltb-true (at + n) (start p) q)) w)
        low_of false q = ltb-false (at + n) (start p) q

    front : take (start p - at) (take n bs) ≡ take (start p - at) bs
    front = let f = from in take_take (start p - at) n bs (omega arith)

    short : at + length (take (start p - at) bs) ≤ at + n
    short = let f = from in let t = length-take (start p - at) bs in omega arith

    go : (b : Bool) → ltb (at + n) p.0 ≡ b
        → (waits ps (max at p.0 + (n - (p.0 - at))) ≡ true → n - (p.0 - at) ≤ length (drop (p.0 - at) bs) → with_gaps ps (max at p.0) (drop (p.0 - at) bs) ≡ with_gaps (with_gaps ps (max at p.0) (take (n - (p.0 - at)) (drop (p.0 - at) bs))) (max at p.0 + (n - (p.0 - at))) (drop (n - (p.0 - at)) (drop (p.0 - at) bs)))
        → with_gaps (p ∷ ps) at bs ≡ with_gaps (with_gaps (p ∷ ps) at (take n bs)) (at + n) (drop n bs)
    go true q ih =
        let f = from in
        let k = ltb-true (at + n) p.0 q in
        let t = length-take n bs in
        let e1 : drop (p.0 - at) (take n bs) ≡ [] = drop_all (p.0 - at) (take n bs) (omega arith) in
        let e2 : start p - (at + n) ≡ 0 = omega arith in
        let e3 : max (at + n) p.0 ≡ p.0 = omega arith in
        let e4 : max at p.0 ≡ p.0 = omega arith in
        let e5 : drop (p.0 - (at + n)) (drop n bs) ≡ drop (p.0 - at) bs = drop-drop (p.0 - (at + n)) n bs ∙ ap (λ i. drop i bs) (omega arith) in
        let inner : with_gaps (p ∷ ps) at (take n bs) ≡ with_part at (take (start p - at) bs) (p ∷ ps) = rw (front, e1) (ap (λ (qs : List Part). with_part at (take (start p - at) bs) (p ∷ qs)) (none_left ps (max at p.0))) in
        let rest : with_gaps (p ∷ ps) (at + n) (drop n bs) ≡ p ∷ with_gaps ps p.0 (drop (p.0 - at) bs) = rw (e2, e3, e5) refl in
        ap (λ z. with_part at (take (start p - at) bs) (p ∷ with_gaps ps z (drop (p.0 - at) bs))) e4
        ∙ sym (ap (λ (qs : List Part). with_gaps qs (at + n) (drop n bs)) inner ∙ behind_part at (at + n) (take (start p - at) bs) (drop n bs) (p ∷ ps) short ∙ ap (λ (qs : List Part). with_part at (take (start p - at) bs) qs) rest)
    go false q ih =
        let k = ltb-false (at + n) p.0 q in
        let d = length-drop (p.0 - at) bs in
        let e1 : max at p.0 + (n - (p.0 - at)) ≡ at + n = omega arith in
        let e2 : drop (p.0 - at) (take n bs) ≡ take (n - (p.0 - at)) (drop (p.0 - at) bs) = drop_take (p.0 - at) n bs (omega arith) in
        let e3 : drop (n - (p.0 - at)) (drop (p.0 - at) bs) ≡ drop n bs = drop-drop (n - (p.0 - at)) (p.0 - at) bs ∙ ap (λ i. drop i bs) (omega arith) in
        let wait : waits ps (max at p.0 + (n - (p.0 - at))) ≡ true = ap (waits ps) e1 ∙ sym (in_past low p ps (at + n) h k) ∙ w in
        let same = ih wait (omega arith) in
        let inner : with_gaps (p ∷ ps) at (take n bs) ≡ with_part at (take (start p - at) bs) (p ∷ with_gaps ps (max at p.0) (take (n - (p.0 - at)) (drop (p.0 - at) bs))) = rw (front, e2) refl in
        ap (λ (qs : List Part). with_part at (take (start p - at) bs) (p ∷ qs)) (same ∙ rw (e1, e3) refl)
        ∙ sym (ap (λ (qs : List Part). with_gaps qs (at + n) (drop n bs)) inner
        ∙ behind_part at (at + n) (take (start p - at) bs) (drop n bs) (p ∷ with_gaps ps (max at p.0) (take (n - (p.0 - at)) (drop (p.0 - at) bs))) short
        ∙ ap (λ (qs : List Part). with_part at (take (start p - at) bs) qs) (behind_first (at + n) p _ (drop n bs) k))

free_split : (low at n : ℕ) (gs : List Span) (ps : List Part) (bs : List ℕ) → AreSpans low gs → AreApart 0 ps → (0 < length bs → at + length bs < 2 ^ 62) → here gs ps (at + n) ≡ true → n ≤ length bs → with_free gs ps at bs ≡ with_free gs (with_free gs ps at (take n bs)) (at + n) (drop n bs)
free_split low at n [] ps bs h a m w s = gaps_split 0 at n ps bs a w s
free_split low at n (g ∷ gs) ps bs h a m w s = go (ltb (at + n) g.1) refl (ltb (at + n) g.0) refl w (free_split (g.0 + 1) (max at g.0) (n - (g.0 - at)) gs (with_gaps ps at (take (g.1 - at) bs)) (drop (g.0 - at) bs) h.2 apart room)
  where
    apart : AreApart 0 (with_gaps ps at (take (g.1 - at) bs))
    apart = let t = length-take (g.1 - at) bs in gaps_apart 0 at ps (take (g.1 - at) bs) a (omega arith) (λ l. let k = m (omega arith) in omega arith)

    room : 0 < length (drop (g.0 - at) bs) → max at g.0 + length (drop (g.0 - at) bs) < 2 ^ 62
    room l = let d = length-drop (g.0 - at) bs in let k = m (omega arith) in omega arith

    -- where the first bytes end up to the run's end
    stops : at + n ≤ g.0 → drop (g.0 - at) (take n bs) ≡ []
    stops l = let t = length-take n bs in drop_all (g.0 - at) (take n bs) (omega arith)

    go : (x : Bool) → ltb (at + n) g.1 ≡ x → (y : Bool) → ltb (at + n) g.0 ≡ y → (((not x && y) || in_spans gs (at + n)) || waits ps (at + n)) ≡ true
        → (here gs (with_gaps ps at (take (g.1 - at) bs)) (max at g.0 + (n - (g.0 - at))) ≡ true → n - (g.0 - at) ≤ length (drop (g.0 - at) bs) → with_free gs (with_gaps ps at (take (g.1 - at) bs)) (max at g.0) (drop (g.0 - at) bs) ≡ with_free gs (with_free gs (with_gaps ps at (take (g.1 - at) bs)) (max at g.0) (take (n - (g.0 - at)) (drop (g.0 - at) bs))) (max at g.0 + (n - (g.0 - at))) (drop (n - (g.0 - at)) (drop (g.0 - at) bs)))
        → with_free (g ∷ gs) ps at bs ≡ with_free (g ∷ gs) (with_free (g ∷ gs) ps at (take n bs)) (at + n) (drop n bs)
    go true q y r w ih =
        let full = h.1 in
        let k = ltb-true (at + n) g.1 q in
        let out = in_below (g.0 + 1) (at + n) gs h.2 (omega arith) in
        let wait : waits ps (at + n) ≡ true = sym (ap (λ c. c || waits ps (at + n)) out) ∙ w in
        let t = length-take (g.1 - at) bs in
        let u = length-take n bs in
        let e1 : take (g.1 - at) (take n bs) ≡ take n bs = take_all (g.1 - at) (take n bs) (omega arith) in
        let e2 = stops (omega arith) in
        let inner : with_free (g ∷ gs) ps at (take n bs) ≡ with_gaps ps at (take n bs) = rw (e1, e2) (free_none gs (with_gaps ps at (take n bs)) (max at g.0)) in
        let e3 : take n (take (g.1 - at) bs) ≡ take n bs = take_take n (g.1 - at) bs (omega arith) in
        let e4 : drop n (take (g.1 - at) bs) ≡ take (g.1 - (at + n)) (drop n bs) = drop_take n (g.1 - at) bs (omega arith) ∙ ap (λ i. take i (drop n bs)) (omega arith) in
        let e5 : max at g.0 ≡ g.0 = omega arith in
        let e6 : max (at + n) g.0 ≡ g.0 = omega arith in
        let e7 : drop (g.0 - (at + n)) (drop n bs) ≡ drop (g.0 - at) bs = drop-drop (g.0 - (at + n)) n bs ∙ ap (λ i. drop i bs) (omega arith) in
        let split : with_gaps ps at (take (g.1 - at) bs) ≡ with_gaps (with_gaps ps at (take n bs)) (at + n) (take (g.1 - (at + n)) (drop n bs)) = gaps_split 0 at n ps (take (g.1 - at) bs) a wait (omega arith) ∙ rw (e3, e4) refl in
        let whole : with_free (g ∷ gs) (with_gaps ps at (take n bs)) (at + n) (drop n bs) ≡ with_free gs (with_gaps (with_gaps ps at (take n bs)) (at + n) (take (g.1 - (at + n)) (drop n bs))) g.0 (drop (g.0 - at) bs) = rw (e6, e7) refl in
        ap (λ z. with_free gs (with_gaps ps at (take (g.1 - at) bs)) z (drop (g.0 - at) bs)) e5
        ∙ ap (λ (qs : List Part). with_free gs qs g.0 (drop (g.0 - at) bs)) split
        ∙ sym (ap (λ (qs : List Part). with_free (g ∷ gs) qs (at + n) (drop n bs)) inner ∙ whole)
    go false q true r w ih =
        let k = ltb-false (at + n) g.1 q in
        let l = ltb-true (at + n) g.0 r in
        let e1 : take (g.1 - at) (take n bs) ≡ take (g.1 - at) bs = take_take (g.1 - at) n bs (omega arith) in
        let e2 = stops (omega arith) in
        let inner : with_free (g ∷ gs) ps at (take n bs) ≡ with_gaps ps at (take (g.1 - at) bs) = rw (e1, e2) (free_none gs (with_gaps ps at (take (g.1 - at) bs)) (max at g.0)) in
        let e3 : g.1 - (at + n) ≡ 0 = omega arith in
        let e5 : max at g.0 ≡ g.0 = omega arith in
        let e6 : max (at + n) g.0 ≡ g.0 = omega arith in
        let e7 : drop (g.0 - (at + n)) (drop n bs) ≡ drop (g.0 - at) bs = drop-drop (g.0 - (at + n)) n bs ∙ ap (λ i. drop i bs) (omega arith) in
        let whole : with_free (g ∷ gs) (with_gaps ps at (take (g.1 - at) bs)) (at + n) (drop n bs) ≡ with_free gs (with_gaps ps at (take (g.1 - at) bs)) g.0 (drop (g.0 - at) bs) = rw (e3, e6, e7) (ap (λ (qs : List Part). with_free gs qs g.0 (drop (g.0 - at) bs)) (none_left (with_gaps ps at (take (g.1 - at) bs)) (at + n))) in
        ap (λ z. with_free gs (with_gaps ps at (take (g.1 - at) bs)) z (drop (g.0 - at) bs)) e5
        ∙ sym (ap (λ (qs : List Part). with_free (g ∷ gs) qs (at + n) (drop n bs)) inner ∙ whole)
    go false q false r w ih =
        let full = h.1 in
        let l = ltb-false (at + n) g.0 r in
        let d = length-drop (g.0 - at) bs in
        let e1 : take (g.1 - at) (take n bs) ≡ take (g.1 - at) bs = take_take (g.1 - at) n bs (omega arith) in
        let e2 : drop (g.0 - at) (take n bs) ≡ take (n - (g.0 - at)) (drop (g.0 - at) bs) = drop_take (g.0 - at) n bs (omega arith) in
        let e3 : max at g.0 + (n - (g.0 - at)) ≡ at + n = omega arith in
        let e4 : drop (n - (g.0 - at)) (drop (g.0 - at) bs) ≡ drop n bs = drop-drop (n - (g.0 - at)) (g.0 - at) bs ∙ ap (λ i. drop i bs) (omega arith) in
        let still : here gs (with_gaps ps at (take (g.1 - at) bs)) (max at g.0 + (n - (g.0 - at))) ≡ true = ap (here gs (with_gaps ps at (take (g.1 - at) bs))) e3 ∙ more (in_spans gs (at + n)) w in
        let inner : with_free (g ∷ gs) ps at (take n bs) ≡ with_free gs (with_gaps ps at (take (g.1 - at) bs)) (max at g.0) (take (n - (g.0 - at)) (drop (g.0 - at) bs)) = rw (e1, e2) refl in
        ih still (omega arith) ∙ rw (e3, e4) refl ∙ sym (ap (λ (qs : List Part). with_free (g ∷ gs) qs (at + n) (drop n bs)) inner ∙ behind_span (at + n) g gs _ (drop n bs) h.1 l)
      where
        more : (b : Bool) → (b || waits ps (at + n)) ≡ true → (b || waits (with_gaps ps at (take (g.1 - at) bs)) (at + n)) ≡ true
        more true e = refl
        more false e = gaps_keep at (at + n) ps (take (g.1 - at) bs) a e

-- ---- as the call says it
pub new_fills : (at n : ℕ) (gs : List Span) (ps ns : List Part) (bs : List ℕ) → AreSpans 0 gs → AreApart 0 ps → at + length bs < 2 ^ 62 → n ≤ length bs → (n < length bs → (in_spans gs (at + n) || waits ps (at + n)) ≡ true) → ns ≡ with_free gs ps at (take n bs) → with_free gs ps at bs ≡ with_free gs ns (at + n) (drop n bs)
new_fills at n gs ps ns bs h a s l w e = rw e (go (ltb n (length bs)) refl)
  where
    go : (b : Bool) → ltb n (length bs) ≡ b → with_free gs ps at bs ≡ with_free gs (with_free gs ps at (take n bs)) (at + n) (drop n bs)
    go true q = free_split 0 at n gs ps bs h a (λ k. s) (w (ltb-true n (length bs) q)) l
    go false q =
        let m = ltb-false n (length bs) q in
        let e1 : take n bs ≡ bs = take_all n bs (omega arith) in
        let e2 : drop n bs ≡ [] = drop_all n bs (omega arith) in
        rw (e1, e2) (sym (free_none gs (with_free gs ps at bs) (at + n)))

pub free_wider : (at n : ℕ) (gs : List Span) (ps : List Part) (bs : List ℕ) → HasFree gs ps at (length (take n bs)) → HasFree gs ps at (length bs)
free_wider at n gs ps bs f =
    let t = length-take n bs in
    let b = f.below in
    record { offset = f.offset; above = f.above; below = omega arith; outside = f.outside; dry = f.dry }
