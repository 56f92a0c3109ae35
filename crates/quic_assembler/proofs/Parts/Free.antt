-- Bytes that come where some offsets were given by unordered reads: only the others are put in.
use Rattle.std.proofs.Common.{◌≡◌, ℕ, ◌+◌, ◌-◌, ◌^◌, ◌<◌, ◌≤◌, ltb, length, List, [], ◌∷◌, take, drop, Bool, true, false, not, ◌&&◌, ◌||◌, cond, Some, None, Option, refl, sym, ap, ◌∙◌, subst, arith, max, length-take, length-drop, take_all, drop-drop}
use Rattle.std.specs.Option.{option_or}
use Rattle.std.proofs.lemmas.List.{drop_all}
use Rattle.std.proofs.lemmas.Bool.{ltb-true, ltb-false}
use Rattle.quic_sets.specs.Spans.{Span, AreSpans, in_spans, next_span, is_spanned, spanned_at, free_at}
use Rattle.quic_sets.specs.Parts.{Part, byte_from}
use Rattle.quic_assembler.specs.Arrived.{AreApart, byte_at, with_gaps, with_free}
use Rattle.quic_assembler.proofs.Parts.Steps.{none_left, nothing, take_within}
use Rattle.quic_sets.proofs.Parts.Bytes.{from_below, from_front, from_front_behind, from_back}
use Rattle.quic_assembler.proofs.Arrived.Bytes.{at_gaps, or_none}
use Rattle.quic_assembler.proofs.Arrived.Claims.{gaps_apart}
use Rattle.quic_sets.proofs.Offsets.Spans.{next_past, in_below}

-- runs that end before the bytes begin do not matter
pub behind_span : (at : ℕ) (g : Span) (gs : List Span) (ps : List Part) (bs : List ℕ) → g.1 < g.0 → g.0 ≤ at → with_free (g ∷ gs) ps at bs ≡ with_free gs ps at bs
behind_span at g gs ps bs k l =
    let e1 : g.1 - at ≡ 0 = omega arith in
    let e2 : max at g.0 ≡ at = omega arith in
    let e3 : g.0 - at ≡ 0 = omega arith in
    rw (e1, e2, e3) (ap (λ (qs : List Part). with_free gs qs at bs) (none_left ps at))

-- the first k bytes were given
skips : (low at k : ℕ) (gs : List Span) (ps : List Part) (bs : List ℕ) (x : Span) → AreSpans low gs → next_span at gs ≡ Some x → x.1 ≤ at → at + k ≤ x.0 → with_free gs ps at bs ≡ with_free gs ps (at + k) (drop k bs)
skips low at k [] ps bs x h e s l = cc
skips low at k (g ∷ gs) ps bs x h e s l = go (ltb at g.0) refl e (skips (g.0 + 1) at k gs ps bs x h.2)
  where
    go : (b : Bool) → ltb at g.0 ≡ b → cond b (Some g) (next_span at gs) ≡ Some x → (next_span at gs ≡ Some x → x.1 ≤ at → at + k ≤ x.0 → with_free gs ps at bs ≡ with_free gs ps (at + k) (drop k bs)) → with_free (g ∷ gs) ps at bs ≡ with_free (g ∷ gs) ps (at + k) (drop k bs)
    go true q e ih =
        let same : x ≡ g = cc in
        let s2 : g.1 ≤ at = subst (λ (z : Span). z.1 ≤ at) same s in
        let l2 : at + k ≤ g.0 = subst (λ (z : Span). at + k ≤ z.0) same l in
        let e1 : g.1 - at ≡ 0 = omega arith in
        let e2 : g.1 - (at + k) ≡ 0 = omega arith in
        let e3 : max at g.0 ≡ g.0 = omega arith in
        let e4 : max (at + k) g.0 ≡ g.0 = omega arith in
        let e5 : drop (g.0 - (at + k)) (drop k bs) ≡ drop (g.0 - at) bs = drop-drop (g.0 - (at + k)) k bs ∙ ap (λ n. drop n bs) (omega arith) in
        rw (e1, e2, e3, e4, e5) (ap (λ (qs : List Part). with_free gs qs g.0 (drop (g.0 - at) bs)) (none_left ps at ∙ sym (none_left ps (at + k))))
    go false q e ih =
        let below = ltb-false at g.0 q in
        behind_span at g gs ps bs h.1 below ∙ ih e s l ∙ sym (behind_span (at + k) g gs ps (drop k bs) h.1 (omega arith))

-- the first n bytes are free
free_front : (low at n : ℕ) (gs : List Span) (ps : List Part) (bs : List ℕ) → AreSpans low gs → n ≡ free_at at (length bs) (next_span at gs) → with_free gs ps at bs ≡ with_free gs (with_gaps ps at (take n bs)) (at + n) (drop n bs)
free_front low at n [] ps bs h e =
    let e1 : take n bs ≡ bs = take_all n bs (omega arith) in
    let e2 : drop n bs ≡ [] = drop_all n bs (omega arith) in
    rw (e1, e2) (sym (none_left (with_gaps ps at bs) (at + n)))
free_front low at n (g ∷ gs) ps bs h e = go (ltb at g.0) refl e (free_front (g.0 + 1) at n gs ps bs h.2)
  where
    go : (b : Bool) → ltb at g.0 ≡ b → n ≡ free_at at (length bs) (cond b (Some g) (next_span at gs)) → (n ≡ free_at at (length bs) (next_span at gs) → with_free gs ps at bs ≡ with_free gs (with_gaps ps at (take n bs)) (at + n) (drop n bs)) → with_free (g ∷ gs) ps at bs ≡ with_free (g ∷ gs) (with_gaps ps at (take n bs)) (at + n) (drop n bs)
    go true q e ih =
        let above = ltb-true at g.0 q in
        let full = h.1 in
        let ld = length-drop n bs in
        let e1 : take (g.1 - at) bs ≡ take n bs = take_within (g.1 - at) bs n e in
        let e2 : take (g.1 - (at + n)) (drop n bs) ≡ [] = nothing _ (length-take (g.1 - (at + n)) (drop n bs) ∙ omega arith) in
        let e3 : max at g.0 ≡ g.0 = omega arith in
        let e4 : max (at + n) g.0 ≡ g.0 = omega arith in
        let e5 : drop (g.0 - (at + n)) (drop n bs) ≡ drop (g.0 - at) bs = drop-drop (g.0 - (at + n)) n bs ∙ ap (λ i. drop i bs) (omega arith) in
        rw (e1, e2, e3, e4, e5) (ap (λ (qs : List Part). with_free gs qs g.0 (drop (g.0 - at) bs)) (sym (none_left (with_gaps ps at (take n bs)) (at + n))))
    go false q e ih =
        let below = ltb-false at g.0 q in
        behind_span at g gs ps bs h.1 below ∙ ih e ∙ sym (behind_span (at + n) g gs (with_gaps ps at (take n bs)) (drop n bs) h.1 (omega arith))

le_from_in : (at : ℕ) (x : Span) → not (ltb at x.1) ≡ true → x.1 ≤ at
le_from_in at x b = ltb-false at x.1 (go (ltb at x.1) b)
  where
    go : (c : Bool) → not c ≡ true → c ≡ false
    go true e = sym e
    go false e = refl

-- ---- as the call says it
pub given_skips : (at len n : ℕ) (gs : List Span) (ps : List Part) (bs : List ℕ) (held : Bool) → AreSpans 0 gs → held ≡ is_spanned at (next_span at gs) → held ≡ true → n ≡ cond held (spanned_at at len (next_span at gs)) (free_at at len (next_span at gs)) → with_free gs ps at bs ≡ with_free gs ps (at + n) (drop n bs)
given_skips at len n gs ps bs held h b t e = go (next_span at gs) refl (sym b ∙ t) (e ∙ ap (λ k. cond k (spanned_at at len (next_span at gs)) (free_at at len (next_span at gs))) t)
  where
    go : (o : Option Span) → next_span at gs ≡ o → is_spanned at o ≡ true → n ≡ spanned_at at len o → with_free gs ps at bs ≡ with_free gs ps (at + n) (drop n bs)
    go None q b e = cc
    go (Some x) q b e = let past = next_past at gs x q in let l = le_from_in at x b in skips 0 at n gs ps bs x h q l (omega arith)

pub free_fills : (at len n : ℕ) (gs : List Span) (ps ns : List Part) (bs : List ℕ) (held : Bool) → AreSpans 0 gs → held ≡ false → n ≡ cond held (spanned_at at len (next_span at gs)) (free_at at len (next_span at gs)) → len ≡ length bs → ns ≡ with_gaps ps at (take n bs) → with_free gs ps at bs ≡ with_free gs ns (at + n) (drop n bs)
free_fills at len n gs ps ns bs held h t e k is =
    let n_is : n ≡ free_at at (length bs) (next_span at gs) = e ∙ ap (λ b. cond b (spanned_at at len (next_span at gs)) (free_at at len (next_span at gs))) t ∙ ap (λ l. free_at at l (next_span at gs)) k in
    rw is (free_front 0 at n gs ps bs h n_is)

pub free_none : (gs : List Span) (ps : List Part) (at : ℕ) → with_free gs ps at [] ≡ ps
free_none [] ps at = none_left ps at
free_none (g ∷ gs) ps at =
    let t : take {A = ℕ} (g.1 - at) [] ≡ [] = take_all (g.1 - at) [] (omega arith) in
    let d : drop {A = ℕ} (g.0 - at) [] ≡ [] = drop_all (g.0 - at) [] (omega arith) in
    rw (t, d) (ap (λ (qs : List Part). with_free gs qs (max at g.0) []) (none_left ps at) ∙ free_none gs ps (max at g.0))

-- ---- what the parts are then
pub free_apart : (low at below : ℕ) (gs : List Span) (ps : List Part) (bs : List ℕ) → AreSpans below gs → AreApart low ps → low ≤ at → (0 < length bs → at + length bs < 2 ^ 62) → AreApart low (with_free gs ps at bs)
free_apart low at below [] ps bs g h m s = gaps_apart low at ps bs h m s
free_apart low at below (x ∷ gs) ps bs g h m s =
    let full = g.1 in
    let t = length-take (x.1 - at) bs in
    let d = length-drop (x.0 - at) bs in
    free_apart low (max at x.0) (x.0 + 1) gs (with_gaps ps at (take (x.1 - at) bs)) (drop (x.0 - at) bs) g.2 (gaps_apart low at ps (take (x.1 - at) bs) h m (λ l. let k = s (omega arith) in omega arith)) (omega arith) (λ l. let k = s (omega arith) in omega arith)

or_or_none : (x y : Option ℕ) → option_or (option_or x y) None ≡ option_or x y
or_or_none x y = or_none (option_or x y)

pub at_free : (low at below o : ℕ) (gs : List Span) (ps : List Part) (bs : List ℕ) → AreSpans below gs → AreApart low ps → low ≤ at → (0 < length bs → at + length bs < 2 ^ 62) → byte_at (with_free gs ps at bs) o ≡ option_or (byte_at ps o) (cond (in_spans gs o) None (byte_from at bs o))
at_free low at below o [] ps bs g h m s = at_gaps low ps at bs o h
at_free low at below o (x ∷ gs) ps bs g h m s =
    let full = g.1 in
    let t = length-take (x.1 - at) bs in
    let d = length-drop (x.0 - at) bs in
    let rest = at_free low (max at x.0) (x.0 + 1) o gs (with_gaps ps at (take (x.1 - at) bs)) (drop (x.0 - at) bs) g.2 (gaps_apart low at ps (take (x.1 - at) bs) h m (λ l. let k = s (omega arith) in omega arith)) (omega arith) (λ l. let k = s (omega arith) in omega arith) in
    rest ∙ ap (λ y. option_or y (cond (in_spans gs o) None (byte_from (max at x.0) (drop (x.0 - at) bs) o))) (at_gaps low ps at (take (x.1 - at) bs) o h) ∙ go (ltb o x.1) refl (ltb o x.0) refl full
  where
    go : (b : Bool) → ltb o x.1 ≡ b → (c : Bool) → ltb o x.0 ≡ c → x.1 < x.0 → option_or (option_or (byte_at ps o) (byte_from at (take (x.1 - at) bs) o)) (cond (in_spans gs o) None (byte_from (max at x.0) (drop (x.0 - at) bs) o)) ≡ option_or (byte_at ps o) (cond ((not b && c) || in_spans gs o) None (byte_from at bs o))
    go true q c r full =
        let k = ltb-true o x.1 q in
        let e1 = from_front at x.1 bs o k in
        let e2 = from_below (max at x.0) (drop (x.0 - at) bs) o (omega arith) in
        let e3 = in_below (x.0 + 1) o gs g.2 (omega arith) in
        rw (e1, e2, e3) (or_or_none (byte_at ps o) (byte_from at bs o))
    go false q true r full =
        let k = ltb-false o x.1 q in
        let l = ltb-true o x.0 r in
        let e1 = from_front_behind at x.1 bs o k in
        let e2 = from_below (max at x.0) (drop (x.0 - at) bs) o (omega arith) in
        let e3 = in_below (x.0 + 1) o gs g.2 (omega arith) in
        rw (e1, e2, e3) (or_or_none (byte_at ps o) None)
    go false q false r full =
        let k = ltb-false o x.1 q in
        let l = ltb-false o x.0 r in
        let e1 = from_front_behind at x.1 bs o k in
        let e2 = from_back at x.0 bs o l in
        rw (e1, e2) (ap (λ y. option_or y (cond (in_spans gs o) None (byte_from at bs o))) (or_none (byte_at ps o)))
