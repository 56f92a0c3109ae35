-- A run more in a set of offsets.
use Rattle.std.proofs.Common.{◌≡◌, ℕ, ◌+◌, ◌-◌, ◌^◌, ◌<◌, ◌≤◌, ◌==◌, ltb, List, [], ◌∷◌, Bool, true, false, not, ◌&&◌, ◌||◌, cond, Some, None, Option, refl, sym, ap, ◌∙◌, subst, arith, ◌⊎◌, inl, inr, max}
use Rattle.std.specs.List.{filter}
use Rattle.std.specs.Ordering.{nat_cmp}
use Rattle.std.specs.Cmp.{nat_cmp_is}
use Rattle.std.specs.declared.cmp.Ordering.TheVariants.{Less, Equal, Greater}
use Rattle.std.specs.Map.{lookup, remove_entry}
use Rattle.std.specs.BTreeMap.{insert_entry, is_at}
use Rattle.std.proofs.lemmas.Bool.{ltb-true, ltb-false, lt-ltb, le-ltb, eqb-true, eqb-false, cases_order}
use Rattle.quic_sets.specs.Spans.{Span, AreSpans, in_span, in_spans, width_of, next_span, IsFree, first_from, end_from, ended_before, begun_behind, with_span, with_run, is_spanned, spanned_at, free_at}
use Rattle.quic_sets.proofs.Parts.First.{not_at, at_itself}
use Rattle.quic_sets.proofs.Offsets.Undone.{absent}

-- ---- the first run behind an offset
pub next_filter : (p : Span → Bool) (at : ℕ) → ((x : Span) → p x ≡ ltb at x.0) → (es : List Span) (x : Span) (rest : List Span) → filter p es ≡ x ∷ rest → next_span at es ≡ Some x
next_filter p at same [] x rest e = cc
next_filter p at same (y ∷ es) x rest e = go (p y) refl e (next_filter p at same es x rest)
  where
    go : (b : Bool) → p y ≡ b → cond b (y ∷ filter p es) (filter p es) ≡ x ∷ rest → (filter p es ≡ x ∷ rest → next_span at es ≡ Some x) → cond (ltb at y.0) (Some y) (next_span at es) ≡ Some x
    go true q e ih = let same_y : y ≡ x = cc in rw (sym (same y) ∙ q) (ap Some same_y)
    go false q e ih = rw (sym (same y) ∙ q) (ih e)

pub next_filter_none : (p : Span → Bool) (at : ℕ) → ((x : Span) → p x ≡ ltb at x.0) → (es : List Span) → filter p es ≡ [] → next_span at es ≡ None
next_filter_none p at same [] e = refl
next_filter_none p at same (y ∷ es) e = go (p y) refl e (next_filter_none p at same es)
  where
    go : (b : Bool) → p y ≡ b → cond b (y ∷ filter p es) (filter p es) ≡ [] → (filter p es ≡ [] → next_span at es ≡ None) → cond (ltb at y.0) (Some y) (next_span at es) ≡ None
    go true q e ih = cc
    go false q e ih = rw (sym (same y) ∙ q) (ih e)

pub next_past : (at : ℕ) (gs : List Span) (x : Span) → next_span at gs ≡ Some x → at < x.0
next_past at [] x e = cc
next_past at (g ∷ gs) x e = go (ltb at g.0) refl e (next_past at gs x)
  where
    go : (b : Bool) → ltb at g.0 ≡ b → cond b (Some g) (next_span at gs) ≡ Some x → (next_span at gs ≡ Some x → at < x.0) → at < x.0
    go true q e ih = let same : g ≡ x = cc in subst (λ (z : Span). at < z.0) same (ltb-true at g.0 q)
    go false q e ih = ih e

-- its offsets are in the set
pub next_in : (at o : ℕ) (gs : List Span) (x : Span) → next_span at gs ≡ Some x → in_span o x ≡ true → in_spans gs o ≡ true
next_in at o [] x e t = cc
next_in at o (g ∷ gs) x e t = go (ltb at g.0) e (next_in at o gs x)
  where
    or_true : (b : Bool) → (b || true) ≡ true
    or_true true = refl
    or_true false = refl

    go : (b : Bool) → cond b (Some g) (next_span at gs) ≡ Some x → (next_span at gs ≡ Some x → in_span o x ≡ true → in_spans gs o ≡ true) → (in_span o g || in_spans gs o) ≡ true
    go true e ih = let same : g ≡ x = cc in let u : in_span o g ≡ true = ap (λ (z : Span). in_span o z) same ∙ t in rw u refl
    go false e ih = rw (ih e t) (or_true (in_span o g))

pub lower : (low m : ℕ) (gs : List Span) → AreSpans low gs → m ≤ low → AreSpans m gs
lower low m [] h l = let k : low ≤ 2 ^ 62 = h in omega arith
lower low m (g ∷ gs) h l = let a = h.0 in (omega arith, h.1, h.2)

pub width_small : (low : ℕ) (gs : List Span) → AreSpans low gs → low + width_of gs ≤ 2 ^ 62
width_small low [] h = let k : low ≤ 2 ^ 62 = h in omega arith
width_small low (g ∷ gs) h =
    let a = h.0 in
    let b = h.1 in
    let rest = width_small (g.0 + 1) gs h.2 in
    omega arith

-- ---- a run before others, joined with the first of them where it touches that
abbrev onto : ℕ → ℕ → List Span → List Span
onto from end [] = (end, from) ∷ []
onto from end (g ∷ gs) = cond (g.1 == end) ((g.0, from) ∷ gs) ((end, from) ∷ g ∷ gs)

none_ends : (k low : ℕ) (gs : List Span) → AreSpans low gs → k ≤ low → lookup (is_at (nat_cmp k)) gs ≡ None
none_ends k low [] h l = refl
none_ends k low (g ∷ gs) h l =
    let a = h.0 in
    let b = h.1 in
    let other : is_at (nat_cmp k) g.0 ≡ false = not_at k g.0 (λ e. omega arith) in
    rw other (none_ends k (g.0 + 1) gs h.2 (omega arith))

insert_before : (from end : ℕ) (gs : List Span) → AreSpans end gs → insert_entry nat_cmp gs (end_from end (next_span end gs)) from ≡ onto from end gs
insert_before from end [] h = refl
insert_before from end (g ∷ gs) h =
    let a = h.0 in
    let b = h.1 in
    let t = lt-ltb end g.0 (omega arith) in
    rw t (go (g.1 == end) a b)
  where
    go : (b : Bool) → end ≤ g.1 → g.1 < g.0 → insert_entry nat_cmp (g ∷ gs) (cond b g.0 end) from ≡ cond b ((g.0, from) ∷ gs) ((end, from) ∷ g ∷ gs)
    go true k l = let e : nat_cmp g.0 g.0 ≡ Equal = sym (nat_cmp_is g.0 g.0 Equal refl) in rw e refl
    go false k l = let e : nat_cmp end g.0 ≡ Less = sym (nat_cmp_is end g.0 Less (omega arith)) in rw e refl

onto_none : (start from end : ℕ) (gs : List Span) → AreSpans end gs → start < end → lookup (is_at (nat_cmp start)) (onto from end gs) ≡ None
onto_none start from end [] h l = let other : is_at (nat_cmp start) end ≡ false = not_at start end (λ e. omega arith) in rw other refl
onto_none start from end (g ∷ gs) h l = go (g.1 == end) h.0 h.1
  where
    go : (b : Bool) → end ≤ g.1 → g.1 < g.0 → lookup (is_at (nat_cmp start)) (cond b ((g.0, from) ∷ gs) ((end, from) ∷ g ∷ gs)) ≡ None
    go true k m =
        let other : is_at (nat_cmp start) g.0 ≡ false = not_at start g.0 (λ e. omega arith) in
        rw other (none_ends start (g.0 + 1) gs h.2 (omega arith))
    go false k m =
        let first : is_at (nat_cmp start) end ≡ false = not_at start end (λ e. omega arith) in
        let other : is_at (nat_cmp start) g.0 ≡ false = not_at start g.0 (λ e. omega arith) in
        rw (first, other) (none_ends start (g.0 + 1) gs h.2 (omega arith))

-- the runs before it and behind it
none_before : (start low : ℕ) (gs : List Span) → AreSpans low gs → start ≤ low → ended_before start gs ≡ []
none_before start low [] h l = refl
none_before start low (g ∷ gs) h l =
    let a = h.0 in
    let b = h.1 in
    let t = le-ltb g.0 start (omega arith) in
    rw t (none_before start (g.0 + 1) gs h.2 (omega arith))

all_behind : (end low : ℕ) (gs : List Span) → AreSpans low gs → end < low → begun_behind end gs ≡ gs
all_behind end low [] h l = refl
all_behind end low (g ∷ gs) h l =
    let a = h.0 in
    let b = h.1 in
    let t = lt-ltb end g.1 (omega arith) in
    rw t (ap (λ (es : List Span). g ∷ es) (all_behind end (g.0 + 1) gs h.2 (omega arith)))

more : (a b : ℕ) → b ≤ a → (a ≡ b → ⊥) → b < a
more a b j n = omega arith

behind_onto : (from end : ℕ) (gs : List Span) → AreSpans end gs → ((end_from end (next_span end gs), from) ∷ begun_behind end gs) ≡ onto from end gs
behind_onto from end [] h = refl
behind_onto from end (g ∷ gs) h =
    let a = h.0 in
    let b = h.1 in
    let t = lt-ltb end g.0 (omega arith) in
    let rest = all_behind end (g.0 + 1) gs h.2 (omega arith) in
    rw (t, rest) (go (g.1 == end) refl a)
  where
    go : (b : Bool) → (g.1 == end) ≡ b → end ≤ g.1 → ((cond b g.0 end, from) ∷ cond (ltb end g.1) (g ∷ gs) gs) ≡ cond b ((g.0, from) ∷ gs) ((end, from) ∷ g ∷ gs)
    go true q k =
        let same = eqb-true g.1 end q in
        let t = le-ltb end g.1 (omega arith) in
        rw t refl
    go false q k =
        let t = lt-ltb end g.1 (more g.1 end k (eqb-false g.1 end q)) in
        rw t refl

-- ---- where the new run lies: before all, behind the first, or right behind it
with_before : (start end : ℕ) (gs : List Span) → AreSpans end gs → start < end → with_span start end gs ≡ onto start end gs
with_before start end gs h l =
    let before = none_before start end gs h (omega arith) in
    let none = none_ends start end gs h (omega arith) in
    rw (before, none) (behind_onto start end gs h)

with_behind : (start end : ℕ) (g : Span) (gs : List Span) → g.1 < g.0 → g.0 < start → start < end → with_span start end (g ∷ gs) ≡ g ∷ with_span start end gs
with_behind start end g gs k l m =
    let before = lt-ltb g.0 start l in
    let other : is_at (nat_cmp start) g.0 ≡ false = not_at start g.0 (λ e. omega arith) in
    let t = le-ltb end g.0 (omega arith) in
    let u = le-ltb end g.1 (omega arith) in
    rw (before, other, t, u) refl

with_at : (end : ℕ) (g : Span) (gs : List Span) → g.1 < g.0 → g.0 < end → AreSpans end gs → with_span g.0 end (g ∷ gs) ≡ onto g.1 end gs
with_at end g gs k l h =
    let first = le-ltb g.0 g.0 (omega arith) in
    let before = none_before g.0 end gs h (omega arith) in
    let same = at_itself g.0 in
    let t = le-ltb end g.0 (omega arith) in
    let u = le-ltb end g.1 (omega arith) in
    rw (same, first, before, t, u) (behind_onto g.1 end gs h)

with_at_start : (start end : ℕ) (g : Span) (gs : List Span) → g.1 < g.0 → g.0 ≡ start → start < end → AreSpans end gs → with_span start end (g ∷ gs) ≡ onto g.1 end gs
with_at_start start end g gs k q l h = subst (λ (s : ℕ). with_span s end (g ∷ gs) ≡ onto g.1 end gs) q (with_at end g gs k (omega arith) h)

-- no run of those behind an offset begins before `end`
free_past : (start end : ℕ) (gs : List Span) → AreSpans (start + 1) gs → end ≤ 2 ^ 62 → IsFree end (next_span start gs) → AreSpans end gs
free_past start end [] h m f = m
free_past start end (g ∷ gs) h m f =
    let a = h.0 in
    let b = h.1 in
    let t = lt-ltb start g.0 (omega arith) in
    let k : end ≤ g.1 = subst (λ (b : Bool). IsFree end (cond b (Some g) (next_span start gs))) t f in
    (k, h.1, h.2)

-- ---- by a map: the run goes in where the last of those that it touches ends, and the one that ends where it begins goes out
abbrev put_span : ℕ → ℕ → List Span → List Span
put_span start end gs = remove_entry (is_at (nat_cmp start)) (insert_entry nat_cmp gs (end_from end (next_span end gs)) (first_from start gs))

put_before : (start end : ℕ) (gs : List Span) → AreSpans end gs → start < end → put_span start end gs ≡ onto start end gs
put_before start end gs h l =
    let none = none_ends start end gs h (omega arith) in
    rw none (ap (λ (es : List Span). remove_entry (is_at (nat_cmp start)) es) (insert_before start end gs h) ∙ absent (is_at (nat_cmp start)) (onto start end gs) (onto_none start start end gs h l))

end_past : (end : ℕ) (gs : List Span) → end ≤ end_from end (next_span end gs)
end_past end gs = go (next_span end gs) refl
  where
    pick : (b : Bool) (n : ℕ) → end < n → end ≤ cond b n end
    pick true n l = omega arith
    pick false n l = omega arith

    go : (x : Option Span) → next_span end gs ≡ x → end ≤ end_from end x
    go None e = omega arith
    go (Some g) e = pick (g.1 == end) g.0 (next_past end gs g e)

put_behind : (start end : ℕ) (g : Span) (gs : List Span) → g.0 < start → start < end → put_span start end (g ∷ gs) ≡ g ∷ put_span start end gs
put_behind start end g gs l m =
    let other : is_at (nat_cmp start) g.0 ≡ false = not_at start g.0 (λ e. omega arith) in
    let t = le-ltb end g.0 (omega arith) in
    let past = end_past end gs in
    let c : nat_cmp (end_from end (next_span end gs)) g.0 ≡ Greater = sym (nat_cmp_is (end_from end (next_span end gs)) g.0 Greater (omega arith)) in
    rw (other, t, c) (rw other refl)

put_at : (end : ℕ) (g : Span) (gs : List Span) → g.0 < end → AreSpans end gs → put_span g.0 end (g ∷ gs) ≡ onto g.1 end gs
put_at end g gs l h =
    let same = at_itself g.0 in
    let t = le-ltb end g.0 (omega arith) in
    let past = end_past end gs in
    let c : nat_cmp (end_from end (next_span end gs)) g.0 ≡ Greater = sym (nat_cmp_is (end_from end (next_span end gs)) g.0 Greater (omega arith)) in
    rw (same, t, c) (rw same (insert_before g.1 end gs h))

put_at_start : (start end : ℕ) (g : Span) (gs : List Span) → g.0 ≡ start → start < end → AreSpans end gs → put_span start end (g ∷ gs) ≡ onto g.1 end gs
put_at_start start end g gs q l h = subst (λ (s : ℕ). put_span s end (g ∷ gs) ≡ onto g.1 end gs) q (put_at end g gs (omega arith) h)

pub put_is : (low start end : ℕ) (gs : List Span) → AreSpans low gs → start < end → end ≤ 2 ^ 62 → IsFree end (next_span start gs) → put_span start end gs ≡ with_span start end gs
put_is low start end [] h l m f = put_before start end [] m l ∙ sym (with_before start end [] m l)
put_is low start end (g ∷ gs) h l m f = go (cases_order g.0 start) h.1 h.2 (put_is (g.0 + 1) start end gs h.2 l m)
  where
    go : (g.0 ≡ start) ⊎ ((g.0 < start) ⊎ (start < g.0)) → g.1 < g.0 → AreSpans (g.0 + 1) gs → (IsFree end (next_span start gs) → put_span start end gs ≡ with_span start end gs) → put_span start end (g ∷ gs) ≡ with_span start end (g ∷ gs)
    go (inl q) k r ih =
        let t = le-ltb start g.0 (omega arith) in
        let free : IsFree end (next_span start gs) = subst (λ (b : Bool). IsFree end (cond b (Some g) (next_span start gs))) t f in
        let past : AreSpans end gs = free_past start end gs (subst (λ n. AreSpans (n + 1) gs) q r) m free in
        put_at_start start end g gs q l past ∙ sym (with_at_start start end g gs k q l past)
    go (inr (inl q)) k r ih =
        let t = le-ltb start g.0 (omega arith) in
        let free : IsFree end (next_span start gs) = subst (λ (b : Bool). IsFree end (cond b (Some g) (next_span start gs))) t f in
        put_behind start end g gs q l ∙ ap (λ (es : List Span). g ∷ es) (ih free) ∙ sym (with_behind start end g gs k q l)
    go (inr (inr q)) k r ih =
        let t = lt-ltb start g.0 q in
        let free : end ≤ g.1 = subst (λ (b : Bool). IsFree end (cond b (Some g) (next_span start gs))) t f in
        put_before start end (g ∷ gs) (free, k, r) l ∙ sym (with_before start end (g ∷ gs) (free, k, r) l)

-- ---- what the run adds
or_swap : (u v x : Bool) → (u || (v || x)) ≡ (v || (u || x))
or_swap true true x = refl
or_swap true false x = refl
or_swap false true x = refl
or_swap false false x = refl

pub join : (o a b c : ℕ) (x : Bool) → a ≤ b → b ≤ c → (in_span o (c, a) || x) ≡ (in_span o (b, a) || (in_span o (c, b) || x))
join o a b c x l m = go (ltb o a) (ltb o b) (ltb o c) refl refl refl
  where
    go : (p q r : Bool) → ltb o a ≡ p → ltb o b ≡ q → ltb o c ≡ r → ((not p && r) || x) ≡ ((not p && q) || ((not q && r) || x))
    go true true r e f g = refl
    go true false r e f g =
        let j = ltb-true o a e in
        let k = ltb-false o b f in
        absurd (omega arith)
    go false true true e f g = refl
    go false true false e f g =
        let j = ltb-true o b f in
        let k = ltb-false o c g in
        absurd (omega arith)
    go false false r e f g = refl

onto_in : (from end o : ℕ) (gs : List Span) → AreSpans end gs → from < end → in_spans (onto from end gs) o ≡ (in_span o (end, from) || in_spans gs o)
onto_in from end o [] h l = refl
onto_in from end o (g ∷ gs) h l = go (g.1 == end) refl h.1
  where
    go : (b : Bool) → (g.1 == end) ≡ b → g.1 < g.0 → in_spans (cond b ((g.0, from) ∷ gs) ((end, from) ∷ g ∷ gs)) o ≡ (in_span o (end, from) || (in_span o g || in_spans gs o))
    go true q m =
        let same = eqb-true g.1 end q in
        rw (← same) (join o from g.1 g.0 (in_spans gs o) (omega arith) (omega arith))
    go false q m = refl

onto_spans : (low from end : ℕ) (gs : List Span) → AreSpans end gs → low ≤ from → from < end → end < 2 ^ 62 → AreSpans low (onto from end gs)
onto_spans low from end [] h l m s = (l, m, omega arith)
onto_spans low from end (g ∷ gs) h l m s = go (g.1 == end) refl h.0 h.1
  where
    go : (b : Bool) → (g.1 == end) ≡ b → end ≤ g.1 → g.1 < g.0 → AreSpans low (cond b ((g.0, from) ∷ gs) ((end, from) ∷ g ∷ gs))
    go true q j k = (l, omega arith, h.2)
    go false q j k =
        let other = more g.1 end j (eqb-false g.1 end q) in
        (l, m, (omega arith, h.1, h.2))

onto_width : (from end : ℕ) (gs : List Span) → AreSpans end gs → from < end → width_of (onto from end gs) ≡ (end - from) + width_of gs
onto_width from end [] h l = refl
onto_width from end (g ∷ gs) h l = go (g.1 == end) refl h.1
  where
    go : (b : Bool) → (g.1 == end) ≡ b → g.1 < g.0 → width_of (cond b ((g.0, from) ∷ gs) ((end, from) ∷ g ∷ gs)) ≡ (end - from) + ((g.0 - g.1) + width_of gs)
    go true q m = let same = eqb-true g.1 end q in omega arith
    go false q m = refl

-- the offset is in the new set where it is in the old one or in the run
pub with_in : (low start end o : ℕ) (gs : List Span) → AreSpans low gs → start < end → end ≤ 2 ^ 62 → IsFree end (next_span start gs) → in_spans (with_span start end gs) o ≡ (in_span o (end, start) || in_spans gs o)
with_in low start end o [] h l m f = ap (λ (es : List Span). in_spans es o) (with_before start end [] m l)
with_in low start end o (g ∷ gs) h l m f = go (cases_order g.0 start) h.1 h.2 (with_in (g.0 + 1) start end o gs h.2 l m)
  where
    go : (g.0 ≡ start) ⊎ ((g.0 < start) ⊎ (start < g.0)) → g.1 < g.0 → AreSpans (g.0 + 1) gs → (IsFree end (next_span start gs) → in_spans (with_span start end gs) o ≡ (in_span o (end, start) || in_spans gs o)) → in_spans (with_span start end (g ∷ gs)) o ≡ (in_span o (end, start) || (in_span o g || in_spans gs o))
    go (inl q) k r ih =
        let t = le-ltb start g.0 (omega arith) in
        let free : IsFree end (next_span start gs) = subst (λ (b : Bool). IsFree end (cond b (Some g) (next_span start gs))) t f in
        let past : AreSpans end gs = free_past start end gs (subst (λ n. AreSpans (n + 1) gs) q r) m free in
        ap (λ (es : List Span). in_spans es o) (with_at_start start end g gs k q l past) ∙ onto_in g.1 end o gs past (omega arith) ∙ join o g.1 start end (in_spans gs o) (omega arith) (omega arith) ∙ or_swap (in_span o (start, g.1)) (in_span o (end, start)) (in_spans gs o) ∙ ap (λ (n : ℕ). in_span o (end, start) || (in_span o (n, g.1) || in_spans gs o)) (sym q)
    go (inr (inl q)) k r ih =
        let t = le-ltb start g.0 (omega arith) in
        let free : IsFree end (next_span start gs) = subst (λ (b : Bool). IsFree end (cond b (Some g) (next_span start gs))) t f in
        ap (λ (es : List Span). in_spans es o) (with_behind start end g gs k q l) ∙ ap (λ b. in_span o g || b) (ih free) ∙ or_swap (in_span o g) (in_span o (end, start)) (in_spans gs o)
    go (inr (inr q)) k r ih =
        let t = lt-ltb start g.0 q in
        let free : end ≤ g.1 = subst (λ (b : Bool). IsFree end (cond b (Some g) (next_span start gs))) t f in
        ap (λ (es : List Span). in_spans es o) (with_before start end (g ∷ gs) (free, k, r) l) ∙ onto_in start end o (g ∷ gs) (free, k, r) l

pub with_spans : (low start end : ℕ) (gs : List Span) → AreSpans low gs → low ≤ start → start < end → end < 2 ^ 62 → IsFree end (next_span start gs) → AreSpans low (with_span start end gs)
with_spans low start end [] h w l m f = let small : end ≤ 2 ^ 62 = omega arith in subst (λ (es : List Span). AreSpans low es) (sym (with_before start end [] small l)) (onto_spans low start end [] small w l m)
with_spans low start end (g ∷ gs) h w l m f = go (cases_order g.0 start) h.0 h.1 h.2 (with_spans (g.0 + 1) start end gs h.2)
  where
    go : (g.0 ≡ start) ⊎ ((g.0 < start) ⊎ (start < g.0)) → low ≤ g.1 → g.1 < g.0 → AreSpans (g.0 + 1) gs → (g.0 + 1 ≤ start → start < end → end < 2 ^ 62 → IsFree end (next_span start gs) → AreSpans (g.0 + 1) (with_span start end gs)) → AreSpans low (with_span start end (g ∷ gs))
    go (inl q) j k r ih =
        let t = le-ltb start g.0 (omega arith) in
        let free : IsFree end (next_span start gs) = subst (λ (b : Bool). IsFree end (cond b (Some g) (next_span start gs))) t f in
        let past : AreSpans end gs = free_past start end gs (subst (λ n. AreSpans (n + 1) gs) q r) (omega arith) free in
        subst (λ (es : List Span). AreSpans low es) (sym (with_at_start start end g gs k q l past)) (onto_spans low g.1 end gs past j (omega arith) m)
    go (inr (inl q)) j k r ih =
        let t = le-ltb start g.0 (omega arith) in
        let free : IsFree end (next_span start gs) = subst (λ (b : Bool). IsFree end (cond b (Some g) (next_span start gs))) t f in
        subst (λ (es : List Span). AreSpans low es) (sym (with_behind start end g gs k q l)) (j, k, ih (omega arith) l m free)
    go (inr (inr q)) j k r ih =
        let t = lt-ltb start g.0 q in
        let free : end ≤ g.1 = subst (λ (b : Bool). IsFree end (cond b (Some g) (next_span start gs))) t f in
        subst (λ (es : List Span). AreSpans low es) (sym (with_before start end (g ∷ gs) (free, k, r) l)) (onto_spans low start end (g ∷ gs) (free, k, r) w l m)

pub with_width : (low start end : ℕ) (gs : List Span) → AreSpans low gs → start < end → end ≤ 2 ^ 62 → IsFree end (next_span start gs) → width_of (with_span start end gs) ≡ width_of gs + (end - start)
with_width low start end [] h l m f = ap width_of (with_before start end [] m l) ∙ onto_width start end [] m l ∙ omega arith
with_width low start end (g ∷ gs) h l m f = go (cases_order g.0 start) h.1 h.2 (with_width (g.0 + 1) start end gs h.2 l m)
  where
    go : (g.0 ≡ start) ⊎ ((g.0 < start) ⊎ (start < g.0)) → g.1 < g.0 → AreSpans (g.0 + 1) gs → (IsFree end (next_span start gs) → width_of (with_span start end gs) ≡ width_of gs + (end - start)) → width_of (with_span start end (g ∷ gs)) ≡ ((g.0 - g.1) + width_of gs) + (end - start)
    go (inl q) k r ih =
        let t = le-ltb start g.0 (omega arith) in
        let free : IsFree end (next_span start gs) = subst (λ (b : Bool). IsFree end (cond b (Some g) (next_span start gs))) t f in
        let past : AreSpans end gs = free_past start end gs (subst (λ n. AreSpans (n + 1) gs) q r) m free in
        ap width_of (with_at_start start end g gs k q l past) ∙ onto_width g.1 end gs past (omega arith) ∙ omega arith
    go (inr (inl q)) k r ih =
        let t = le-ltb start g.0 (omega arith) in
        let free : IsFree end (next_span start gs) = subst (λ (b : Bool). IsFree end (cond b (Some g) (next_span start gs))) t f in
        let i = ih free in
        ap width_of (with_behind start end g gs k q l) ∙ omega arith
    go (inr (inr q)) k r ih =
        let t = lt-ltb start g.0 q in
        let free : end ≤ g.1 = subst (λ (b : Bool). IsFree end (cond b (Some g) (next_span start gs))) t f in
        ap width_of (with_before start end (g ∷ gs) (free, k, r) l) ∙ onto_width start end (g ∷ gs) (free, k, r) l ∙ omega arith

-- ---- the same of a run that may be empty
and_false : (b : Bool) → (b && false) ≡ false
and_false true = refl
and_false false = refl

pub run_in : (low at len o : ℕ) (gs : List Span) → AreSpans low gs → at + len ≤ 2 ^ 62 → (0 < len → IsFree (at + len) (next_span at gs)) → in_spans (with_run at len gs) o ≡ (in_span o (at + len, at) || in_spans gs o)
run_in low at len o gs h m f = go (ltb 0 len) refl
  where
    nothing : (b : Bool) → ltb o at ≡ b → len ≡ 0 → (not b && ltb o (at + len)) ≡ false
    nothing true q e = refl
    nothing false q e = let k = ltb-false o at q in le-ltb o (at + len) (omega arith)

    go : (b : Bool) → ltb 0 len ≡ b → in_spans (cond b (with_span at (at + len) gs) gs) o ≡ (in_span o (at + len, at) || in_spans gs o)
    go true q = let k = ltb-true 0 len q in with_in low at (at + len) o gs h (omega arith) m (f k)
    go false q =
        let k = ltb-false 0 len q in
        rw (nothing (ltb o at) refl (omega arith)) refl

pub run_spans : (low at len : ℕ) (gs : List Span) → AreSpans low gs → low ≤ at → at + len < 2 ^ 62 → (0 < len → IsFree (at + len) (next_span at gs)) → AreSpans low (with_run at len gs)
run_spans low at len gs h w m f = go (ltb 0 len) refl
  where
    go : (b : Bool) → ltb 0 len ≡ b → AreSpans low (cond b (with_span at (at + len) gs) gs)
    go true q = let k = ltb-true 0 len q in with_spans low at (at + len) gs h w (omega arith) m (f k)
    go false q = h

pub run_width : (low at len : ℕ) (gs : List Span) → AreSpans low gs → at + len ≤ 2 ^ 62 → (0 < len → IsFree (at + len) (next_span at gs)) → width_of (with_run at len gs) ≡ width_of gs + len
run_width low at len gs h m f = go (ltb 0 len) refl
  where
    go : (b : Bool) → ltb 0 len ≡ b → width_of (cond b (with_span at (at + len) gs) gs) ≡ width_of gs + len
    go true q = let k = ltb-true 0 len q in let e = with_width low at (at + len) gs h (omega arith) m (f k) in omega arith
    go false q = let k = ltb-false 0 len q in omega arith

-- no run begins before `end`, where no offset from `at` up to it is in one
pub free_of : (low at end : ℕ) (gs : List Span) → at < end → AreSpans low gs → ((o : ℕ) → at ≤ o → o < end → in_spans gs o ≡ false) → IsFree end (next_span at gs)
free_of low at end [] w h f = tt
free_of low at end (g ∷ gs) w h f = go (ltb at g.0) refl (free_of (g.0 + 1) at end gs w h.2 (λ o l m. others o (f o l m)))
  where
    others : (o : ℕ) → (in_span o g || in_spans gs o) ≡ false → in_spans gs o ≡ false
    others o e = drop_or (in_span o g) e
      where
        drop_or : (b : Bool) → (b || in_spans gs o) ≡ false → in_spans gs o ≡ false
        drop_or true e = cc
        drop_or false e = e

    in_it : (o : ℕ) → g.1 ≤ o → o < g.0 → (in_span o g || in_spans gs o) ≡ true
    in_it o l m =
        let s = le-ltb o g.1 l in
        let t = lt-ltb o g.0 m in
        rw (s, t) refl

    first : (b : Bool) → ltb g.1 end ≡ b → at < g.0 → end ≤ g.1
    first true q l =
        let full = h.1 in
        let m = ltb-true g.1 end q in
        let yes = in_it (max at g.1) (omega arith) (omega arith) in
        let no_one : (in_span (max at g.1) g || in_spans gs (max at g.1)) ≡ false = f (max at g.1) (omega arith) (omega arith) in
        absurd (differ (sym yes ∙ no_one))
      where
        differ : true ≡ false → ⊥
        differ e = cc
    first false q l = ltb-false g.1 end q

    go : (b : Bool) → ltb at g.0 ≡ b → IsFree end (next_span at gs) → IsFree end (cond b (Some g) (next_span at gs))
    go true q ih = first (ltb g.1 end) refl (ltb-true at g.0 q)
    go false q ih = ih

lt_from_out : (at : ℕ) (x : Span) → false ≡ not (ltb at x.1) → at < x.1
lt_from_out at x b = ltb-true at x.1 (go (ltb at x.1) b)
  where
    go : (c : Bool) → false ≡ not c → c ≡ true
    go true e = refl
    go false e = e

pub look_some : (at n len : ℕ) (gs : List Span) (held : Bool) → 0 < len → held ≡ is_spanned at (next_span at gs) → n ≡ cond held (spanned_at at len (next_span at gs)) (free_at at len (next_span at gs)) → (0 < n) × (n ≤ len)
look_some at n len gs held l b e = go (next_span at gs) refl held b e
  where
    go : (o : Option Span) → next_span at gs ≡ o → (held : Bool) → held ≡ is_spanned at o → n ≡ cond held (spanned_at at len o) (free_at at len o) → (0 < n) × (n ≤ len)
    go None q true b e = cc
    go None q false b e = (omega arith, omega arith)
    go (Some x) q true b e = let past = next_past at gs x q in (omega arith, omega arith)
    go (Some x) q false b e = let out = lt_from_out at x b in (omega arith, omega arith)

-- no run holds an offset below the first
pub in_below : (low o : ℕ) (gs : List Span) → AreSpans low gs → o < low → in_spans gs o ≡ false
in_below low o [] h l = refl
in_below low o (g ∷ gs) h l =
    let a = h.0 in
    let b = h.1 in
    let t = lt-ltb o g.1 (omega arith) in
    rw t (in_below (g.0 + 1) o gs h.2 (omega arith))
