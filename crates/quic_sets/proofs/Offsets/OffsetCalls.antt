-- What the calls of a set of offsets do to its runs.
use Rattle.std.proofs.Common.{◌≡◌, ℕ, ◌+◌, ◌<◌, ◌≤◌, ◌==◌, ltb, List, [], ◌∷◌, map, Bool, true, false, not, ◌&&◌, ◌||◌, cond, Some, None, Option, refl, sym, ap, ◌∙◌, subst, arith, inl, inr}
use Rattle.std.proofs.lemmas.Bool.{or_cases, or_left, or_right, and_parts, and_from, not-true, not_from_false, false_from_ne_true, both_ways, ltb-true, ltb-false, le-ltb, eqb-false, eq-eqb, or_parts, not-false}
use Rattle.quic_sets.specs.Runs.{Has, Adds, Drops}
use Rattle.quic_sets.specs.Lacking.{AddsLacking, HasLacking, HasMoving}
use Rattle.quic_sets.proofs.RunLists.{same_list}
use Rattle.quic_sets.specs.Spans.{Span, in_span, in_spans, next_span, is_spanned, spanned_at, free_at}
use Rattle.quic_sets.specs.Loose.{LieWithin, greatest, AreLoose, AreMaximal, BothLack, as_run, IsCut, begins_first, touches}
use Rattle.quic_sets.proofs.Offsets.Spans.{next_in, next_past, look_some}
use Rattle.quic_sets.proofs.Offsets.Loose.{lie_up, out_below, span_is, span_from, runs_are, runs_have}
use Rattle.quic_sets.proofs.Offsets.LooseSteps.{look_as}

-- ---- offsets more or less
pub lacking_made : (a z : ℕ) (es ns os : List Span) → ((o : ℕ) → in_spans ns o ≡ (in_spans es o || (in_span o (z, a) && not (in_spans os o)))) → AddsLacking (map as_run es) (map as_run os) (map as_run ns) a z
lacking_made a z es ns os has = λ k.
    let old = runs_have k es in
    let new = runs_have k ns in
    let other = runs_have k os in (
      λ y. elim (or_cases (in_spans es k) (in_span k (z, a) && not (in_spans os k)) (sym (has k) ∙ new.0 y)) [
        | inl i ↦ inl (old.1 i)
        | inr i ↦ (let p = and_parts (in_span k (z, a)) (not (in_spans os k)) i in let w = span_is k (z, a) p.0 in inr (w.0, w.1, λ t. both_ways (in_spans os k) (not-true (in_spans os k) p.1) (other.0 t)))
      ],
      λ y. new.1 (has k ∙ elim y [
        | inl i ↦ or_left (in_spans es k) (in_span k (z, a) && not (in_spans os k)) (old.0 i)
        | inr i ↦ or_right (in_spans es k) (in_span k (z, a) && not (in_spans os k)) (and_from (in_span k (z, a)) (not (in_spans os k)) (span_from k (z, a) i.0 i.1) (not_from_false (in_spans os k) (false_from_ne_true (in_spans os k) (λ t. i.2 (other.1 t)))))
      ]),
    )

pub adds_made : (a z : ℕ) (es ns os : List Span) → os ≡ [] → ((o : ℕ) → in_spans ns o ≡ (in_spans es o || (in_span o (z, a) && not (in_spans os o)))) → Adds (map as_run es) (map as_run ns) a z
adds_made a z es ns os none has = λ k.
    let l = lacking_made a z es ns [] (λ o. has o ∙ ap (λ (gs : List Span). in_spans es o || (in_span o (z, a) && not (in_spans gs o))) none) k in
    (λ y. elim (l.0 y) [ inl i ↦ inl i | inr i ↦ inr (i.0, i.1) ], λ y. l.1 (elim y [ inl i ↦ inl i | inr i ↦ inr (i.0, i.1, λ t. t) ]))

pub drops_made : (a z : ℕ) (es ns : List Span) → ((o : ℕ) → in_spans ns o ≡ (in_spans es o && not (in_span o (z, a)))) → Drops (map as_run es) (map as_run ns) a z
drops_made a z es ns has = λ k.
    let old = runs_have k es in
    let new = runs_have k ns in (
      λ y. let p = and_parts (in_spans es k) (not (in_span k (z, a))) (sym (has k) ∙ new.0 y) in
          (old.1 p.0, λ w. both_ways (in_span k (z, a)) (not-true (in_span k (z, a)) p.1) (span_from k (z, a) w.0 w.1)),
      λ y. new.1 (has k ∙ and_from (in_spans es k) (not (in_span k (z, a))) (old.0 y.0) (not_from_false (in_span k (z, a)) (false_from_ne_true (in_span k (z, a)) (λ t. y.1 (span_is k (z, a) t))))),
    )

pub same_made : (es ns : List Span) → AreMaximal es → AreMaximal ns → ((o : ℕ) → in_spans ns o ≡ in_spans es o) → map as_run ns ≡ map as_run es
same_made es ns h n has = same_list 0 0 (map as_run ns) (map as_run es) (runs_are ns n) (runs_are es h) (λ k.
    let old = runs_have k es in
    let new = runs_have k ns in
    (λ y. old.1 (sym (has k) ∙ new.0 y), λ y. new.1 (has k ∙ old.0 y)))

-- ---- where memory lacks
outside : (k : ℕ) (es : List Span) → in_spans es k ≡ false → Has (map as_run es) k → ⊥
outside k es e h = both_ways (in_spans es k) e ((runs_have k es).0 h)

pub lacks_made : (a z : ℕ) (es os : List Span) → BothLack es os a z → HasLacking (map as_run es) (map as_run os) a z
lacks_made a z es os f = record {
  number = f.offset;
  lacking = (f.above, f.below, outside f.offset os f.other);
  new = outside f.offset es f.free;
}

pub moves_in : (a z : ℕ) (es os ns : List Span) → BothLack es ns a z → HasMoving (map as_run es) (map as_run os) a z
moves_in a z es os ns f = record { number = f.offset; above = f.above; below = f.below; moves = inl (outside f.offset es f.free) }

pub moves_out : (a z : ℕ) (es os : List Span) → a < z → in_spans os a ≡ true → HasMoving (map as_run es) (map as_run os) a z
moves_out a z es os l e = record { number = a; above = omega arith; below = l; moves = inr ((runs_have a os).1 e) }

-- ---- none is below a range
own : (at : ℕ) (es : List Span) (g : Span) → (low high : ℕ) → LieWithin low es high → next_span at es ≡ Some g → (g.1 < g.0) × (g.0 ≤ high)
own at [] g low high h e = cc
own at (x ∷ es) g low high h e = go (ltb at x.0) e (own at es g x.0 high h.2)
  where
    go : (b : Bool) → cond b (Some x) (next_span at es) ≡ Some g → (next_span at es ≡ Some g → (g.1 < g.0) × (g.0 ≤ high)) → (g.1 < g.0) × (g.0 ≤ high)
    go true e ih = let same : x ≡ g = cc in subst (λ (y : Span). (y.1 < y.0) × (y.0 ≤ high)) same (h.1, lie_up x.0 high es h.2)
    go false e ih = ih e

pub cut_least : (a : ℕ) (es : List Span) → AreLoose es → ((k : ℕ) → Has (map as_run es) k → a ≤ k) → IsCut a (next_span a es)
cut_least a es h least = go (next_span a es) refl
  where
    go : (x : Option Span) → next_span a es ≡ x → IsCut a x
    go None e = tt
    go (Some g) e =
        let full = own a es g 0 greatest h e in
        least g.1 ((runs_have g.1 es).1 (next_in a g.1 es g e (span_from g.1 g (omega arith) full.0)))

-- ---- a look: the offset behind those that are alike isn't
-- the set has no offset where a run ends
end_out : (low high at : ℕ) (es : List Span) (g : Span) → LieWithin low es high → ((o : ℕ) → touches o es ≡ false) → next_span at es ≡ Some g → in_spans es g.0 ≡ false
end_out low high at [] g h t e = cc
end_out low high at (x ∷ xs) g h t e = go (ltb at x.0) refl e (end_out x.0 high at xs g h.2 (λ o. (or_parts (x.0 == o && begins_first o xs) (touches o xs) (t o)).1))
  where
    no_more : (b : Bool) → ((b && false) || false) ≡ false
    no_more true = refl
    no_more false = refl

    behind : (ys : List Span) → begins_first x.0 ys ≡ false → LieWithin x.0 ys high → in_spans ys x.0 ≡ false
    behind [] b l = refl
    behind (y ∷ ys) b l = out_below y.1 high x.0 (y ∷ ys) (omega arith, l.1, l.2) (more y.1 x.0 l.0 (eqb-false y.1 x.0 b))
      where
        more : (a b : ℕ) → b ≤ a → (a ≡ b → ⊥) → b < a
        more a b j n = omega arith

    self : in_spans (x ∷ xs) x.0 ≡ false
    self =
        let apart : begins_first x.0 xs ≡ false = subst (λ (b : Bool). (b && begins_first x.0 xs) ≡ false) (eq-eqb x.0 x.0 refl) (or_parts (x.0 == x.0 && begins_first x.0 xs) (touches x.0 xs) (t x.0)).0 in
        let out = le-ltb x.0 x.0 (omega arith) in
        let rest = behind xs apart h.2 in
        rw (out, rest) (no_more (not (ltb x.0 x.1)))

    go : (b : Bool) → ltb at x.0 ≡ b → cond b (Some x) (next_span at xs) ≡ Some g → (next_span at xs ≡ Some g → in_spans xs g.0 ≡ false) → in_spans (x ∷ xs) g.0 ≡ false
    go true q e ih = let same : x ≡ g = cc in subst (λ (y : Span). in_spans (x ∷ xs) y.0 ≡ false) same self
    go false q e ih =
        let past = next_past at xs g e in
        let below = ltb-false at x.0 q in
        let out = le-ltb g.0 x.0 (omega arith) in
        let rest = ih e in
        rw (out, rest) (no_more (not (ltb g.0 x.1)))

pub look_most : (at len n : ℕ) (es : List Span) (held : Bool) → AreMaximal es → held ≡ is_spanned at (next_span at es) → n ≡ cond held (spanned_at at len (next_span at es)) (free_at at len (next_span at es)) → n < len → in_spans es (at + n) ≡ not held
look_most at len n es held m b e l = go (next_span at es) refl held b e
  where
    go : (x : Option Span) → next_span at es ≡ x → (held : Bool) → held ≡ is_spanned at x → n ≡ cond held (spanned_at at len x) (free_at at len x) → in_spans es (at + n) ≡ not held
    go None q true b e = cc
    go None q false b e = absurd (omega arith)
    go (Some g) q true b e =
        let past = next_past at es g q in
        ap (in_spans es) (omega arith) ∙ end_out 0 greatest at es g m.loose m.apart q
    go (Some g) q false b e =
        let out = ltb-true at g.1 (not-false (ltb at g.1) (sym b)) in
        let full = own at es g 0 greatest m.loose q in
        ap (in_spans es) (omega arith) ∙ next_in at g.1 es g q (span_from g.1 g (omega arith) full.0)

-- the run behind an offset holds it where the set does
pub spanned_is : (at : ℕ) (es : List Span) → AreLoose es → is_spanned at (next_span at es) ≡ in_spans es at
spanned_is at es h =
    let held = is_spanned at (next_span at es) in
    let n = cond held (spanned_at at 1 (next_span at es)) (free_at at 1 (next_span at es)) in
    let some = look_some at n 1 es held (omega arith) refl refl in
    sym (look_as at 1 n at es held h refl refl (omega arith) (omega (arith, some.0)))
