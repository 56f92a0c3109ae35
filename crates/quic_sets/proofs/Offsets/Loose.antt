-- Runs: what they have, and one more or less at an offset.
use Rattle.std.proofs.Common.{◌≡◌, ℕ, ◌+◌, ◌<◌, ◌≤◌, ◌==◌, ltb, List, [], ◌∷◌, ◌++◌, Bool, true, false, not, ◌&&◌, ◌||◌, Some, None, Option, map, refl, sym, ap, ◌∙◌, subst, arith, inl, inr, ◌↔◌}
use Rattle.std.specs.Ordering.{nat_cmp}
use Rattle.std.specs.Cmp.{nat_cmp_is}
use Rattle.std.specs.declared.cmp.Ordering.TheVariants.{Less, Greater}
use Rattle.std.specs.Map.{lookup, remove_entry, set_value}
use Rattle.std.specs.BTreeMap.{insert_entry, is_at}
use Rattle.std.proofs.lemmas.Bool.{ltb-true, ltb-false, lt-ltb, le-ltb, eqb-false, or_cases, or_left, or_right, and_parts, and_from, not-true, not_from_false, both_ways, or_parts, eq-eqb}
use Rattle.quic_sets.specs.Runs.{Has, AreRuns, AreRunsFrom}
use Rattle.quic_sets.specs.Spans.{Span, in_span, in_spans, next_span}
use Rattle.quic_sets.specs.Loose.{LieWithin, greatest, begins_first, touches, AreMaximal, as_run}
use Rattle.quic_sets.proofs.Parts.First.{not_at, at_itself}

-- ---- lists of runs in two
pub lie_on : (low mid high : ℕ) (xs ys : List Span) → LieWithin low xs mid → LieWithin mid ys high → LieWithin low (xs ++ ys) high
lie_on low mid high [] [] h k = let a : low ≤ mid = h in let b : mid ≤ high = k in omega arith
lie_on low mid high [] (y ∷ ys) h k = let a : low ≤ mid = h in let b = k.0 in (omega arith, k.1, k.2)
lie_on low mid high (x ∷ xs) ys h k = (h.0, h.1, lie_on x.0 mid high xs ys h.2 k)

pub lie_up : (low high : ℕ) (xs : List Span) → LieWithin low xs high → low ≤ high
lie_up low high [] h = h
lie_up low high (x ∷ xs) h = let a = h.0 in let b = h.1 in let c = lie_up x.0 high xs h.2 in omega arith

pub spans_on : (o : ℕ) (xs ys : List Span) → in_spans (xs ++ ys) o ≡ (in_spans xs o || in_spans ys o)
spans_on o [] ys = refl
spans_on o (x ∷ xs) ys = ap (λ b. in_span o x || b) (spans_on o xs ys) ∙ assoc (in_span o x) (in_spans xs o) (in_spans ys o)
  where
    assoc : (a b c : Bool) → (a || (b || c)) ≡ ((a || b) || c)
    assoc true b c = refl
    assoc false b c = refl

-- the first run ends behind an offset
abbrev pub EndsPast : ℕ → List Span → Type 0
EndsPast at [] = Unit {0}
EndsPast at (g ∷ gs) = at < g.0

abbrev pub first_span : List Span → Option Span
first_span [] = None
first_span (g ∷ gs) = Some g

-- the runs that end up to an offset, and those that end behind it
pub record Split (low at high : ℕ) (es : List Span) : Type 0 where
  pub xs : List Span
  pub ys : List Span
  pub mid : ℕ
  pub same : es ≡ xs ++ ys
  pub left : LieWithin low xs mid
  pub up : mid ≤ at
  pub right : LieWithin mid ys high
  pub past : EndsPast at ys
  pub next : next_span at es ≡ first_span ys

pub split_at : (low at high : ℕ) (es : List Span) → LieWithin low es high → low ≤ at → Split low at high es
split_at low at high [] h l = record { xs = []; ys = []; mid = low; same = refl; left = omega arith; up = l; right = h; past = tt; next = refl }
split_at low at high (g ∷ gs) h l = go (ltb at g.0) refl (split_at g.0 at high gs h.2)
  where
    go : (b : Bool) → ltb at g.0 ≡ b → (g.0 ≤ at → Split g.0 at high gs) → Split low at high (g ∷ gs)
    go true q ih = record { xs = []; ys = g ∷ gs; mid = low; same = refl; left = omega arith; up = l; right = h; past = ltb-true at g.0 q; next = rw q refl }
    go false q ih =
        let s = ih (ltb-false at g.0 q) in
        record { xs = g ∷ s.xs; ys = s.ys; mid = s.mid; same = ap (λ (es : List Span). g ∷ es) s.same; left = (h.0, h.1, s.left); up = s.up; right = s.right; past = s.past; next = rw q s.next }

-- ---- one entry of the map
pub put_at : (low mid k v : ℕ) (xs ys : List Span) → LieWithin low xs mid → mid < k → EndsPast k ys → insert_entry nat_cmp (xs ++ ys) k v ≡ xs ++ (k, v) ∷ ys
put_at low mid k v [] [] h l p = refl
put_at low mid k v [] (y ∷ ys) h l p = let c : nat_cmp k y.0 ≡ Less = sym (nat_cmp_is k y.0 Less p) in rw c refl
put_at low mid k v (x ∷ xs) ys h l p =
    let up = lie_up x.0 mid xs h.2 in
    let c : nat_cmp k x.0 ≡ Greater = sym (nat_cmp_is k x.0 Greater (omega arith)) in
    rw c (ap (λ (es : List Span). x ∷ es) (put_at x.0 mid k v xs ys h.2 l p))

pub take_at : (low mid k v : ℕ) (xs ys : List Span) → LieWithin low xs mid → mid < k → remove_entry (is_at (nat_cmp k)) (xs ++ (k, v) ∷ ys) ≡ xs ++ ys
take_at low mid k v [] ys h l = let t = at_itself k in rw t refl
take_at low mid k v (x ∷ xs) ys h l =
    let up = lie_up x.0 mid xs h.2 in
    let other : is_at (nat_cmp k) x.0 ≡ false = not_at k x.0 (λ e. omega arith) in
    rw other (ap (λ (es : List Span). x ∷ es) (take_at x.0 mid k v xs ys h.2 l))

pub set_at : (low mid k v w : ℕ) (xs ys : List Span) → LieWithin low xs mid → mid < k → set_value (is_at (nat_cmp k)) (xs ++ (k, v) ∷ ys) w ≡ xs ++ (k, w) ∷ ys
set_at low mid k v w [] ys h l = let t = at_itself k in rw t refl
set_at low mid k v w (x ∷ xs) ys h l =
    let up = lie_up x.0 mid xs h.2 in
    let other : is_at (nat_cmp k) x.0 ≡ false = not_at k x.0 (λ e. omega arith) in
    rw other (ap (λ (es : List Span). x ∷ es) (set_at x.0 mid k v w xs ys h.2 l))

-- no run ends at an offset
pub none_behind : (low high k : ℕ) (zs : List Span) → LieWithin low zs high → k < low → lookup (is_at (nat_cmp k)) zs ≡ None
none_behind low high k [] s m = refl
none_behind low high k (z ∷ zs) s m =
    let a = s.0 in
    let b = s.1 in
    let other : is_at (nat_cmp k) z.0 ≡ false = not_at k z.0 (λ e. omega arith) in
    rw other (none_behind z.0 high k zs s.2 (omega arith))

pub none_at : (low mid high k : ℕ) (xs ys : List Span) → LieWithin low xs mid → mid < k → LieWithin mid ys high → EndsPast k ys → lookup (is_at (nat_cmp k)) (xs ++ ys) ≡ None
none_at low mid high k [] [] h l r p = refl
none_at low mid high k [] (y ∷ ys) h l r p =
    let other : is_at (nat_cmp k) y.0 ≡ false = not_at k y.0 (λ e. omega arith) in
    rw other (none_behind y.0 high k ys r.2 p)
none_at low mid high k (x ∷ xs) ys h l r p =
    let up = lie_up x.0 mid xs h.2 in
    let other : is_at (nat_cmp k) x.0 ≡ false = not_at k x.0 (λ e. omega arith) in
    rw other (none_at x.0 mid high k xs ys h.2 l r p)

-- ---- offsets beside the runs
pub out_above : (low mid o : ℕ) (xs : List Span) → LieWithin low xs mid → mid ≤ o → in_spans xs o ≡ false
out_above low mid o [] h l = refl
out_above low mid o (x ∷ xs) h l =
    let up = lie_up x.0 mid xs h.2 in
    let t = le-ltb o x.0 (omega arith) in
    rw (t, out_above x.0 mid o xs h.2 l) (no_more (not (ltb o x.1)))
  where
    no_more : (b : Bool) → ((b && false) || false) ≡ false
    no_more true = refl
    no_more false = refl

pub out_below : (low high o : ℕ) (xs : List Span) → LieWithin low xs high → o < low → in_spans xs o ≡ false
out_below low high o [] h l = refl
out_below low high o (x ∷ xs) h l =
    let a = h.0 in
    let b = h.1 in
    let t = lt-ltb o x.1 (omega arith) in
    rw (t, out_below x.0 high o xs h.2 (omega arith)) refl

-- ---- the runs of the map as a list of runs
-- where the first run doesn't begin at an offset, all lie behind it
past_first : (at : ℕ) (gs : List Span) → begins_first at gs ≡ false → AreRunsFrom at (map as_run gs) → AreRunsFrom (at + 1) (map as_run gs)
past_first at [] e h = tt
past_first at (g ∷ gs) e h = (more g.1 at h.0 (eqb-false g.1 at e), h.1, h.2)
  where
    more : (a b : ℕ) → b ≤ a → (a ≡ b → ⊥) → b + 1 ≤ a
    more a b j n = omega arith

runs_from : (low high : ℕ) (es : List Span) → LieWithin low es high → ((o : ℕ) → touches o es ≡ false) → AreRunsFrom low (map as_run es)
runs_from low high [] h t = tt
runs_from low high (g ∷ gs) h t =
    let apart : begins_first g.0 gs ≡ false = subst (λ (b : Bool). (b && begins_first g.0 gs) ≡ false) (eq-eqb g.0 g.0 refl) (or_parts (g.0 == g.0 && begins_first g.0 gs) (touches g.0 gs) (t g.0)).0 in
    (h.0, h.1, past_first g.0 gs apart (runs_from g.0 high gs h.2 (λ o. (or_parts (g.0 == o && begins_first o gs) (touches o gs) (t o)).1)))

pub runs_are : (es : List Span) → AreMaximal es → AreRuns (map as_run es)
runs_are es m = runs_from 0 greatest es m.loose m.apart

pub span_is : (k : ℕ) (g : Span) → in_span k g ≡ true → (g.1 ≤ k) × (k < g.0)
span_is k g e = let p = and_parts (not (ltb k g.1)) (ltb k g.0) e in (ltb-false k g.1 (not-true (ltb k g.1) p.0), ltb-true k g.0 p.1)

pub span_from : (k : ℕ) (g : Span) → g.1 ≤ k → k < g.0 → in_span k g ≡ true
span_from k g le lt = and_from (not (ltb k g.1)) (ltb k g.0) (not_from_false (ltb k g.1) (le-ltb k g.1 le)) (lt-ltb k g.0 lt)

pub runs_have : (k : ℕ) (es : List Span) → Has (map as_run es) k ↔ (in_spans es k ≡ true)
runs_have k [] = (λ x. absurd x, λ e. absurd (both_ways false refl e))
runs_have k (g ∷ gs) =
    let ih = runs_have k gs in (
      λ x. elim x [
        | inl i ↦ or_left (in_span k g) (in_spans gs k) (span_from k g i.0 i.1)
        | inr i ↦ or_right (in_span k g) (in_spans gs k) (ih.0 i)
      ],
      λ e. elim (or_cases (in_span k g) (in_spans gs k) e) [
        | inl i ↦ inl (span_is k g i)
        | inr i ↦ inr (ih.1 i)
      ],
    )
