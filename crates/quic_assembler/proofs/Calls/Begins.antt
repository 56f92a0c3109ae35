-- Where a part begins once bytes came: where one did, and where new bytes begin.
use Rattle.std.proofs.Common.{◌≡◌, ℕ, ◌+◌, ◌-◌, ◌^◌, ◌<◌, ◌≤◌, ◌==◌, length, List, [], ◌∷◌, take, drop, Bool, true, false, not, ◌&&◌, ◌||◌, cond, refl, sym, ap, ◌∙◌, arith, max, length-take, length-drop, ◌⊎◌, inl, inr}
use Rattle.std.specs.Option.{is_some}
use Rattle.std.proofs.lemmas.Bool.{lt-ltb, le-ltb, eq-eqb, ne_eqb, cases_eq, cases_lt, cases_order, and_right}
use Rattle.quic_sets.specs.Spans.{Span, AreSpans, in_spans}
use Rattle.quic_assembler.specs.Arrived.{Arrived, AreApart, IsLawful, byte_at, waits, with_part, with_gaps, with_free}
use Rattle.quic_sets.specs.Parts.{Part, start, byte_from}
use Rattle.quic_assembler.specs.Waiting.{begins_part, is_new, begins_then}
use Rattle.quic_sets.proofs.Parts.Bytes.{from_below, from_behind, from_within, from_front, from_front_behind, from_back}
use Rattle.quic_assembler.proofs.Arrived.Bytes.{at_gaps, or_none}
use Rattle.quic_assembler.proofs.Arrived.Claims.{gaps_apart}
use Rattle.quic_sets.proofs.Offsets.Spans.{in_below}
use Rattle.quic_assembler.proofs.Arrived.Lawful.{or_false, or_assoc}
use Rattle.quic_assembler.proofs.Arrived.Runs.{and_true, in_part, in_past}
use Rattle.quic_assembler.proofs.Arrived.Runs as runs

-- ---- where a test begins to hold
abbrev before : (ℕ → Bool) → ℕ → Bool
before f o = cond (o == 0) false (f (o - 1))

-- it holds at an offset, and not right before it
abbrev edge : (ℕ → Bool) → ℕ → Bool
edge f o = f o && not (before f o)

edge_of : (f : ℕ → Bool) (o : ℕ) (x y : Bool) → f o ≡ x → before f o ≡ y → edge f o ≡ (x && not y)
edge_of f o x y e d = rw (e, d) refl

edge_same : (f g : ℕ → Bool) (o : ℕ) → ((i : ℕ) → f i ≡ g i) → edge f o ≡ edge g o
edge_same f g o h = rw (h o, h (o - 1)) refl

before_is : (f : ℕ → Bool) (o : ℕ) → 0 < o → before f o ≡ f (o - 1)
before_is f o l = rw (ne_eqb o 0 (λ e. omega arith)) refl

both_true : (x y : Bool) → ((x || y) && true) ≡ ((x && true) || (y && true))
both_true true y = refl
both_true false y = refl

both_false : (x y : Bool) → ((x || false) && not (y || false)) ≡ ((x && not y) || false)
both_false true true = refl
both_false true false = refl
both_false false y = refl

-- a test that is one below `m` and another from `k` on, with an offset between them
edge_split : (f g h : ℕ → Bool) (m k o : ℕ) → m < k → ((i : ℕ) → f i ≡ (g i || h i)) → ((i : ℕ) → m ≤ i → g i ≡ false) → ((i : ℕ) → i < k → h i ≡ false) → edge f o ≡ (edge g o || edge h o)
edge_split f g h m k o l sum above below = go (cases_eq o 0) (cases_lt o m) (cases_lt o k)
  where
    go : (o ≡ 0) ⊎ (o ≡ 0 → ⊥) → (o < m) ⊎ (m ≤ o) → (o < k) ⊎ (k ≤ o) → edge f o ≡ (edge g o || edge h o)
    go (inl e) s t = rw (eq-eqb o 0 e, sum o) (both_true (g o) (h o))
    go (inr n) (inl s) t =
        let h1 = below o (omega arith) in
        let h2 = below (o - 1) (omega arith) in
        rw (ne_eqb o 0 n, sum o, sum (o - 1), h1, h2) (both_false (g o) (g (o - 1)))
    go (inr n) (inr s) (inl t) =
        let g1 = above o s in
        let h1 = below o t in
        rw (sum o, g1, h1) refl
    go (inr n) (inr s) (inr t) =
        let g1 = above o s in
        let g2 = above (o - 1) (omega arith) in
        rw (ne_eqb o 0 n, sum o, sum (o - 1), g1, g2) refl

-- ---- bytes that come
abbrev comes : ℕ → List ℕ → ℕ → Bool
comes at bs o = is_some (byte_from at bs o)

no_bytes : (at o : ℕ) → comes at [] o ≡ false
no_bytes at o = go (cases_lt o at)
  where
    go : (o < at) ⊎ (at ≤ o) → comes at [] o ≡ false
    go (inl l) = ap is_some (from_below at [] o l)
    go (inr l) = ap is_some (from_behind at [] o (omega arith))

comes_edge : (at : ℕ) (bs : List ℕ) (o : ℕ) → 0 < length bs → edge (comes at bs) o ≡ (at == o)
comes_edge at bs o full = go (cases_order o at)
  where
    none : (o ≡ 0) ⊎ (o ≡ 0 → ⊥) → o ≤ at → before (comes at bs) o ≡ false
    none (inl e) l = rw (eq-eqb o 0 e) refl
    none (inr n) l = before_is (comes at bs) o (omega arith) ∙ ap is_some (from_below at bs (o - 1) (omega arith))

    past : (o < at + length bs) ⊎ (at + length bs ≤ o) → at < o → edge (comes at bs) o ≡ false
    past (inl m) l =
        let held : comes at bs (o - 1) ≡ true = ap is_some (from_within at bs (o - 1) (omega arith) (omega arith)) in
        edge_of (comes at bs) o (comes at bs o) true refl (before_is (comes at bs) o (omega arith) ∙ held) ∙ and_right (comes at bs o) false refl
    past (inr m) l = edge_of (comes at bs) o false (before (comes at bs) o) (ap is_some (from_behind at bs o m)) refl

    go : (o ≡ at) ⊎ ((o < at) ⊎ (at < o)) → edge (comes at bs) o ≡ (at == o)
    go (inl e) = edge_of (comes at bs) o true false (ap is_some (from_within at bs o (omega arith) (omega arith))) (none (cases_eq o 0) (omega arith)) ∙ sym (eq-eqb at o (sym e))
    go (inr (inl l)) = edge_of (comes at bs) o false (before (comes at bs) o) (ap is_some (from_below at bs o l)) refl ∙ sym (ne_eqb at o (λ e. omega arith))
    go (inr (inr l)) = past (cases_lt o (at + length bs)) l ∙ sym (ne_eqb at o (λ e. omega arith))

part_begins : (at : ℕ) (bs : List ℕ) (ps : List Part) (o : ℕ) → begins_part (with_part at bs ps) o ≡ (edge (comes at bs) o || begins_part ps o)
part_begins at [] ps o = sym (ap (λ b. b || begins_part ps o) (edge_of (comes at []) o false (before (comes at []) o) (no_bytes at o) refl))
part_begins at (b ∷ bs) ps o =
    let s : at + length (b ∷ bs) - length (b ∷ bs) ≡ at = omega arith in
    ap (λ n. (n == o) || begins_part ps o) s ∙ ap (λ x. x || begins_part ps o) (sym (comes_edge at (b ∷ bs) o (omega arith)))

-- ---- in the gaps between parts
abbrev fresh : List Part → ℕ → List ℕ → ℕ → Bool
fresh ps at bs o = comes at bs o && not (waits ps o)

front_fresh : (low at : ℕ) (p : Part) (ps : List Part) (bs : List ℕ) (i : ℕ) → AreApart low (p ∷ ps) → fresh (p ∷ ps) at bs i ≡ (comes at (take (start p - at) bs) i || fresh ps (max at p.0) (drop (p.0 - at) bs) i)
front_fresh low at p ps bs i h = go (cases_lt i (start p)) (cases_lt i p.0)
  where
    go : (i < start p) ⊎ (start p ≤ i) → (i < p.0) ⊎ (p.0 ≤ i) → fresh (p ∷ ps) at bs i ≡ (comes at (take (start p - at) bs) i || fresh ps (max at p.0) (drop (p.0 - at) bs) i)
    go (inl l) t =
        let w : waits (p ∷ ps) i ≡ false = runs.in_below low p ps i h l in
        let e1 : comes at (take (start p - at) bs) i ≡ comes at bs i = ap is_some (from_front at (start p) bs i l) in
        let e2 : comes (max at p.0) (drop (p.0 - at) bs) i ≡ false = ap is_some (from_below (max at p.0) (drop (p.0 - at) bs) i (omega arith)) in
        ap (λ b. comes at bs i && not b) w ∙ and_true (comes at bs i) ∙ sym (or_false (comes at bs i)) ∙ sym (ap (λ b. b || fresh ps (max at p.0) (drop (p.0 - at) bs) i) e1 ∙ ap (λ b. comes at bs i || (b && not (waits ps i))) e2)
    go (inr l) (inl m) =
        let w : waits (p ∷ ps) i ≡ true = in_part low p ps i h l m in
        let e1 : comes at (take (start p - at) bs) i ≡ false = ap is_some (from_front_behind at (start p) bs i l) in
        let e2 : comes (max at p.0) (drop (p.0 - at) bs) i ≡ false = ap is_some (from_below (max at p.0) (drop (p.0 - at) bs) i (omega arith)) in
        ap (λ b. comes at bs i && not b) w ∙ and_right (comes at bs i) false refl ∙ sym (ap (λ b. b || fresh ps (max at p.0) (drop (p.0 - at) bs) i) e1 ∙ ap (λ b. b && not (waits ps i)) e2)
    go (inr l) (inr m) =
        let w : waits (p ∷ ps) i ≡ waits ps i = in_past low p ps i h m in
        let e1 : comes at (take (start p - at) bs) i ≡ false = ap is_some (from_front_behind at (start p) bs i l) in
        let e2 : comes (max at p.0) (drop (p.0 - at) bs) i ≡ comes at bs i = ap is_some (from_back at p.0 bs i m) in
        ap (λ b. comes at bs i && not b) w ∙ sym (ap (λ b. b || fresh ps (max at p.0) (drop (p.0 - at) bs) i) e1 ∙ ap (λ b. b && not (waits ps i)) e2)

or_order : (s b e1 e2 : Bool) → (e1 || (s || (b || e2))) ≡ ((s || b) || (e1 || e2))
or_order s b false e2 = sym (or_assoc s b e2)
or_order true b true e2 = refl
or_order false true true e2 = refl
or_order false false true e2 = refl

gaps_begin : (low : ℕ) (ps : List Part) (at : ℕ) (bs : List ℕ) (o : ℕ) → AreApart low ps → begins_part (with_gaps ps at bs) o ≡ (begins_part ps o || edge (fresh ps at bs) o)
gaps_begin low [] at bs o h =
    part_begins at bs [] o ∙ or_false (edge (comes at bs) o) ∙ edge_same (comes at bs) (fresh [] at bs) o (λ i. sym (and_true (comes at bs i)))
gaps_begin low (p ∷ ps) at bs o h =
    let big = h.0 in
    let full = h.1 in
    let front = take (start p - at) bs in
    let back = drop (p.0 - at) bs in
    let split = edge_split (fresh (p ∷ ps) at bs) (comes at front) (fresh ps (max at p.0) back) (start p) p.0 o (omega arith)
    (λ i. front_fresh low at p ps bs i h)
    (λ i l. ap is_some (from_front_behind at (start p) bs i l))
    (λ i l. ap (λ x. is_some x && not (waits ps i)) (from_below (max at p.0) back i (omega arith))) in
    part_begins at front (p ∷ with_gaps ps (max at p.0) back) o
    ∙ ap (λ b. edge (comes at front) o || ((start p == o) || b)) (gaps_begin p.0 ps (max at p.0) back o h.2)
    ∙ or_order (start p == o) (begins_part ps o) (edge (comes at front) o) (edge (fresh ps (max at p.0) back) o)
    ∙ ap (λ b. ((start p == o) || begins_part ps o) || b) (sym split)

-- ---- beside what was given
abbrev fresh_free : List Span → List Part → ℕ → List ℕ → ℕ → Bool
fresh_free gs ps at bs o = comes at bs o && not (in_spans gs o || waits ps o)

beside_span : (low at below : ℕ) (g : Span) (gs : List Span) (ps : List Part) (bs : List ℕ) (i : ℕ) → AreSpans below (g ∷ gs) → AreApart low ps
    → fresh_free (g ∷ gs) ps at bs i ≡ (fresh ps at (take (g.1 - at) bs) i || fresh_free gs (with_gaps ps at (take (g.1 - at) bs)) (max at g.0) (drop (g.0 - at) bs) i)
beside_span low at below g gs ps bs i s h = go (cases_lt i g.1) (cases_lt i g.0) s.1
  where
    go : (i < g.1) ⊎ (g.1 ≤ i) → (i < g.0) ⊎ (g.0 ≤ i) → g.1 < g.0
        → fresh_free (g ∷ gs) ps at bs i ≡ (fresh ps at (take (g.1 - at) bs) i || fresh_free gs (with_gaps ps at (take (g.1 - at) bs)) (max at g.0) (drop (g.0 - at) bs) i)
    go (inl l) t full =
        let t1 = lt-ltb i g.1 l in
        let e0 = in_below (g.0 + 1) i gs s.2 (omega arith) in
        let e1 = from_front at g.1 bs i l in
        let e2 = from_below (max at g.0) (drop (g.0 - at) bs) i (omega arith) in
        rw (t1, e0, e1, e2) (sym (or_false (comes at bs i && not (waits ps i))))
    go (inr l) (inl m) full =
        let t1 = le-ltb i g.1 l in
        let t2 = lt-ltb i g.0 m in
        let e1 = from_front_behind at g.1 bs i l in
        let e2 = from_below (max at g.0) (drop (g.0 - at) bs) i (omega arith) in
        rw (t1, t2, e1, e2) (and_right (comes at bs i) false refl)
    go (inr l) (inr m) full =
        let t1 = le-ltb i g.1 l in
        let t2 = le-ltb i g.0 m in
        let e1 = from_front_behind at g.1 bs i l in
        let e2 = from_back at g.0 bs i m in
        let e3 = at_gaps low ps at (take (g.1 - at) bs) i h in
        rw (t1, t2, e3, e1, e2, or_none (byte_at ps i)) refl

free_begin : (low at below o : ℕ) (gs : List Span) (ps : List Part) (bs : List ℕ) → AreSpans below gs → AreApart low ps → low ≤ at → (0 < length bs → at + length bs < 2 ^ 62) → begins_part (with_free gs ps at bs) o ≡ (begins_part ps o || edge (fresh_free gs ps at bs) o)
free_begin low at below o [] ps bs s h m small = gaps_begin low ps at bs o h
free_begin low at below o (g ∷ gs) ps bs s h m small =
    let full = s.1 in
    let front = take (g.1 - at) bs in
    let back = drop (g.0 - at) bs in
    let t = length-take (g.1 - at) bs in
    let d = length-drop (g.0 - at) bs in
    let apart = gaps_apart low at ps front h m (λ l. let k = small (omega arith) in omega arith) in
    let split = edge_split (fresh_free (g ∷ gs) ps at bs) (fresh ps at front) (fresh_free gs (with_gaps ps at front) (max at g.0) back) g.1 g.0 o full
    (λ i. beside_span low at below g gs ps bs i s h)
    (λ i l. ap (λ x. is_some x && not (waits ps i)) (from_front_behind at g.1 bs i l))
    (λ i l. ap (λ x. is_some x && not (in_spans gs i || waits (with_gaps ps at front) i)) (from_below (max at g.0) back i (omega arith))) in
    free_begin low (max at g.0) (g.0 + 1) o gs (with_gaps ps at front) back s.2 apart (omega arith) (λ l. let k = small (omega arith) in omega arith)
    ∙ ap (λ b. b || edge (fresh_free gs (with_gaps ps at front) (max at g.0) back) o) (gaps_begin low ps at front o h)
    ∙ or_assoc (begins_part ps o) (edge (fresh ps at front) o) (edge (fresh_free gs (with_gaps ps at front) (max at g.0) back) o)
    ∙ ap (λ b. begins_part ps o || b) (sym split)

-- ---- as they came, with what was given before
same_new : (a : Arrived) (at : ℕ) (bytes : List ℕ) (i : ℕ) → fresh_free a.picked a.parts (max a.read at) (drop (a.read - at) bytes) i ≡ is_new a at bytes i
same_new a at bytes i = go (cases_lt i a.read)
  where
    go : (i < a.read) ⊎ (a.read ≤ i) → fresh_free a.picked a.parts (max a.read at) (drop (a.read - at) bytes) i ≡ is_new a at bytes i
    go (inl l) =
        let t = lt-ltb i a.read l in
        let e = from_below (max a.read at) (drop (a.read - at) bytes) i (omega arith) in
        rw (t, e) (sym (and_right (comes at bytes i) false refl))
    go (inr l) =
        let t = le-ltb i a.read l in
        let m : max a.read at ≡ max at a.read = omega arith in
        let e = from_back at a.read bytes i l in
        rw (t, m, e) refl

pub insert_begins : (a : Arrived) (at : ℕ) (bytes : List ℕ) (o : ℕ) → IsLawful a → at + length bytes < 2 ^ 62 → begins_part (with_free a.picked a.parts (max a.read at) (drop (a.read - at) bytes)) o ≡ begins_then a at bytes o
insert_begins a at bytes o h s =
    let d = length-drop (a.read - at) bytes in
    free_begin a.read (max a.read at) a.read o a.picked a.parts (drop (a.read - at) bytes) h.spans h.apart (omega arith) (λ l. omega arith)
    ∙ ap (λ b. begins_part a.parts o || b) (edge_same (fresh_free a.picked a.parts (max a.read at) (drop (a.read - at) bytes)) (is_new a at bytes) o (λ i. same_new a at bytes i))
