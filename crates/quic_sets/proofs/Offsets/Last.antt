-- A run more behind all others, or the last one goes on.
use Rattle.std.proofs.Common.{◌≡◌, ℕ, suc, ◌-◌, ◌^◌, ◌<◌, ◌≤◌, ◌==◌, List, [], ◌∷◌, ◌++◌, length, append-nil, Bool, true, false, ◌&&◌, ◌||◌, Some, refl, sym, ap, ◌∙◌, subst, arith, ◌⊎◌, inl, inr}
use Rattle.std.specs.List.{slice_get}
use Rattle.std.specs.Ordering.{nat_cmp}
use Rattle.std.specs.Cmp.{nat_cmp_is}
use Rattle.std.specs.declared.cmp.Ordering.TheVariants.{Greater}
use Rattle.std.specs.Map.{remove_entry}
use Rattle.std.specs.BTreeMap.{insert_entry, is_at}
use Rattle.std.proofs.lemmas.Bool.{ne_eqb, eqb-true, or_parts}
use Rattle.quic_sets.specs.Spans.{Span, ends_of, in_span, in_spans}
use Rattle.quic_sets.specs.Loose.{LieWithin, greatest, AreLoose, AreMaximal, last_span, touches}
use Rattle.quic_sets.proofs.Parts.First.{not_at}
use Rattle.quic_sets.proofs.Offsets.Spans.{join}
use Rattle.quic_sets.proofs.Offsets.Loose.{lie_on, lie_up, spans_on, put_at, take_at, out_above}

-- ---- the last run
pub last_is : (l g : Span) (es : List Span) → slice_get es (length es - 1) ≡ Some g → last_span l es ≡ g
last_is l g [] e = cc
last_is l g (x ∷ []) e = let same : x ≡ g = cc in same
last_is l g (x ∷ y ∷ ys) e =
    let at : length (x ∷ y ∷ ys) - 1 ≡ suc (length (y ∷ ys) - 1) = omega arith in
    let rest : slice_get (x ∷ y ∷ ys) (suc (length (y ∷ ys) - 1)) ≡ Some g = subst (λ n. slice_get (x ∷ y ∷ ys) n ≡ Some g) at e in
    last_is x g (y ∷ ys) rest

-- the runs end where the last one does
pub lie_last : (high : ℕ) (l : Span) (es : List Span) → LieWithin l.0 es high → LieWithin l.0 es (last_span l es).0
lie_last high l [] h = omega arith
lie_last high l (x ∷ es) h = (h.0, h.1, lie_last high x es h.2)

pub last_out : (start : ℕ) (es : List Span) → AreLoose es → (last_span (0, 0) es).0 ≤ start → in_spans es start ≡ false
last_out start es h l = out_above 0 (last_span (0, 0) es).0 start es (lie_last greatest (0, 0) es h) l

-- what a range more leaves
pub record Longer (start end : ℕ) (es ns : List Span) : Type 0 where
  pub maximal : AreMaximal ns
  pub has : (o : ℕ) → in_spans ns o ≡ (in_spans es o || in_span o (end, start))

or_false : (b : Bool) → (b || false) ≡ b
or_false true = refl
or_false false = refl

no_more : (b : Bool) → ((b && false) || false) ≡ false
no_more true = refl
no_more false = refl

-- ---- one follows
follow_apart : (low mid o : ℕ) (n : Span) (es : List Span) → LieWithin low es mid → mid < n.1 → touches o es ≡ false → touches o (es ++ n ∷ []) ≡ false
follow_apart low mid o n [] h l t = no_more (n.0 == o)
follow_apart low mid o n (x ∷ []) h l t = rw (no_more (n.0 == o)) (go (x.0 == o) refl)
  where
    go : (b : Bool) → (x.0 == o) ≡ b → ((b && n.1 == o) || false) ≡ false
    go true q =
        let up : x.0 ≤ mid = h.2 in
        let same = eqb-true x.0 o q in
        let other = ne_eqb n.1 o (λ e. omega (arith, e, up, same, l)) in
        rw other refl
    go false q = refl
follow_apart low mid o n (x ∷ y ∷ ys) h l t =
    let p = or_parts (x.0 == o && y.1 == o) (touches o (y ∷ ys)) t in
    let rest = follow_apart x.0 mid o n (y ∷ ys) h.2 l p.1 in
    rw (p.0, rest) refl

pub follows : (start end : ℕ) (es ns : List Span) → AreMaximal es → (last_span (0, 0) es).0 < start → start < end → end < 2 ^ 62 → ns ≡ insert_entry nat_cmp es end start → Longer start end es ns
follows start end es ns m l k s is =
    let last = (last_span (0, 0) es).0 in
    let left = lie_last greatest (0, 0) es m.loose in
    let put : insert_entry nat_cmp es end start ≡ es ++ (end, start) ∷ [] = ap (λ (gs : List Span). insert_entry nat_cmp gs end start) (sym (append-nil es)) ∙ put_at 0 last end start es [] left (omega arith) tt in
    subst (λ (gs : List Span). Longer start end es gs) (sym (is ∙ put)) (record {
      maximal = record {
        loose = lie_on 0 last greatest es ((end, start) ∷ []) left (omega arith, k, omega arith);
        apart = λ o. follow_apart 0 last o (end, start) es left l (m.apart o);
      };
      has = λ o. spans_on o es ((end, start) ∷ []) ∙ ap (λ b. in_spans es o || b) (or_false (in_span o (end, start)));
    })

-- ---- the last one goes on
-- runs in two
lie_parts : (low high : ℕ) (xs ys : List Span) → LieWithin low (xs ++ ys) high → (mid : ℕ) × LieWithin low xs mid × LieWithin mid ys high
lie_parts low high [] ys h = (low, omega arith, h)
lie_parts low high (x ∷ xs) ys h = let p = lie_parts x.0 high xs ys h.2 in (p.0, (h.0, h.1, p.1), p.2)

ends_with : (l : Span) (es : List Span) → ((es ≡ []) × (last_span l es ≡ l)) ⊎ ((xs : List Span) × (es ≡ xs ++ last_span l es ∷ []))
ends_with l [] = inl (refl, refl)
ends_with l (x ∷ es) = elim (ends_with x es) [
  | inl p ↦ inr ([], rw (p.1, p.0) refl)
  | inr p ↦ inr (x ∷ p.0, ap (λ (gs : List Span). x ∷ gs) p.1)
]

grown_touch : (o a b f : ℕ) (xs : List Span) → touches o (xs ++ (a, f) ∷ []) ≡ touches o (xs ++ (b, f) ∷ [])
grown_touch o a b f [] = no_more (a == o) ∙ sym (no_more (b == o))
grown_touch o a b f (x ∷ []) = ap (λ t. (x.0 == o && f == o) || t) (grown_touch o a b f [])
grown_touch o a b f (x ∷ y ∷ ys) = ap (λ t. (x.0 == o && y.1 == o) || t) (grown_touch o a b f (y ∷ ys))

put_behind : (low mid k v : ℕ) (g : Span) (xs : List Span) → LieWithin low xs mid → mid < k → g.0 < k → insert_entry nat_cmp (xs ++ g ∷ []) k v ≡ xs ++ g ∷ (k, v) ∷ []
put_behind low mid k v g [] h l m = let c : nat_cmp k g.0 ≡ Greater = sym (nat_cmp_is k g.0 Greater m) in rw c refl
put_behind low mid k v g (x ∷ xs) h l m =
    let up = lie_up x.0 mid xs h.2 in
    let c : nat_cmp k x.0 ≡ Greater = sym (nat_cmp_is k x.0 Greater (omega arith)) in
    rw c (ap (λ (es : List Span). x ∷ es) (put_behind x.0 mid k v g xs h.2 l m))

-- the set with the last run longer
grown : ℕ → ℕ → ℕ → List Span → List Span
grown start end first es = remove_entry (is_at (nat_cmp start)) (insert_entry nat_cmp es end first)

swap : (x y z : Bool) → (x || (y || (z || false))) ≡ ((x || (y || false)) || z)
swap true y z = refl
swap false true z = refl
swap false false true = refl
swap false false false = refl

grow_parts : (start end first : ℕ) (xs : List Span) → AreMaximal (xs ++ (start, first) ∷ []) → start < end → end < 2 ^ 62 → Longer start end (xs ++ (start, first) ∷ []) (grown start end first (xs ++ (start, first) ∷ []))
unfolding grown
grow_parts start end first xs m k s =
    let p = lie_parts 0 greatest xs ((start, first) ∷ []) m.loose in
    let low : p.0 ≤ first = p.2.0 in
    let full : first < start = p.2.1 in
    let new : grown start end first (xs ++ (start, first) ∷ []) ≡ xs ++ (end, first) ∷ [] =
    ap (remove_entry (is_at (nat_cmp start))) (put_behind 0 p.0 end first (start, first) xs p.1 (omega (arith, low, full, k)) k) ∙ take_at 0 p.0 start first xs ((end, first) ∷ []) p.1 (omega (arith, low, full)) in
    subst (λ (gs : List Span). Longer start end (xs ++ (start, first) ∷ []) gs) (sym new) (record {
      maximal = record {
        loose = lie_on 0 p.0 greatest xs ((end, first) ∷ []) p.1 (low, omega (arith, full, k), omega arith);
        apart = λ o. grown_touch o end start first xs ∙ m.apart o;
      };
      has = λ o. spans_on o xs ((end, first) ∷ []) ∙ ap (λ b. in_spans xs o || b) (join o first start end false (omega (arith, full)) (omega (arith, k)))
          ∙ swap (in_spans xs o) (in_span o (start, first)) (in_span o (end, start)) ∙ ap (λ b. b || in_span o (end, start)) (sym (spans_on o xs ((start, first) ∷ [])));
    })

grow_last : (start end first : ℕ) (es : List Span) → AreMaximal es → last_span (0, 0) es ≡ (start, first) → start < end → end < 2 ^ 62 → Longer start end es (grown start end first es)
unfolding grown
grow_last start end first es m e k s = elim (ends_with (0, 0) es) [
  | inl p ↦ (
      let f : first ≡ 0 = ap (λ (g : Span). g.1) (sym e ∙ p.1) in
      let a : start ≡ 0 = ap (λ (g : Span). g.0) (sym e ∙ p.1) in
      let other : is_at (nat_cmp start) end ≡ false = not_at start end (λ z. omega (arith, z, k)) in
      let new : grown start end first [] ≡ (end, first) ∷ [] = rw other refl in
      subst (λ (gs : List Span). Longer start end gs (grown start end first gs)) (sym p.0) (subst (λ (gs : List Span). Longer start end [] gs) (sym new) (record {
        maximal = record {
          loose = (omega arith, omega (arith, f, k), omega arith);
          apart = λ o. no_more (end == o);
        };
        has = λ o. ap (λ n. in_span o (end, n) || false) (f ∙ sym a) ∙ or_false (in_span o (end, start));
      }))
      )
  | inr p ↦ (
      let same : es ≡ p.0 ++ (start, first) ∷ [] = p.1 ∙ ap (λ (x : Span). p.0 ++ x ∷ []) e in
      let more = grow_parts start end first p.0 (subst AreMaximal same m) k s in
      subst (λ (gs : List Span). Longer start end gs (grown start end first gs)) (sym same) more
      )
]

pub grows : (start end first last : ℕ) (es ks ns : List Span) → AreMaximal es → (first, last) ≡ ends_of (last_span (0, 0) es) → last ≤ start → start ≤ last → start < end → end < 2 ^ 62 → ks ≡ insert_entry nat_cmp es end first → ns ≡ remove_entry (is_at (nat_cmp start)) ks → Longer start end es ns
unfolding grown
grows start end first last es ks ns m e le ge k s put is =
    let same : last ≡ start = omega (arith, le, ge) in
    let g : last_span (0, 0) es ≡ (start, first) = ap (λ (q : ℕ × ℕ). (q.1, q.0)) (sym e) ∙ ap (λ (n : ℕ). (n, first)) same in
    let new : ns ≡ grown start end first es = is ∙ ap (λ (gs : List Span). remove_entry (is_at (nat_cmp start)) gs) put in
    subst (λ (gs : List Span). Longer start end es gs) (sym new) (grow_last start end first es m g k s)
