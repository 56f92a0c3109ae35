-- Steps on runs that may touch: one is put in, cut in two, taken out, or joined with the next.
use Rattle.std.proofs.Common.{◌≡◌, ℕ, ◌+◌, ◌^◌, ◌<◌, ◌≤◌, ◌==◌, ltb, List, [], ◌∷◌, ◌++◌, length, length-append, Bool, true, false, not, ◌&&◌, ◌||◌, cond, Some, None, Option, refl, sym, ap, ◌∙◌, subst, arith, ◌⊎◌, inl, inr}
use Rattle.std.specs.Ordering.{nat_cmp, match_ordering}
use Rattle.std.specs.declared.cmp.Ordering.{Ordering}
use Rattle.std.specs.declared.cmp.Ordering.TheVariants.{Less, Equal, Greater}
use Rattle.std.specs.Cmp.{unsigned_tied}
use Rattle.std.specs.Option.{unwrap_or, option_map}
use Rattle.std.specs.Map.{lookup, remove_entry, set_value}
use Rattle.std.specs.BTreeMap.{insert_entry, is_at}
use Rattle.std.proofs.lemmas.Bool.{ltb-true, ltb-false, lt-ltb, le-ltb, eqb-true, ne_eqb, or_cases, or_left, or_right, and_parts, and_from, both_ways, cases_lt, cases_order, not-true, not-false}
use Rattle.quic_sets.specs.Spans.{Span, in_span, in_spans, next_span, is_spanned, spanned_at, free_at, first_from, end_from}
use Rattle.quic_sets.specs.Loose.{LieWithin, greatest, AreLoose, IsCut, begins_first, touches, TouchWithin, FitsRun}
use Rattle.quic_sets.proofs.Parts.First.{not_at, at_itself}
use Rattle.quic_sets.proofs.Offsets.Spans.{next_past, join}
use Rattle.quic_sets.proofs.Offsets.Loose.{lie_on, lie_up, spans_on, EndsPast, first_span, split_at, put_at, take_at, set_at, none_behind, none_at, out_above, out_below, span_is, span_from}

-- ---- what a look says
or_false : (b : Bool) → (b || false) ≡ b
or_false true = refl
or_false false = refl

pub and_true : (b : Bool) → (b && true) ≡ b
and_true true = refl
and_true false = refl

pub and_false : (b : Bool) → (b && false) ≡ false
and_false true = refl
and_false false = refl

same_as : (at len n mid o : ℕ) (xs ys : List Span) (held : Bool) → LieWithin 0 xs mid → mid ≤ at → LieWithin mid ys greatest → EndsPast at ys → held ≡ is_spanned at (first_span ys) → n ≡ cond held (spanned_at at len (first_span ys)) (free_at at len (first_span ys)) → at ≤ o → o < at + n → in_spans (xs ++ ys) o ≡ held
same_as at len n mid o xs [] true h u r p b e l m = cc
same_as at len n mid o xs [] false h u r p b e l m = spans_on o xs [] ∙ or_false (in_spans xs o) ∙ out_above 0 mid o xs h (omega arith)
same_as at len n mid o xs (g ∷ gs) true h u r p b e l m =
    let k = ltb-false at g.1 (not-true (ltb at g.1) (sym b)) in
    let yes = span_from o g (omega arith) (omega arith) in
    let none = out_above 0 mid o xs h (omega arith) in
    spans_on o xs (g ∷ gs) ∙ rw (none, yes) refl
same_as at len n mid o xs (g ∷ gs) false h u r p b e l m =
    let k = ltb-true at g.1 (not-false (ltb at g.1) (sym b)) in
    let none = out_above 0 mid o xs h (omega arith) in
    let some = r.1 in
    spans_on o xs (g ∷ gs) ∙ rw none (out_below g.1 greatest o (g ∷ gs) (omega arith, r.1, r.2) (omega arith))

pub look_as : (at len n o : ℕ) (es : List Span) (held : Bool) → AreLoose es → held ≡ is_spanned at (next_span at es) → n ≡ cond held (spanned_at at len (next_span at es)) (free_at at len (next_span at es)) → at ≤ o → o < at + n → in_spans es o ≡ held
look_as at len n o es held h b e l m =
    let s = split_at 0 at greatest es h (omega arith) in
    ap (λ (gs : List Span). in_spans gs o) s.same ∙ same_as at len n s.mid o s.xs s.ys held s.left s.up s.right s.past (b ∙ ap (is_spanned at) s.next) (e ∙ ap (λ (x : Option Span). cond held (spanned_at at len x) (free_at at len x)) s.next) l m

-- the next run begins at an offset or behind it
abbrev pub BeginsPast : ℕ → Option Span → Type 0
BeginsPast end None = Unit {0}
BeginsPast end (Some g) = end ≤ g.1

-- ---- a run is put into a gap
swap : (x y z : Bool) → (x || (y || z)) ≡ ((x || z) || y)
swap true y z = refl
swap false true true = refl
swap false true false = refl
swap false false true = refl
swap false false false = refl

-- the runs behind begin no sooner than the new one ends
abbrev BeginPast : ℕ → List Span → Type 0
BeginPast end [] = Unit {0}
BeginPast end (g ∷ gs) = end ≤ g.1

put_between : (at n mid : ℕ) (xs ys : List Span) → LieWithin 0 xs mid → mid ≤ at → LieWithin mid ys greatest → BeginPast (at + n) ys → 0 < n → at + n < 2 ^ 62 → FitsRun at (at + n) (xs ++ ys)
put_between at n mid xs ys h u r b l s =
    let put = put_at 0 mid (at + n) at xs ys h (omega arith) (past ys r b) in
    record {
      loose = rw put (lie_on 0 mid greatest xs ((at + n, at) ∷ ys) h (omega arith, omega arith, rest ys r b));
      has = λ o. rw put (spans_on o xs ((at + n, at) ∷ ys) ∙ swap (in_spans xs o) (in_span o (at + n, at)) (in_spans ys o) ∙ sym (ap (λ x. x || in_span o (at + n, at)) (spans_on o xs ys)));
      absent = none_at 0 mid greatest (at + n) xs ys h (omega arith) r (past ys r b);
    }
  where
    past : (zs : List Span) → LieWithin mid zs greatest → BeginPast (at + n) zs → EndsPast (at + n) zs
    past [] r b = tt
    past (z ∷ zs) r b = let a = r.1 in omega (arith, b)

    rest : (zs : List Span) → LieWithin mid zs greatest → BeginPast (at + n) zs → LieWithin (at + n) zs greatest
    rest [] r b = omega arith
    rest (z ∷ zs) r b = (b, r.1, r.2)

pub put_free : (at len n : ℕ) (es : List Span) → AreLoose es → false ≡ is_spanned at (next_span at es) → n ≡ free_at at len (next_span at es) → 0 < n → n ≤ len → at + len < 2 ^ 62 → FitsRun at (at + n) es
put_free at len n es h b e l w m =
    let s = split_at 0 at greatest es h (omega arith) in
    subst (λ (gs : List Span). FitsRun at (at + n) gs) (sym s.same) (put_between at n s.mid s.xs s.ys s.left s.up s.right (begin s.ys (b ∙ ap (is_spanned at) s.next) (e ∙ ap (free_at at len) s.next)) l (omega arith))
  where
    begin : (ys : List Span) → false ≡ is_spanned at (first_span ys) → n ≡ free_at at len (first_span ys) → BeginPast (at + n) ys
    begin [] b e = tt
    begin (g ∷ gs) b e = let k = ltb-true at g.1 (not-false (ltb at g.1) (sym b)) in omega arith

-- ---- a run is cut in two
pub record Cut (at : ℕ) (g : Span) (es : List Span) : Type 0 where
  pub loose : AreLoose (set_value (is_at (nat_cmp g.0)) (insert_entry nat_cmp es at g.1) at)
  pub has : (o : ℕ) → in_spans (set_value (is_at (nat_cmp g.0)) (insert_entry nat_cmp es at g.1) at) o ≡ in_spans es o
  pub cut : IsCut at (next_span at (set_value (is_at (nat_cmp g.0)) (insert_entry nat_cmp es at g.1) at))
  pub touch : TouchWithin es (set_value (is_at (nat_cmp g.0)) (insert_entry nat_cmp es at g.1) at) at at

set_on : (low mid k w : ℕ) (xs zs : List Span) → LieWithin low xs mid → mid < k → set_value (is_at (nat_cmp k)) (xs ++ zs) w ≡ xs ++ set_value (is_at (nat_cmp k)) zs w
set_on low mid k w [] zs h l = refl
set_on low mid k w (x ∷ xs) zs h l =
    let up = lie_up x.0 mid xs h.2 in
    let other : is_at (nat_cmp k) x.0 ≡ false = not_at k x.0 (λ e. omega arith) in
    rw other (ap (λ (es : List Span). x ∷ es) (set_on x.0 mid k w xs zs h.2 l))

next_on : (low mid at : ℕ) (xs zs : List Span) → LieWithin low xs mid → mid ≤ at → next_span at (xs ++ zs) ≡ next_span at zs
next_on low mid at [] zs h l = refl
next_on low mid at (x ∷ xs) zs h l =
    let up = lie_up x.0 mid xs h.2 in
    let t = le-ltb at x.0 (omega arith) in
    rw t (next_on x.0 mid at xs zs h.2 l)

cut_between : (at mid : ℕ) (xs gs : List Span) (g : Span) → LieWithin 0 xs mid → LieWithin mid (g ∷ gs) greatest → at < g.0 → g.1 < at → Cut at g (xs ++ g ∷ gs)
cut_between at mid xs gs g h r p l =
    let a = r.0 in
    let put = put_at 0 mid at g.1 xs (g ∷ gs) h (omega arith) p in
    let other : is_at (nat_cmp g.0) at ≡ false = not_at g.0 at (λ e. omega arith) in
    let own = at_itself g.0 in
    let two : List Span = (at, g.1) ∷ (g.0, at) ∷ gs in
    let new : set_value (is_at (nat_cmp g.0)) (insert_entry nat_cmp (xs ++ g ∷ gs) at g.1) at ≡ xs ++ two = rw put (set_on 0 mid g.0 at xs ((at, g.1) ∷ g ∷ gs) h (omega arith) ∙ rw (other, own) refl) in
    let stop = le-ltb at at (omega arith) in
    let here = lt-ltb at g.0 p in
    let next : next_span at (xs ++ two) ≡ Some (g.0, at) = next_on 0 mid at xs two h (omega arith) ∙ rw (stop, here) refl in
    record {
      loose = rw new (lie_on 0 mid greatest xs two h (r.0, l, (omega arith, p, r.2)));
      has = λ o. rw new (spans_on o xs two ∙ ap (λ b. in_spans xs o || b) (sym (join o g.1 at g.0 (in_spans gs o) (omega arith) (omega arith))) ∙ sym (spans_on o xs (g ∷ gs)));
      cut = rw (new, next) (omega arith);
      touch = λ o t. touch o xs (subst (λ (gs : List Span). touches o gs ≡ true) new t);
    }
  where
    begins : (o : ℕ) (zs : List Span) → begins_first o (zs ++ (at, g.1) ∷ (g.0, at) ∷ gs) ≡ begins_first o (zs ++ g ∷ gs)
    begins o [] = refl
    begins o (z ∷ zs) = refl

    touch : (o : ℕ) (zs : List Span) → touches o (zs ++ (at, g.1) ∷ (g.0, at) ∷ gs) ≡ true → (touches o (zs ++ g ∷ gs) ≡ true) ⊎ ((at ≤ o) × (o ≤ at))
    touch o [] t = elim (or_cases (at == o && at == o) ((g.0 == o && begins_first o gs) || touches o gs) t) [
      | inl i ↦ (let same = eqb-true at o (and_parts (at == o) (at == o) i).0 in inr (omega (arith, same), omega (arith, same)))
      | inr i ↦ inl i
    ]
    touch o (z ∷ zs) t = elim (or_cases (z.0 == o && begins_first o (zs ++ (at, g.1) ∷ (g.0, at) ∷ gs)) (touches o (zs ++ (at, g.1) ∷ (g.0, at) ∷ gs)) t) [
      | inl i ↦ inl (or_left (z.0 == o && begins_first o (zs ++ g ∷ gs)) (touches o (zs ++ g ∷ gs)) (ap (λ b. z.0 == o && b) (sym (begins o zs)) ∙ i))
      | inr i ↦ elim (touch o zs i) [ inl j ↦ inl (or_right (z.0 == o && begins_first o (zs ++ g ∷ gs)) (touches o (zs ++ g ∷ gs)) j) | inr j ↦ inr j ]
    ]

some_same : (g : Span) (ys : List Span) → Some g ≡ first_span ys → (gs : List Span) × (ys ≡ g ∷ gs)
some_same g [] e = cc
some_same g (y ∷ ys) e = let same : g ≡ y = cc in (ys, ap (λ (x : Span). x ∷ ys) (sym same))

pub cut_at : (at : ℕ) (g : Span) (es : List Span) → AreLoose es → next_span at es ≡ Some g → g.1 < at → Cut at g es
cut_at at g es h e l =
    let s = split_at 0 at greatest es h (omega arith) in
    let t = some_same g s.ys (sym e ∙ s.next) in
    let right : LieWithin s.mid (g ∷ t.0) greatest = subst (λ (gs : List Span). LieWithin s.mid gs greatest) t.1 s.right in
    subst (λ (gs : List Span). Cut at g gs) (sym (s.same ∙ ap (λ (gs : List Span). s.xs ++ gs) t.1)) (cut_between at s.mid s.xs t.0 g s.left right (next_past at es g e) l)

-- ---- runs are taken out
pub record Taken (start end : ℕ) (g : Span) (es : List Span) : Type 0 where
  pub loose : AreLoose (remove_entry (is_at (nat_cmp g.0)) es)
  pub out : (o : ℕ) → in_span o (end, start) ≡ false → in_spans (remove_entry (is_at (nat_cmp g.0)) es) o ≡ in_spans es o
  pub cut : IsCut start (next_span start (remove_entry (is_at (nat_cmp g.0)) es))
  pub less : length (remove_entry (is_at (nat_cmp g.0)) es) < length es

-- a part of what is beside a range lies beside it
outside : (start end o : ℕ) (g : Span) → start ≤ g.1 → g.0 ≤ end → in_span o (end, start) ≡ false → in_span o g ≡ false
outside start end o g l m e = go (in_span o g) refl
  where
    go : (b : Bool) → in_span o g ≡ b → b ≡ false
    go true q =
        let i = span_is o g q in
        let yes = span_from o (end, start) (omega (arith, i.0, l)) (omega (arith, i.1, m)) in
        cc
    go false q = refl

taken_between : (start end mid : ℕ) (xs gs : List Span) (g : Span) → LieWithin 0 xs mid → mid ≤ start → LieWithin mid (g ∷ gs) greatest → start ≤ g.1 → g.0 ≤ end → Taken start end g (xs ++ g ∷ gs)
taken_between start end mid xs gs g h u r l m =
    let a = r.0 in
    let b = r.1 in
    let new : remove_entry (is_at (nat_cmp g.0)) (xs ++ g ∷ gs) ≡ xs ++ gs = take_at 0 mid g.0 g.1 xs gs h (omega arith) in
    record {
      loose = rw new (lie_on 0 mid greatest xs gs h (lower gs (omega arith) r.2));
      out = λ o e. rw new (spans_on o xs gs ∙ sym (spans_on o xs (g ∷ gs) ∙ ap (λ x. in_spans xs o || (x || in_spans gs o)) (outside start end o g l m e)));
      cut = rw (new, next_on 0 mid start xs gs h u) (begin gs (omega arith) r.2);
      less = let p = length-append xs gs in let q = length-append xs (g ∷ gs) in rw new (omega arith);
    }
  where
    lower : (zs : List Span) → mid ≤ g.0 → LieWithin g.0 zs greatest → LieWithin mid zs greatest
    lower [] k s = let e : g.0 ≤ greatest = s in omega arith
    lower (z ∷ zs) k s = let e = s.0 in (omega arith, s.1, s.2)

    begin : (zs : List Span) → start ≤ g.0 → LieWithin g.0 zs greatest → IsCut start (next_span start zs)
    begin [] k s = tt
    begin (z ∷ zs) k s =
        let e = s.0 in
        let f = s.1 in
        let t = lt-ltb start z.0 (omega arith) in
        rw t (omega arith)

pub taken_at : (start end : ℕ) (g : Span) (es : List Span) → AreLoose es → next_span start es ≡ Some g → start ≤ g.1 → g.0 ≤ end → Taken start end g es
taken_at start end g es h e l m =
    let s = split_at 0 start greatest es h (omega arith) in
    let t = some_same g s.ys (sym e ∙ s.next) in
    let right : LieWithin s.mid (g ∷ t.0) greatest = subst (λ (gs : List Span). LieWithin s.mid gs greatest) t.1 s.right in
    subst (λ (gs : List Span). Taken start end g gs) (sym (s.same ∙ ap (λ (gs : List Span). s.xs ++ gs) t.1)) (taken_between start end s.mid s.xs t.0 g s.left s.up right l m)

-- the front of a run
pub record Front (start end : ℕ) (g : Span) (es : List Span) : Type 0 where
  pub loose : AreLoose (set_value (is_at (nat_cmp g.0)) es end)
  pub has : (o : ℕ) → in_spans (set_value (is_at (nat_cmp g.0)) es end) o ≡ (in_spans es o && not (in_span o (end, start)))

front_between : (start end mid : ℕ) (xs gs : List Span) (g : Span) → LieWithin 0 xs mid → mid ≤ start → LieWithin mid (g ∷ gs) greatest → start ≤ g.1 → g.1 < end → end < g.0 → Front start end g (xs ++ g ∷ gs)
front_between start end mid xs gs g h u r l m n =
    let a = r.0 in
    let b = r.1 in
    let new : set_value (is_at (nat_cmp g.0)) (xs ++ g ∷ gs) end ≡ xs ++ (g.0, end) ∷ gs = set_at 0 mid g.0 g.1 end xs gs h (omega arith) in
    record {
      loose = rw new (lie_on 0 mid greatest xs ((g.0, end) ∷ gs) h (omega arith, n, r.2));
      has = λ o. rw new (spans_on o xs ((g.0, end) ∷ gs) ∙ place o ∙ sym (ap (λ x. x && not (in_span o (end, start))) (spans_on o xs (g ∷ gs))));
    }
  where
    place : (o : ℕ) → (in_spans xs o || (in_span o (g.0, end) || in_spans gs o)) ≡ ((in_spans xs o || (in_span o g || in_spans gs o)) && not (in_span o (end, start)))
    place o = elim (cases_lt o start) [
      | inl lt ↦ (
          let a = lt-ltb o start lt in
          let b = lt-ltb o end (omega (arith, lt, l, m)) in
          let c = lt-ltb o g.1 (omega (arith, lt, l)) in
          rw (a, b, c) (sym (and_true (in_spans xs o || in_spans gs o)))
          )
      | inr ge ↦ elim (cases_lt o end) [
        | inl lt ↦ (
            let a = le-ltb o start ge in
            let b = lt-ltb o end lt in
            let none = out_above 0 mid o xs h (omega (arith, ge, u)) in
            let rest = out_below g.0 greatest o gs r.2 (omega (arith, lt, n)) in
            rw (a, b, none, rest) (sym (and_false (in_span o g || false)))
            )
        | inr past ↦ (
            let a = le-ltb o start ge in
            let b = le-ltb o end past in
            let c = le-ltb o g.1 (omega (arith, past, m)) in
            rw (a, b, c) (sym (and_true (in_spans xs o || (ltb o g.0 || in_spans gs o))))
            )
      ]
    ]

pub front_at : (start end : ℕ) (g : Span) (es : List Span) → AreLoose es → next_span start es ≡ Some g → start ≤ g.1 → g.1 < end → end < g.0 → Front start end g es
front_at start end g es h e l m n =
    let s = split_at 0 start greatest es h (omega arith) in
    let t = some_same g s.ys (sym e ∙ s.next) in
    let right : LieWithin s.mid (g ∷ t.0) greatest = subst (λ (gs : List Span). LieWithin s.mid gs greatest) t.1 s.right in
    subst (λ (gs : List Span). Front start end g gs) (sym (s.same ∙ ap (λ (gs : List Span). s.xs ++ gs) t.1)) (front_between start end s.mid s.xs t.0 g s.left s.up right l m n)

-- no run has an offset of a range
none_between : (start end mid o : ℕ) (xs ys : List Span) → LieWithin 0 xs mid → mid ≤ start → LieWithin mid ys greatest → BeginPast end ys → start ≤ o → o < end → in_spans (xs ++ ys) o ≡ false
none_between start end mid o xs [] h u r b l m = spans_on o xs [] ∙ or_false (in_spans xs o) ∙ out_above 0 mid o xs h (omega arith)
none_between start end mid o xs (g ∷ gs) h u r b l m = spans_on o xs (g ∷ gs) ∙ rw (out_above 0 mid o xs h (omega arith)) (out_below g.1 greatest o (g ∷ gs) (omega arith, r.1, r.2) (omega (arith, m, b)))

pub none_from : (start end o : ℕ) (es : List Span) → AreLoose es → BeginsPast end (next_span start es) → start ≤ o → o < end → in_spans es o ≡ false
none_from start end o es h b l m =
    let s = split_at 0 start greatest es h (omega arith) in
    ap (λ (gs : List Span). in_spans gs o) s.same ∙ none_between start end s.mid o s.xs s.ys s.left s.up s.right (begin s.ys (subst (BeginsPast end) s.next b)) l m
  where
    begin : (ys : List Span) → BeginsPast end (first_span ys) → BeginPast end ys
    begin [] b = tt
    begin (g ∷ gs) b = b

-- ---- a run is joined with the next
pub record Joined (low high at first last : ℕ) (es : List Span) : Type 0 where
  pub loose : LieWithin low (remove_entry (is_at (nat_cmp at)) (set_value (is_at (nat_cmp last)) es first)) high
  pub has : (o : ℕ) → in_spans (remove_entry (is_at (nat_cmp at)) (set_value (is_at (nat_cmp last)) es first)) o ≡ in_spans es o
  pub begin : (o : ℕ) → begins_first o (remove_entry (is_at (nat_cmp at)) (set_value (is_at (nat_cmp last)) es first)) ≡ begins_first o es
  pub touch : (o : ℕ) → touches o (remove_entry (is_at (nat_cmp at)) (set_value (is_at (nat_cmp last)) es first)) ≡ true → touches o es ≡ true
  pub apart : touches at (remove_entry (is_at (nat_cmp at)) (set_value (is_at (nat_cmp last)) es first)) ≡ false

-- runs behind an offset don't touch there
touch_none : (low high o : ℕ) (zs : List Span) → LieWithin low zs high → o ≤ low → touches o zs ≡ false
touch_none low high o [] h l = refl
touch_none low high o (z ∷ zs) h l =
    let a = h.0 in
    let b = h.1 in
    let other = ne_eqb z.0 o (λ e. omega (arith, e, a, b, l)) in
    rw other (touch_none z.0 high o zs h.2 (omega (arith, a, b, l)))

pub joined : (low high at first last : ℕ) (es : List Span) → LieWithin low es high → lookup (is_at (nat_cmp at)) es ≡ Some first → next_span at es ≡ Some (last, at) → Joined low high at first last es
joined low high at first last [] h f n = cc
joined low high at first last (g ∷ gs) h f n = go (cases_order g.0 at) h.0 h.1 h.2 f n (joined g.0 high at first last gs)
  where
    met : (ys : List Span) → g.0 ≡ at → g.1 ≡ first → LieWithin g.0 ys high → next_span at ys ≡ Some (last, at) → low ≤ g.1 → g.1 < g.0 → Joined low high at first last (g ∷ ys)
    met [] q e r m a b = cc
    met (y ∷ ys) q e r m a b =
        let c = r.0 in
        let d = r.1 in
        let t = lt-ltb at y.0 (omega arith) in
        let is : Some y ≡ Some (last, at) = subst (λ (x : Bool). cond x (Some y) (next_span at ys) ≡ Some (last, at)) t m in
        let y0 : y.0 ≡ last = ap (λ (o : Option Span). unwrap_or (option_map (λ (x : Span). x.0) o) 0) is in
        let y1 : y.1 ≡ at = ap (λ (o : Option Span). unwrap_or (option_map (λ (x : Span). x.1) o) 0) is in
        let other : is_at (nat_cmp last) g.0 ≡ false = not_at last g.0 (λ z. omega arith) in
        let own : is_at (nat_cmp last) y.0 ≡ true = ap (λ k. is_at (nat_cmp last) k) y0 ∙ at_itself last in
        let here : is_at (nat_cmp at) g.0 ≡ true = ap (λ k. is_at (nat_cmp at) k) q ∙ at_itself at in
        let new : remove_entry (is_at (nat_cmp at)) (set_value (is_at (nat_cmp last)) (g ∷ y ∷ ys) first) ≡ (y.0, first) ∷ ys = rw (other, own) (rw here refl) in
        record {
          loose = rw new (omega arith, omega arith, r.2);
          has = λ o. rw new (ap (λ k. in_span o (y.0, k) || in_spans ys o) (sym e) ∙ join o g.1 g.0 y.0 (in_spans ys o) (omega arith) (omega arith) ∙ ap (λ k. in_span o g || (in_span o (y.0, k) || in_spans ys o)) (q ∙ sym y1));
          begin = λ o. rw new (ap (λ n. n == o) (sym e));
          touch = λ o t. or_right (g.0 == o && y.1 == o) ((y.0 == o && begins_first o ys) || touches o ys) (subst (λ (gs : List Span). touches o gs ≡ true) new t);
          apart = let past = ne_eqb y.0 at (λ z. omega arith) in rw new (rw past (touch_none y.0 high at ys r.2 (omega arith)));
        }

    go : (g.0 ≡ at) ⊎ ((g.0 < at) ⊎ (at < g.0)) → low ≤ g.1 → g.1 < g.0 → LieWithin g.0 gs high → lookup (is_at (nat_cmp at)) (g ∷ gs) ≡ Some first → next_span at (g ∷ gs) ≡ Some (last, at)
        → (LieWithin g.0 gs high → lookup (is_at (nat_cmp at)) gs ≡ Some first → next_span at gs ≡ Some (last, at) → Joined g.0 high at first last gs) → Joined low high at first last (g ∷ gs)
    go (inl q) a b r f n ih =
        let here : is_at (nat_cmp at) g.0 ≡ true = ap (λ k. is_at (nat_cmp at) k) q ∙ at_itself at in
        let t = le-ltb at g.0 (omega arith) in
        let e : Some g.1 ≡ Some first = subst (λ (x : Bool). cond x (Some g.1) (lookup (is_at (nat_cmp at)) gs) ≡ Some first) here f in
        let m : next_span at gs ≡ Some (last, at) = subst (λ (x : Bool). cond x (Some g) (next_span at gs) ≡ Some (last, at)) t n in
        met gs q (ap (λ (o : Option ℕ). unwrap_or o 0) e) r m a b
    go (inr (inl q)) a b r f n ih =
        let other : is_at (nat_cmp at) g.0 ≡ false = not_at at g.0 (λ z. omega arith) in
        let t = le-ltb at g.0 (omega arith) in
        let f2 : lookup (is_at (nat_cmp at)) gs ≡ Some first = subst (λ (x : Bool). cond x (Some g.1) (lookup (is_at (nat_cmp at)) gs) ≡ Some first) other f in
        let m : next_span at gs ≡ Some (last, at) = subst (λ (x : Bool). cond x (Some g) (next_span at gs) ≡ Some (last, at)) t n in
        let past = next_past at gs (last, at) m in
        let others : is_at (nat_cmp last) g.0 ≡ false = not_at last g.0 (λ z. omega arith) in
        let j = ih r f2 m in
        let new : remove_entry (is_at (nat_cmp at)) (set_value (is_at (nat_cmp last)) (g ∷ gs) first) ≡ g ∷ remove_entry (is_at (nat_cmp at)) (set_value (is_at (nat_cmp last)) gs first) = rw others (rw other refl) in
        record {
          loose = rw new (a, b, j.loose);
          has = λ o. rw new (ap (λ x. in_span o g || x) (j.has o));
          begin = λ o. rw new refl;
          touch = λ o t. elim (or_cases (g.0 == o && begins_first o (remove_entry (is_at (nat_cmp at)) (set_value (is_at (nat_cmp last)) gs first))) (touches o (remove_entry (is_at (nat_cmp at)) (set_value (is_at (nat_cmp last)) gs first))) (subst (λ (es : List Span). touches o es ≡ true) new t)) [
            | inl i ↦ or_left (g.0 == o && begins_first o gs) (touches o gs) (sym (ap (λ x. (g.0 == o) && x) (j.begin o)) ∙ i)
            | inr i ↦ or_right (g.0 == o && begins_first o gs) (touches o gs) (j.touch o i)
          ];
          apart = let past = ne_eqb g.0 at (λ z. omega arith) in rw new (rw past j.apart);
        }
    go (inr (inr q)) a b r f n ih =
        let other : is_at (nat_cmp at) g.0 ≡ false = not_at at g.0 (λ z. omega arith) in
        let none = none_behind g.0 high at gs r q in
        let f2 : lookup (is_at (nat_cmp at)) gs ≡ Some first = subst (λ (x : Bool). cond x (Some g.1) (lookup (is_at (nat_cmp at)) gs) ≡ Some first) other f in
        cc

-- where runs touch, one ends and the next begins
first_touch : (o : ℕ) (g : Span) (gs : List Span) (high : ℕ) → g.1 < g.0 → LieWithin g.0 gs high → g.0 ≡ o → begins_first o gs ≡ true → (first_from o (g ∷ gs) < o) × (o < end_from o (next_span o (g ∷ gs)))
first_touch o g [] high l h e b = cc
first_touch o g (y ∷ ys) high l h e b =
    let same = eqb-true y.1 o b in
    let full = h.1 in
    let here : is_at (nat_cmp o) g.0 ≡ true = ap (λ k. is_at (nat_cmp o) k) e ∙ at_itself o in
    let t = le-ltb o g.0 (omega arith) in
    let u = lt-ltb o y.0 (omega arith) in
    (rw here (omega arith), rw t (rw u (rw b (omega arith))))

pub touch_is : (low high o : ℕ) (es : List Span) → LieWithin low es high → touches o es ≡ true → (first_from o es < o) × (o < end_from o (next_span o es))
touch_is low high o [] h e = cc
touch_is low high o (g ∷ gs) h e = elim (or_cases (g.0 == o && begins_first o gs) (touches o gs) e) [
  | inl i ↦ (let p = and_parts (g.0 == o) (begins_first o gs) i in first_touch o g gs high h.1 h.2 (eqb-true g.0 o p.0) p.1)
  | inr i ↦ elim (cases_lt g.0 o) [
    | inl lt ↦ (let ih = touch_is g.0 high o gs h.2 i in
        let other : is_at (nat_cmp o) g.0 ≡ false = not_at o g.0 (λ z. omega (arith, z, lt)) in
        let t = le-ltb o g.0 (omega (arith, lt)) in
        (rw other ih.0, rw t ih.1))
    | inr ge ↦ (let none = touch_none g.0 high o gs h.2 ge in cc)
  ]
]

-- the next run behind an offset ends no later than the next place where runs touch
pub touch_next : (low high at o : ℕ) (es : List Span) → LieWithin low es high → touches o es ≡ true → at < o → (g : Span) × (next_span at es ≡ Some g) × (g.0 ≤ o)
touch_next low high at o [] h e l = cc
touch_next low high at o (g ∷ gs) h e l = go (ltb at g.0) refl (touch_next g.0 high at o gs h.2)
  where
    past : o < g.0 → ⊥
    past m = elim (or_cases (g.0 == o && begins_first o gs) (touches o gs) e) [
      | inl i ↦ (let same = eqb-true g.0 o (and_parts (g.0 == o) (begins_first o gs) i).0 in omega (arith, m, same))
      | inr i ↦ both_ways (touches o gs) (touch_none g.0 high o gs h.2 (omega (arith, m))) i
    ]

    behind : g.0 ≤ at → touches o gs ≡ true
    behind m = elim (or_cases (g.0 == o && begins_first o gs) (touches o gs) e) [
      | inl i ↦ (let same = eqb-true g.0 o (and_parts (g.0 == o) (begins_first o gs) i).0 in absurd (omega (arith, m, l, same)))
      | inr i ↦ i
    ]

    go : (b : Bool) → ltb at g.0 ≡ b → (touches o gs ≡ true → at < o → (x : Span) × (next_span at gs ≡ Some x) × (x.0 ≤ o)) → (x : Span) × (cond b (Some g) (next_span at gs) ≡ Some x) × (x.0 ≤ o)
    go true q ih = (g, refl, elim (cases_lt o g.0) [ inl m ↦ absurd (past m) | inr m ↦ m ])
    go false q ih = ih (behind (ltb-false at g.0 q)) l

-- where runs touch, the set has the offset
pub touch_has : (low high o : ℕ) (es : List Span) → LieWithin low es high → touches o es ≡ true → in_spans es o ≡ true
touch_has low high o [] h e = e
touch_has low high o (g ∷ gs) h e = or_right (in_span o g) (in_spans gs o) (elim (or_cases (g.0 == o && begins_first o gs) (touches o gs) e) [
  | inl i ↦ begun gs h.2 (and_parts (g.0 == o) (begins_first o gs) i).1
  | inr i ↦ touch_has g.0 high o gs h.2 i
])
  where
    begun : (zs : List Span) → LieWithin g.0 zs high → begins_first o zs ≡ true → in_spans zs o ≡ true
    begun [] r b = b
    begun (z ∷ zs) r b =
        let same = eqb-true z.1 o b in
        let full = r.1 in
        or_left (in_span o z) (in_spans zs o) (span_from o z (omega (arith, same)) (omega (arith, same, full)))

-- ---- where runs touch after a step: a run that is put in touches at its ends
put_begins : (k v o : ℕ) (es : List Span) → begins_first o (insert_entry nat_cmp es k v) ≡ true → (begins_first o es ≡ true) ⊎ (o ≡ v)
put_begins k v o [] e = inr (sym (eqb-true v o e))
put_begins k v o (g ∷ gs) e = go (nat_cmp k g.0) e
  where
    go : (r : Ordering) → begins_first o (match_ordering r ((k, v) ∷ g ∷ gs) ((g.0, v) ∷ gs) (g ∷ insert_entry nat_cmp gs k v)) ≡ true → ((g.1 == o) ≡ true) ⊎ (o ≡ v)
    go Less e = inr (sym (eqb-true v o e))
    go Equal e = inr (sym (eqb-true v o e))
    go Greater e = inl e

pub put_touch : (k v o : ℕ) (es : List Span) → touches o (insert_entry nat_cmp es k v) ≡ true → (touches o es ≡ true) ⊎ ((o ≡ v) ⊎ (o ≡ k))
put_touch k v o [] e = absurd (alone (k == o) e)
  where
    alone : (b : Bool) → ((b && false) || false) ≡ true → ⊥
    alone true e = cc
    alone false e = cc
put_touch k v o (g ∷ gs) e = go (nat_cmp k g.0) e (put_touch k v o gs)
  where
    go : (r : Ordering) → touches o (match_ordering r ((k, v) ∷ g ∷ gs) ((g.0, v) ∷ gs) (g ∷ insert_entry nat_cmp gs k v)) ≡ true → (touches o (insert_entry nat_cmp gs k v) ≡ true → (touches o gs ≡ true) ⊎ ((o ≡ v) ⊎ (o ≡ k))) → (touches o (g ∷ gs) ≡ true) ⊎ ((o ≡ v) ⊎ (o ≡ k))
    go Less e ih = elim (or_cases (k == o && g.1 == o) (touches o (g ∷ gs)) e) [
      | inl i ↦ inr (inr (sym (eqb-true k o (and_parts (k == o) (g.1 == o) i).0)))
      | inr i ↦ inl i
    ]
    go Equal e ih = inl e
    go Greater e ih = elim (or_cases (g.0 == o && begins_first o (insert_entry nat_cmp gs k v)) (touches o (insert_entry nat_cmp gs k v)) e) [
      | inl i ↦ (
          let p = and_parts (g.0 == o) (begins_first o (insert_entry nat_cmp gs k v)) i in
          elim (put_begins k v o gs p.1) [
            | inl b ↦ inl (or_left (g.0 == o && begins_first o gs) (touches o gs) (and_from (g.0 == o) (begins_first o gs) p.0 b))
            | inr b ↦ inr (inl b)
          ])
      | inr i ↦ elim (ih i) [ inl t ↦ inl (or_right (g.0 == o && begins_first o gs) (touches o gs) t) | inr t ↦ inr t ]
    ]

-- without a run, or without the front of one, none touch that didn't
drop_begins : (high k o : ℕ) (es : List Span) → LieWithin o es high → begins_first o (remove_entry (is_at (nat_cmp k)) es) ≡ true → begins_first o es ≡ true
drop_begins high k o [] h e = e
drop_begins high k o (g ∷ gs) h e = go (is_at (nat_cmp k) g.0) e
  where
    behind : (zs : List Span) → LieWithin g.0 zs high → begins_first o zs ≡ true → (g.1 == o) ≡ true
    behind [] r b = cc
    behind (z ∷ zs) r b =
        let low = h.0 in
        let full = h.1 in
        let past = r.0 in
        let same = eqb-true z.1 o b in
        absurd (omega (arith, low, full, past, same))

    go : (b : Bool) → begins_first o (cond b gs (g ∷ remove_entry (is_at (nat_cmp k)) gs)) ≡ true → (g.1 == o) ≡ true
    go true e = behind gs h.2 e
    go false e = e

pub drop_touch : (low high k o : ℕ) (es : List Span) → LieWithin low es high → touches o (remove_entry (is_at (nat_cmp k)) es) ≡ true → touches o es ≡ true
drop_touch low high k o [] h e = e
drop_touch low high k o (g ∷ gs) h e = go (is_at (nat_cmp k) g.0) e (drop_touch g.0 high k o gs h.2)
  where
    go : (b : Bool) → touches o (cond b gs (g ∷ remove_entry (is_at (nat_cmp k)) gs)) ≡ true → (touches o (remove_entry (is_at (nat_cmp k)) gs) ≡ true → touches o gs ≡ true) → touches o (g ∷ gs) ≡ true
    go true e ih = or_right (g.0 == o && begins_first o gs) (touches o gs) e
    go false e ih = elim (or_cases (g.0 == o && begins_first o (remove_entry (is_at (nat_cmp k)) gs)) (touches o (remove_entry (is_at (nat_cmp k)) gs)) e) [
      | inl i ↦ (
          let p = and_parts (g.0 == o) (begins_first o (remove_entry (is_at (nat_cmp k)) gs)) i in
          let from = subst (λ n. LieWithin n gs high) (eqb-true g.0 o p.0) h.2 in
          or_left (g.0 == o && begins_first o gs) (touches o gs) (and_from (g.0 == o) (begins_first o gs) p.0 (drop_begins high k o gs from p.1)))
      | inr i ↦ or_right (g.0 == o && begins_first o gs) (touches o gs) (ih i)
    ]

front_begins : (high at w o : ℕ) (g : Span) (es : List Span) → LieWithin o es high → next_span at es ≡ Some g → g.1 < w → begins_first o (set_value (is_at (nat_cmp g.0)) es w) ≡ true → begins_first o es ≡ true
front_begins high at w o g [] h n l e = e
front_begins high at w o g (x ∷ xs) h n l e = go (is_at (nat_cmp g.0) x.0) refl e
  where
    go : (b : Bool) → is_at (nat_cmp g.0) x.0 ≡ b → begins_first o (cond b ((x.0, w) ∷ xs) (x ∷ set_value (is_at (nat_cmp g.0)) xs w)) ≡ true → (x.1 == o) ≡ true
    go true q e =
        let key : g.0 ≡ x.0 = eqb-true g.0 x.0 (sym (unsigned_tied g.0 x.0) ∙ q) in
        let past = next_past at (x ∷ xs) g n in
        let t = lt-ltb at x.0 (omega (arith, key, past)) in
        let is : Some x ≡ Some g = subst (λ (b : Bool). cond b (Some x) (next_span at xs) ≡ Some g) t n in
        let same : x.1 ≡ g.1 = ap (λ (y : Option Span). unwrap_or (option_map (λ (z : Span). z.1) y) 0) is in
        let low = h.0 in
        let from = eqb-true w o e in
        absurd (omega (arith, same, low, from, l))
    go false q e = e

pub front_touch : (low high at w o : ℕ) (g : Span) (es : List Span) → LieWithin low es high → next_span at es ≡ Some g → g.1 < w → touches o (set_value (is_at (nat_cmp g.0)) es w) ≡ true → touches o es ≡ true
front_touch low high at w o g [] h n l e = e
front_touch low high at w o g (x ∷ xs) h n l e = go (is_at (nat_cmp g.0) x.0) refl e (front_touch x.0 high at w o g xs h.2)
  where
    next : is_at (nat_cmp g.0) x.0 ≡ false → next_span at xs ≡ Some g
    next q = pick (ltb at x.0) n
      where
        pick : (b : Bool) → cond b (Some x) (next_span at xs) ≡ Some g → next_span at xs ≡ Some g
        pick true e = let key : g.0 ≡ x.0 = sym (ap (λ (y : Option Span). unwrap_or (option_map (λ (z : Span). z.0) y) 0) e) in absurd (both_ways (is_at (nat_cmp g.0) x.0) q (ap (λ k. is_at (nat_cmp g.0) k) (sym key) ∙ at_itself g.0))
        pick false e = e

    go : (b : Bool) → is_at (nat_cmp g.0) x.0 ≡ b → touches o (cond b ((x.0, w) ∷ xs) (x ∷ set_value (is_at (nat_cmp g.0)) xs w)) ≡ true → (next_span at xs ≡ Some g → g.1 < w → touches o (set_value (is_at (nat_cmp g.0)) xs w) ≡ true → touches o xs ≡ true) → touches o (x ∷ xs) ≡ true
    go true q e ih = e
    go false q e ih = elim (or_cases (x.0 == o && begins_first o (set_value (is_at (nat_cmp g.0)) xs w)) (touches o (set_value (is_at (nat_cmp g.0)) xs w)) e) [
      | inl i ↦ (
          let p = and_parts (x.0 == o) (begins_first o (set_value (is_at (nat_cmp g.0)) xs w)) i in
          let from = subst (λ n. LieWithin n xs high) (eqb-true x.0 o p.0) h.2 in
          or_left (x.0 == o && begins_first o xs) (touches o xs) (and_from (x.0 == o) (begins_first o xs) p.0 (front_begins high at w o g xs from (next q) l p.1)))
      | inr i ↦ or_right (x.0 == o && begins_first o xs) (touches o xs) (ih (next q) l i)
    ]
