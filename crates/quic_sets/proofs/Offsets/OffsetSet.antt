-- A set of offsets as the calls of its map leave it.
use Rattle.std.proofs.Common.{◌≡◌, ℕ, ◌+◌, ◌^◌, ◌<◌, ◌≤◌, ◌==◌, leb, List, [], ◌∷◌, ◌++◌, length, Bool, true, false, not, ◌&&◌, ◌||◌, cond, Some, None, Option, refl, sym, ap, ◌∙◌, subst, arith, ◌⊎◌, inl, inr}
use Rattle.std.specs.Ordering.{nat_cmp}
use Rattle.std.specs.Option.{unwrap_or, option_map}
use Rattle.std.specs.Result.{OnOk, OnErr}
use Rattle.std.specs.declared.result.Result.{Result}
use Rattle.std.specs.declared.result.Result.TheVariants.{Ok, Err}
use Rattle.std.specs.Map.{lookup, remove_entry, set_value}
use Rattle.std.specs.BTreeMap.{insert_entry, is_at}
use Rattle.std.proofs.lemmas.Bool.{or_parts, false_from_ne_true, both_ways, cases_order, eqb-true, leb-true, leb-false}
use Rattle.quic_sets.specs.Spans.{Span, in_span, in_spans, next_span, ends_of, is_spanned, spanned_at, free_at, first_from, end_from}
use Rattle.quic_sets.specs.Loose.{greatest, AreLoose, AreMaximal, BothLack, IsCut, FitsRun, inside_at, touches, TouchWithin}
use Rattle.quic_sets.specs.Parts.{undone}
use Rattle.quic_sets.proofs.Offsets.Spans.{look_some, next_in, next_past}
use Rattle.quic_sets.proofs.Offsets.Loose.{span_is, span_from}
use Rattle.quic_sets.proofs.Offsets.LooseSteps.{and_true, and_false, look_as, put_free, taken_at, front_at, BeginsPast, none_from, Joined, joined, touch_is, touch_next, touch_has, put_touch, drop_touch, front_touch}
use Rattle.quic_sets.proofs.Offsets.Undone.{undone_last, absent, taken_out}

-- ---- one entry
pub set_absent : {X : Type 0} (test : ℕ → Bool) (es : List (ℕ × X)) (w : X) → None ≡ lookup test es → es ≡ set_value test es w
set_absent test [] w e = refl
set_absent {X = X} test (x ∷ es) w e = go (test x.0) e (set_absent test es w)
  where
    go : (b : Bool) → None ≡ cond b (Some x.1) (lookup test es) → (None ≡ lookup test es → es ≡ set_value test es w) → x ∷ es ≡ cond b ((x.0, w) ∷ es) (x ∷ set_value test es w)
    go true e ih = cc
    go false e ih = ap (λ (qs : List (ℕ × X)). x ∷ qs) (ih e)

-- a run that is put in, or lacks the memory for it, is taken out again
pub run_back : {A E : Type 0} (r : Result A E) (k v : ℕ) (es ns : List Span) (olds news : List ℕ) → lookup (is_at (nat_cmp k)) es ≡ None → news ≡ olds ++ k ∷ [] → OnOk r (ns ≡ insert_entry nat_cmp es k v) → OnErr r (ns ≡ es) → undone news ns ≡ undone olds es
run_back (Ok x) k v es ns olds news none e ok err = rw (e, ok) (undone_last olds k (insert_entry nat_cmp es k v) ∙ ap (λ (qs : List Span). undone olds qs) (taken_out k v es none))
run_back (Err x) k v es ns olds news none e ok err = rw (e, err) (undone_last olds k es ∙ ap (λ (qs : List Span). undone olds qs) (absent (is_at (nat_cmp k)) es none))

-- ---- offsets that neither set has, or that one has
pub record Looked (at len : ℕ) (os es : List Span) (other : Bool) (most : ℕ) (held : Bool) (n : ℕ) : Type 0 where
  pub others : AreLoose os
  pub loose : AreLoose es
  pub some : 0 < len
  pub small : at + len < 2 ^ 62
  pub other_is : other ≡ is_spanned at (next_span at os)
  pub most_is : most ≡ cond other (spanned_at at len (next_span at os)) (free_at at len (next_span at os))
  pub held_is : held ≡ is_spanned at (next_span at es)
  pub count_is : n ≡ cond held (spanned_at at most (next_span at es)) (free_at at most (next_span at es))

pub counts : {at len : ℕ} {os es : List Span} {other : Bool} {most : ℕ} {held : Bool} {n : ℕ} → Looked at len os es other most held n → (0 < n) × (n ≤ most) × (most ≤ len)
counts {at} {len} {os} {es} {other} {most} {held} {n} m =
    let a = look_some at most len os other m.some m.other_is m.most_is in
    let b = look_some at n most es held a.0 m.held_is m.count_is in
    (b.0, b.1, a.1)

pub fits : {at len : ℕ} {os es : List Span} {other : Bool} {most : ℕ} {held : Bool} {n : ℕ} → Looked at len os es other most held n → (other || held) ≡ false → FitsRun at (at + n) es
fits {at} {len} {os} {es} {other} {most} {held} {n} m e =
    let none = (or_parts other held e).1 in
    let k = counts m in
    let s = m.small in
    put_free at most n es m.loose (sym none ∙ m.held_is) (m.count_is ∙ ap (λ b. cond b (spanned_at at most (next_span at es)) (free_at at most (next_span at es))) none) k.0 k.1 (omega (arith, s, k.2))

pub put_has : {at len : ℕ} {os es : List Span} {other : Bool} {most : ℕ} {held : Bool} {n : ℕ} (ns : List Span) → Looked at len os es other most held n → (other || held) ≡ false → ((o : ℕ) → in_spans ns o ≡ (in_spans es o || in_span o (at + n, at))) → (o : ℕ) → in_spans ns o ≡ (in_spans es o || (in_span o (at + n, at) && not (in_spans os o)))
put_has {at} {len} {os} {es} {other} {most} {held} {n} ns m e has o = has o ∙ ap (λ b. in_spans es o || b) (go (in_span o (at + n, at)) refl)
  where
    go : (b : Bool) → in_span o (at + n, at) ≡ b → b ≡ (b && not (in_spans os o))
    go true q =
        let i = span_is o (at + n, at) q in
        let k = counts m in
        let none = look_as at len most o os other m.others m.other_is m.most_is i.0 (omega (arith, i.1, k.1)) ∙ (or_parts other held e).0 in
        rw none refl
    go false q = refl

pub skip_has : {at len : ℕ} {os es : List Span} {other : Bool} {most : ℕ} {held : Bool} {n : ℕ} → Looked at len os es other most held n → (other || held) ≡ true → (o : ℕ) → in_spans es o ≡ (in_spans es o || (in_span o (at + n, at) && not (in_spans os o)))
skip_has {at} {len} {os} {es} {other} {most} {held} {n} m e o = go (in_span o (at + n, at)) refl
  where
    whole : (x y : Bool) → (y ≡ true) ⊎ (x ≡ true) → x ≡ (x || not y)
    whole true y e = refl
    whole false true e = refl
    whole false false e = elim e [ inl q ↦ q | inr q ↦ q ]

    none : (x : Bool) → x ≡ (x || false)
    none true = refl
    none false = refl

    either : (x y : Bool) → (x || y) ≡ true → (x ≡ true) ⊎ (y ≡ true)
    either true y e = inl refl
    either false y e = inr e

    go : (b : Bool) → in_span o (at + n, at) ≡ b → in_spans es o ≡ (in_spans es o || (b && not (in_spans os o)))
    go true q =
        let i = span_is o (at + n, at) q in
        let k = counts m in
        let same = look_as at len most o os other m.others m.other_is m.most_is i.0 (omega (arith, i.1, k.1)) in
        let own = look_as at most n o es held m.loose m.held_is m.count_is i.0 i.1 in
        whole (in_spans es o) (in_spans os o) (elim (either other held e) [ inl x ↦ inl (same ∙ x) | inr x ↦ inr (own ∙ x) ])
    go false q = none (in_spans es o)

-- a run is put in only where both sets lack its first offset
pub lack_here : {at len : ℕ} {os es : List Span} {other : Bool} {most : ℕ} {held : Bool} {n : ℕ} → Looked at len os es other most held n → (other || held) ≡ false → BothLack es os at (at + len)
lack_here {at} {len} {os} {es} {other} {most} {held} {n} m e =
    let k = counts m in
    let none = or_parts other held e in
    record {
      offset = at;
      above = omega arith;
      below = let some = m.some in omega arith;
      free = look_as at most n at es held m.loose m.held_is m.count_is (omega arith) (omega (arith, k.0)) ∙ none.1;
      other = look_as at len most at os other m.others m.other_is m.most_is (omega arith) (omega (arith, k.0, k.1)) ∙ none.0;
    }

-- ---- runs that touch
some_at : (at : ℕ) (x : Option ℕ) → unwrap_or x at < at → x ≡ Some (unwrap_or x at)
some_at at None l = absurd (omega (arith, l))
some_at at (Some y) l = refl

next_at : (at : ℕ) (x : Option Span) → at < end_from at x → x ≡ Some (end_from at x, at)
next_at at None l = absurd (omega (arith, l))
next_at at (Some g) l = go (g.1 == at) refl l
  where
    go : (b : Bool) → (g.1 == at) ≡ b → at < cond b g.0 at → Some g ≡ Some (cond b g.0 at, at)
    go true q l = ap (λ (n : ℕ). Some (g.0, n)) (eqb-true g.1 at q)
    go false q l = absurd (omega (arith, l))

pub join_is : (at first last : ℕ) (es : List Span) → AreLoose es → first ≡ first_from at es → last ≡ end_from at (next_span at es) → first < at → at < last → Joined 0 greatest at first last es
join_is at first last es h f e l m =
    let a : lookup (is_at (nat_cmp at)) es ≡ Some first = some_at at (lookup (is_at (nat_cmp at)) es) (subst (λ n. n < at) f l) ∙ ap (λ (n : ℕ). Some n) (sym f) in
    let b : next_span at es ≡ Some (last, at) = next_at at (next_span at es) (subst (λ n. at < n) e m) ∙ ap (λ (n : ℕ). Some (n, at)) (sym e) in
    joined 0 greatest at first last es h a b

-- ---- the next run
pub next_is : (s e : ℕ) (x : Option Span) → Some (s, e) ≡ option_map ends_of x → x ≡ Some (e, s)
next_is s e None q = cc
next_is s e (Some g) q =
    let a : s ≡ g.1 = ap (λ (o : Option (ℕ × ℕ)). unwrap_or (option_map (λ (p : ℕ × ℕ). p.0) o) 0) q in
    let b : e ≡ g.0 = ap (λ (o : Option (ℕ × ℕ)). unwrap_or (option_map (λ (p : ℕ × ℕ). p.1) o) 0) q in
    rw (a, b) refl

-- a run that begins before an offset, and ends behind it, has it
pub cut_has : (at s e : ℕ) (es : List Span) → Some (s, e) ≡ option_map ends_of (next_span at es) → s < at → in_spans es at ≡ true
cut_has at s e es q l =
    let n = next_is s e (next_span at es) q in
    next_in at at es (e, s) n (span_from at (e, s) (omega (arith, l)) (next_past at es (e, s) n))

pub inside_is : (end last : ℕ) (x : Option Span) → Some last ≡ inside_at end x → (g : Span) × (x ≡ Some g) × (g.0 ≡ last) × (g.0 ≤ end)
inside_is end last None e = cc
inside_is end last (Some g) e = go (leb g.0 end) refl e
  where
    go : (b : Bool) → leb g.0 end ≡ b → Some last ≡ cond b (Some g.0) None → (h : Span) × (Some g ≡ Some h) × (h.0 ≡ last) × (h.0 ≤ end)
    go true q e = (g, refl, sym (ap (λ (o : Option ℕ). unwrap_or o 0) e), leb-true g.0 end q)
    go false q e = cc

inside_not : (end : ℕ) (g : Span) → inside_at end (Some g) ≡ None → end < g.0
inside_not end g e = go (leb g.0 end) refl e
  where
    go : (b : Bool) → leb g.0 end ≡ b → cond {A = Option ℕ} b (Some g.0) None ≡ None → end < g.0
    go true q e = cc
    go false q e = leb-false g.0 end q

-- ---- the offsets of a range are taken out
pub record Dropped (start end : ℕ) (es ns : List Span) : Type 0 where
  pub loose : AreLoose ns
  pub out : (o : ℕ) → in_span o (end, start) ≡ false → in_spans ns o ≡ in_spans es o
  pub cut : IsCut start (next_span start ns)
  pub touch : (o : ℕ) → touches o ns ≡ true → touches o es ≡ true
  pub less : length ns < length es

pub drop_step : (start end last : ℕ) (es ns : List Span) → AreLoose es → IsCut start (next_span start es) → Some last ≡ inside_at end (next_span start es) → ns ≡ remove_entry (is_at (nat_cmp last)) es → Dropped start end es ns
drop_step start end last es ns h c e is =
    let f = inside_is end last (next_span start es) e in
    let g = f.0 in
    let t = taken_at start end g es h f.1 (subst (IsCut start) f.1 c) f.3 in
    let same : ns ≡ remove_entry (is_at (nat_cmp g.0)) es = is ∙ ap (λ (k : ℕ). remove_entry (is_at (nat_cmp k)) es) (sym f.2) in
    subst (λ (gs : List Span). Dropped start end es gs) (sym same) (record { loose = t.loose; out = t.out; cut = t.cut; touch = λ o. drop_touch 0 greatest g.0 o es h; less = t.less })

pub record Emptied (start end : ℕ) (os es : List Span) : Type 0 where
  pub loose : AreLoose es
  pub cut : IsCut start (next_span start es)
  pub out : (o : ℕ) → in_span o (end, start) ≡ false → in_spans es o ≡ in_spans os o
  pub touch : (o : ℕ) → touches o es ≡ true → touches o os ≡ true
  pub none_inside : inside_at end (next_span start es) ≡ None

take_rest : (start end : ℕ) (os es : List Span) → Emptied start end os es → BeginsPast end (next_span start es) → (o : ℕ) → in_spans es o ≡ (in_spans os o && not (in_span o (end, start)))
take_rest start end os es m b o = go (in_span o (end, start)) refl
  where
    go : (c : Bool) → in_span o (end, start) ≡ c → in_spans es o ≡ (in_spans os o && not c)
    go true q = let i = span_is o (end, start) q in none_from start end o es m.loose b i.0 i.1 ∙ sym (and_false (in_spans os o))
    go false q = m.out o q ∙ sym (and_true (in_spans os o))

pub take_none : (start end : ℕ) (os es : List Span) → Emptied start end os es → None ≡ option_map ends_of (next_span start es) → (o : ℕ) → in_spans es o ≡ (in_spans os o && not (in_span o (end, start)))
take_none start end os es m e = take_rest start end os es m (go (next_span start es) e)
  where
    go : (x : Option Span) → None ≡ option_map ends_of x → BeginsPast end x
    go None e = tt
    go (Some g) e = cc

pub take_past : (start end first last : ℕ) (os es : List Span) → Emptied start end os es → Some (first, last) ≡ option_map ends_of (next_span start es) → end ≤ first → (o : ℕ) → in_spans es o ≡ (in_spans os o && not (in_span o (end, start)))
take_past start end first last os es m e l = take_rest start end os es m (subst (BeginsPast end) (sym (next_is first last (next_span start es) e)) l)

pub take_front : (start end first last : ℕ) (os es ns : List Span) → Emptied start end os es → Some (first, last) ≡ option_map ends_of (next_span start es) → first < end → ns ≡ set_value (is_at (nat_cmp last)) es end → AreLoose ns × ((o : ℕ) → in_spans ns o ≡ (in_spans os o && not (in_span o (end, start)))) × ((o : ℕ) → touches o ns ≡ true → touches o os ≡ true)
take_front start end first last os es ns m e l is =
    let n = next_is first last (next_span start es) e in
    let f = front_at start end (last, first) es m.loose n (subst (IsCut start) n m.cut) l (inside_not end (last, first) (sym (ap (inside_at end) n) ∙ m.none_inside)) in
    (rw is f.loose, λ o. ap (λ (gs : List Span). in_spans gs o) is ∙ f.has o ∙ go o (in_span o (end, start)) refl, λ o t. m.touch o (front_touch 0 greatest start end o (last, first) es m.loose n l (subst (λ (gs : List Span). touches o gs ≡ true) is t)))
  where
    go : (o : ℕ) (c : Bool) → in_span o (end, start) ≡ c → (in_spans es o && not c) ≡ (in_spans os o && not c)
    go o true q = and_false (in_spans es o) ∙ sym (and_false (in_spans os o))
    go o false q = ap (λ b. b && true) (m.out o q)

-- ---- runs that were put in touch no others then
pub apart_stays : (o : ℕ) (new old : List Span) → ((k : ℕ) → touches k new ≡ true → touches k old ≡ true) → touches o old ≡ false → touches o new ≡ false
apart_stays o new old less e = false_from_ne_true (touches o new) (λ t. both_ways (touches o old) e (less o t))

pub apart_before : (o : ℕ) (es : List Span) → AreLoose es → o ≤ first_from o es → touches o es ≡ false
apart_before o es h l = false_from_ne_true (touches o es) (λ t. let p = (touch_is 0 greatest o es h t).0 in omega (arith, l, p))

pub apart_behind : (o : ℕ) (es : List Span) → AreLoose es → end_from o (next_span o es) ≤ o → touches o es ≡ false
apart_behind o es h l = false_from_ne_true (touches o es) (λ t. let p = (touch_is 0 greatest o es h t).1 in omega (arith, l, p))

-- ---- the walk over a range: runs touch only behind where it stands
pub walk_past : (at end : ℕ) (old new : List Span) → ((o : ℕ) → touches o new ≡ true → touches o old ≡ true) → touches at new ≡ false → ((o : ℕ) → touches o old ≡ true → (at ≤ o) × (o ≤ end)) → (o : ℕ) → touches o new ≡ true → (at < o) × (o ≤ end)
walk_past at end old new less apart h o t =
    let p = h o (less o t) in
    elim (cases_order o at) [
      | inl q ↦ absurd (both_ways (touches o new) (ap (λ n. touches n new) q ∙ apart) t)
      | inr q ↦ elim q [ inl lt ↦ absurd (let low = p.0 in omega (arith, lt, low)) | inr gt ↦ (gt, p.1) ]
    ]

pub walk_on : (at end next : ℕ) (es : List Span) → Some next ≡ inside_at end (next_span at es) → (at < next) × (next ≤ end)
walk_on at end next es e =
    let f = inside_is end next (next_span at es) e in
    let past = next_past at es f.0 f.1 in
    let same = f.2 in
    let within = f.3 in
    (omega (arith, past, same), omega (arith, within, same))

pub walk_next : (at end next : ℕ) (es : List Span) → AreLoose es → Some next ≡ inside_at end (next_span at es) → ((o : ℕ) → touches o es ≡ true → (at < o) × (o ≤ end)) → (o : ℕ) → touches o es ≡ true → (next ≤ o) × (o ≤ end)
walk_next at end next es h e k o t =
    let f = inside_is end next (next_span at es) e in
    let p = k o t in
    let g = touch_next 0 greatest at o es h t p.0 in
    let same : f.0.0 ≡ g.0.0 = ap (λ (x : Option Span). unwrap_or (option_map (λ (z : Span). z.0) x) 0) (sym f.1 ∙ g.1) in
    let is = f.2 in
    let up = g.2 in
    (omega (arith, same, is, up), p.1)

pub walk_done : (at end : ℕ) (es : List Span) → AreLoose es → None ≡ inside_at end (next_span at es) → ((o : ℕ) → touches o es ≡ true → (at < o) × (o ≤ end)) → AreMaximal es
walk_done at end es h e k = record {
  loose = h;
  apart = λ o. false_from_ne_true (touches o es) (λ t.
      let p = k o t in
      let g = touch_next 0 greatest at o es h t p.0 in
      let past = inside_not end g.0 (ap (inside_at end) (sym g.1) ∙ sym e) in
      let up = g.2 in
      let within = p.1 in
      omega (arith, past, up, within));
}

-- ---- where runs touch after a call
pub touch_put : (at end : ℕ) (es ns : List Span) → at ≤ end → ns ≡ insert_entry nat_cmp es end at → TouchWithin es ns at end
touch_put at end es ns l is o t = elim (put_touch end at o es (subst (λ (gs : List Span). touches o gs ≡ true) is t)) [
  | inl i ↦ inl i
  | inr i ↦ inr (elim i [ inl e ↦ (omega (arith, e), omega (arith, e, l)) | inr e ↦ (omega (arith, e, l), omega (arith, e)) ])
]

pub touch_only : (a b : ℕ) (es ns : List Span) → AreMaximal es → TouchWithin es ns a b → (o : ℕ) → touches o ns ≡ true → (a ≤ o) × (o ≤ b)
touch_only a b es ns m h o t = elim (h o t) [ inl i ↦ absurd (both_ways (touches o es) (m.apart o) i) | inr i ↦ i ]

pub apart_all : (es ns : List Span) → AreMaximal es → AreLoose ns → ((o : ℕ) → touches o ns ≡ true → touches o es ≡ true) → AreMaximal ns
apart_all es ns m h less = record { loose = h; apart = λ o. apart_stays o ns es less (m.apart o) }

-- a run was cut in two, and then either the part behind was taken out or the two were joined again
pub apart_again : (at : ℕ) (es cs ns : List Span) → AreMaximal es → TouchWithin es cs at at → AreLoose ns → ((o : ℕ) → touches o ns ≡ true → touches o cs ≡ true) → touches at ns ≡ false → AreMaximal ns
apart_again at es cs ns m h loose less apart = record {
  loose = loose;
  apart = λ o. false_from_ne_true (touches o ns) (λ t.
      let p = touch_only at at es cs m h o (less o t) in
      let low = p.0 in
      let up = p.1 in
      let same : o ≡ at = omega (arith, low, up) in
      both_ways (touches o ns) (ap (λ n. touches n ns) same ∙ apart) t);
}

pub apart_out : (a z : ℕ) (es ns : List Span) → a < z → AreLoose ns → ((o : ℕ) → in_spans ns o ≡ (in_spans es o && not (in_span o (z, a)))) → touches a ns ≡ false
apart_out a z es ns l h has = false_from_ne_true (touches a ns) (λ t.
    let out : in_spans ns a ≡ false = has a ∙ ap (λ b. in_spans es a && not b) (span_from a (z, a) (omega arith) l) ∙ and_false (in_spans es a) in
    both_ways (in_spans ns a) out (touch_has 0 greatest a ns h t))
