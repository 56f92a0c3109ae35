-- The two steps of an insert: what waits is skipped, and a gap is filled.
use Rattle.std.proofs.Common.{◌≡◌, ℕ, ◌+◌, ◌-◌, ◌<◌, ◌≤◌, ltb, length, List, [], ◌∷◌, take, drop, Bool, true, false, cond, not, Some, None, Option, refl, sym, ap, ◌∙◌, subst, arith, max, min, length-take, length-drop, take_all, drop-drop}
use Rattle.std.specs.Ordering.{nat_cmp}
use Rattle.std.specs.Cmp.{nat_cmp_is}
use Rattle.std.specs.declared.cmp.Ordering.TheVariants.{Less, Greater}
use Rattle.std.specs.BTreeMap.{insert_entry}
use Rattle.std.proofs.lemmas.List.{drop_all}
use Rattle.std.proofs.lemmas.Bool.{ltb-true, ltb-false}
use Rattle.quic_sets.specs.Parts.{Part, start, after}
use Rattle.quic_assembler.specs.Arrived.{AreApart, with_gaps, with_part}
use Rattle.quic_assembler.specs.PartSteps.{gap_at, is_held, held_at, Fits}

take_none : (n : ℕ) → take {A = ℕ} n [] ≡ []
take_none n = take_all n [] (omega arith)

drop_none : (n : ℕ) → drop {A = ℕ} n [] ≡ []
drop_none n = drop_all n [] (omega arith)

pub nothing : (bs : List ℕ) → length bs ≡ 0 → bs ≡ []
nothing [] e = refl
nothing (b ∷ bs) e = absurd (omega arith)

-- no bytes leave the parts as they are
pub none_left : (ps : List Part) (at : ℕ) → with_gaps ps at [] ≡ ps
none_left [] at = refl
none_left (p ∷ ps) at = rw (take_none (start p - at), drop_none (p.0 - at)) (ap (λ t. p ∷ t) (none_left ps (max at p.0)))

part_of : (at : ℕ) (bs : List ℕ) (ps : List Part) → 0 < length bs → with_part at bs ps ≡ (at + length bs, bs) ∷ ps
part_of at [] ps l = absurd (omega arith)
part_of at (b ∷ bs) ps l = refl

-- the first part stays where bytes come behind it
pub behind_first : (at : ℕ) (p : Part) (ps : List Part) (bs : List ℕ) → p.0 ≤ at → with_gaps (p ∷ ps) at bs ≡ p ∷ with_gaps ps at bs
behind_first at p ps bs l =
    let e1 : start p - at ≡ 0 = omega arith in
    let e2 : max at p.0 ≡ at = omega arith in
    let e3 : p.0 - at ≡ 0 = omega arith in
    rw (e1, e2, e3) refl

-- the first k bytes wait already
pub skips : (at k : ℕ) (ps : List Part) (bs : List ℕ) (x : Part) → after at ps ≡ Some x → start x ≤ at → at + k ≤ x.0 → with_gaps ps at bs ≡ with_gaps ps (at + k) (drop k bs)
skips at k [] bs x e s l = cc
skips at k (p ∷ ps) bs x e s l = go (ltb at p.0) refl e (skips at k ps bs x)
  where
    go : (b : Bool) → ltb at p.0 ≡ b → cond b (Some p) (after at ps) ≡ Some x → (after at ps ≡ Some x → start x ≤ at → at + k ≤ x.0 → with_gaps ps at bs ≡ with_gaps ps (at + k) (drop k bs)) → with_gaps (p ∷ ps) at bs ≡ with_gaps (p ∷ ps) (at + k) (drop k bs)
    go true q e ih =
        let same : x ≡ p = cc in
        let s2 : start p ≤ at = subst (λ z. start z ≤ at) same s in
        let l2 : at + k ≤ p.0 = subst (λ z. at + k ≤ z.0) same l in
        let e1 : start p - at ≡ 0 = omega arith in
        let e2 : start p - (at + k) ≡ 0 = omega arith in
        let e3 : max at p.0 ≡ p.0 = omega arith in
        let e4 : max (at + k) p.0 ≡ p.0 = omega arith in
        let e5 : drop (p.0 - (at + k)) (drop k bs) ≡ drop (p.0 - at) bs = drop-drop (p.0 - (at + k)) k bs ∙ ap (λ n. drop n bs) (omega arith) in
        rw (e1, e2, e3, e4, e5) refl
    go false q e ih =
        let below = ltb-false at p.0 q in
        behind_first at p ps bs below ∙ ap (λ t. p ∷ t) (ih e s l) ∙ sym (behind_first (at + k) p ps (drop k bs) (omega arith))

pub take_within : (n : ℕ) (bs : List ℕ) (m : ℕ) → m ≡ min n (length bs) → take n bs ≡ take m bs
take_within n bs m e = go (ltb n (length bs)) refl
  where
    go : (b : Bool) → ltb n (length bs) ≡ b → take n bs ≡ take m bs
    go true q = let l = ltb-true n (length bs) q in ap (λ i. take i bs) (omega arith)
    go false q = let l = ltb-false n (length bs) q in take_all n bs l ∙ sym (take_all m bs (omega arith))

abbrev gap_of : ℕ → List ℕ → Option Part → ℕ
gap_of at bs x = gap_at at (length bs) x

-- the first bytes fill the gap there
pub fills : (low at gap : ℕ) (ps : List Part) (bs : List ℕ) → AreApart low ps → 0 < gap → gap ≡ gap_of at bs (after at ps) → with_gaps ps at bs ≡ with_gaps (insert_entry nat_cmp ps (at + gap) (take gap bs)) (at + gap) (drop gap bs)
fills low at gap [] bs h l g =
    let e1 : take gap bs ≡ bs = take_all gap bs (omega arith) in
    let e2 : drop gap bs ≡ [] = drop_all gap bs (omega arith) in
    rw (e1, e2) (part_of at bs [] (omega arith) ∙ ap (λ n. (at + n, bs) ∷ []) (sym g) ∙ sym (none_left ((at + gap, bs) ∷ []) (at + gap)))
fills low at gap (p ∷ ps) bs h l g = go (ltb at p.0) refl g (fills p.0 at gap ps bs h.2 l)
  where
    go : (b : Bool) → ltb at p.0 ≡ b → gap ≡ gap_of at bs (cond b (Some p) (after at ps)) → (gap ≡ gap_of at bs (after at ps) → with_gaps ps at bs ≡ with_gaps (insert_entry nat_cmp ps (at + gap) (take gap bs)) (at + gap) (drop gap bs)) → with_gaps (p ∷ ps) at bs ≡ with_gaps (insert_entry nat_cmp (p ∷ ps) (at + gap) (take gap bs)) (at + gap) (drop gap bs)
    go true q g ih =
        let big = h.0 in
        let full = h.1 in
        let lt : length (take gap bs) ≡ gap = length-take gap bs ∙ omega arith in
        let ld = length-drop gap bs in
        let f : nat_cmp (at + gap) p.0 ≡ Less = sym (nat_cmp_is (at + gap) p.0 Less (omega arith)) in
        let e1 : at + gap - gap - (at + gap) ≡ 0 = omega arith in
        let e2 : max (at + gap) (at + gap) ≡ at + gap = omega arith in
        let e3 : at + gap - (at + gap) ≡ 0 = omega arith in
        let e4 : take (start p - (at + gap)) (drop gap bs) ≡ [] = nothing _ (length-take (start p - (at + gap)) (drop gap bs) ∙ omega arith) in
        let e5 : max (at + gap) p.0 ≡ p.0 = omega arith in
        let e6 : drop (p.0 - (at + gap)) (drop gap bs) ≡ drop (p.0 - at) bs = drop-drop (p.0 - (at + gap)) gap bs ∙ ap (λ n. drop n bs) (omega arith) in
        let e7 : take (start p - at) bs ≡ take gap bs = take_within (start p - at) bs gap g in
        let e8 : max at p.0 ≡ p.0 = omega arith in
        rw (f, e7, e8) (part_of at (take gap bs) _ (omega arith) ∙ rw (lt, e1, e2, e3, e4, e5, e6) refl)
    go false q g ih =
        let below = ltb-false at p.0 q in
        let f : nat_cmp (at + gap) p.0 ≡ Greater = sym (nat_cmp_is (at + gap) p.0 Greater (omega arith)) in
        rw f (behind_first at p ps bs below ∙ ap (λ t. p ∷ t) (ih g) ∙ sym (behind_first (at + gap) p _ (drop gap bs) (omega arith)))

le_from_held : (at : ℕ) (x : Part) → not (ltb at (start x)) ≡ true → start x ≤ at
le_from_held at x b = ltb-false at (start x) (go (ltb at (start x)) b)
  where
    go : (c : Bool) → not c ≡ true → c ≡ false
    go true e = sym e
    go false e = refl

pub lt_from_free : (at : ℕ) (x : Part) → false ≡ not (ltb at (start x)) → at < start x
lt_from_free at x b = ltb-true at (start x) (go (ltb at (start x)) b)
  where
    go : (c : Bool) → false ≡ not c → c ≡ true
    go true e = refl
    go false e = e

after_past : (at : ℕ) (ps : List Part) (x : Part) → after at ps ≡ Some x → at < x.0
after_past at [] x e = cc
after_past at (p ∷ ps) x e = go (ltb at p.0) refl e (after_past at ps x)
  where
    go : (b : Bool) → ltb at p.0 ≡ b → cond b (Some p) (after at ps) ≡ Some x → (after at ps ≡ Some x → at < x.0) → at < x.0
    go true q e ih = let same : p ≡ x = cc in subst (λ z. at < z.0) same (ltb-true at p.0 q)
    go false q e ih = ih e

step_held : (at n : ℕ) (ps : List Part) (bs : List ℕ) → is_held at (after at ps) ≡ true → n ≡ held_at at (length bs) (after at ps) → with_gaps ps at bs ≡ with_gaps ps (at + n) (drop n bs)
step_held at n ps bs b e = go (after at ps) refl b e
  where
    go : (o : Option Part) → after at ps ≡ o → is_held at o ≡ true → n ≡ held_at at (length bs) o → with_gaps ps at bs ≡ with_gaps ps (at + n) (drop n bs)
    go None q b e = cc
    go (Some x) q b e = let past = after_past at ps x q in let l = le_from_held at x b in skips at n ps bs x q l (omega arith)

-- one byte that waits already
pub one_held : (at : ℕ) (ps : List Part) (b : ℕ) (bs : List ℕ) → is_held at (after at ps) ≡ true → with_gaps ps at (b ∷ bs) ≡ with_gaps ps (at + 1) bs
one_held at ps b bs e = go (after at ps) refl e
  where
    go : (o : Option Part) → after at ps ≡ o → is_held at o ≡ true → with_gaps ps at (b ∷ bs) ≡ with_gaps ps (at + 1) bs
    go None q e = cc
    go (Some x) q e = let past = after_past at ps x q in skips at 1 ps (b ∷ bs) x q (le_from_held at x e) (omega arith)

-- some step is taken, and none past the end
step_some : (at n len : ℕ) (ps : List Part) (held : Bool) → 0 < len → held ≡ is_held at (after at ps) → n ≡ cond held (held_at at len (after at ps)) (gap_at at len (after at ps)) → (0 < n) × (n ≤ len)
step_some at n len ps held l b e = go (after at ps) refl held b e
  where
    go : (o : Option Part) → after at ps ≡ o → (held : Bool) → held ≡ is_held at o → n ≡ cond held (held_at at len o) (gap_at at len o) → (0 < n) × (n ≤ len)
    go None q true b e = cc
    go None q false b e = (omega arith, omega arith)
    go (Some x) q true b e = let past = after_past at ps x q in (omega arith, omega arith)
    go (Some x) q false b e = let out = lt_from_free at x b in (omega arith, omega arith)

-- ---- as the calls say it
pub some_taken : (at len n : ℕ) (ps : List Part) (bs : List ℕ) (held : Bool) → 0 < length bs → held ≡ is_held at (after at ps) → n ≡ cond held (held_at at len (after at ps)) (gap_at at len (after at ps)) → len ≡ length bs → (0 < n) × (n ≤ len)
some_taken at len n ps bs held l b e v = step_some at n len ps held (rw v l) b e

pub held_gaps : (at len n : ℕ) (ps : List Part) (bs : List ℕ) (held : Bool) → held ≡ is_held at (after at ps) → held ≡ true → n ≡ cond held (held_at at len (after at ps)) (gap_at at len (after at ps)) → len ≡ length bs → with_gaps ps at bs ≡ with_gaps ps (at + n) (drop n bs)
held_gaps at len n ps bs held b t e v = step_held at n ps bs (sym b ∙ t) (e ∙ ap (λ h. cond h (held_at at len (after at ps)) (gap_at at len (after at ps))) t ∙ ap (λ l. held_at at l (after at ps)) v)

gap_is : (at len n : ℕ) (ps : List Part) (bs : List ℕ) (held : Bool) → held ≡ false → n ≡ cond held (held_at at len (after at ps)) (gap_at at len (after at ps)) → len ≡ length bs → n ≡ gap_at at (length bs) (after at ps)
gap_is at len n ps bs held t e v = e ∙ ap (λ h. cond h (held_at at len (after at ps)) (gap_at at len (after at ps))) t ∙ ap (λ l. gap_at at l (after at ps)) v

pub free_gaps : (low at len n : ℕ) (ps ns : List Part) (bs : List ℕ) (held : Bool) → AreApart low ps → 0 < length bs → held ≡ is_held at (after at ps) → held ≡ false → n ≡ cond held (held_at at len (after at ps)) (gap_at at len (after at ps)) → len ≡ length bs → ns ≡ insert_entry nat_cmp ps (at + n) (take n bs) → with_gaps ps at bs ≡ with_gaps ns (at + n) (drop n bs)
free_gaps low at len n ps ns bs held h l b t e v is = rw is (fills low at n ps bs h (some_taken at len n ps bs held l b e v).0 (gap_is at len n ps bs held t e v))

-- the bytes of a gap lie before the next part
pub free_fits : (at len n : ℕ) (o : Option Part) (held : Bool) → held ≡ is_held at o → held ≡ false → n ≡ cond held (held_at at len o) (gap_at at len o) → Fits (at + n) o
free_fits at len n None held b t e = tt
free_fits at len n (Some x) held b t e =
    let out = lt_from_free at x (sym t ∙ b) in
    let n_is : n ≡ min (start x - at) len = e ∙ ap (λ h. cond h (held_at at len (Some x)) (gap_at at len (Some x))) t in
    omega arith

-- a gap that is filled with the first n bytes, as the call says it
pub put_gaps : (low at len n : ℕ) (a ps ns : List Part) (bs : List ℕ) (held : Bool) → ps ≡ a → AreApart low ps → 0 < length bs → held ≡ is_held at (after at ps) → held ≡ false → n ≡ cond held (held_at at len (after at ps)) (gap_at at len (after at ps)) → len ≡ length bs → ns ≡ insert_entry nat_cmp a (at + length (take n bs)) (take n bs) → with_gaps ps at bs ≡ with_gaps ns (at + n) (drop n bs)
put_gaps low at len n a ps ns bs held seen h l b t e v is =
    let some = some_taken at len n ps bs held l b e v in
    let lt : length (take n bs) ≡ n = length-take n bs ∙ omega arith in
    free_gaps low at len n ps ns bs held h l b t e v (is ∙ ap (λ k. insert_entry nat_cmp a (at + k) (take n bs)) lt ∙ ap (λ (qs : List Part). insert_entry nat_cmp qs (at + n) (take n bs)) (sym seen))
