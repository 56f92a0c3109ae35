-- A part that is put into a gap: the parts stay apart, and their runs change by those that it
-- touches.
use Rattle.std.proofs.Common.{◌≡◌, ℕ, ◌+◌, ◌-◌, ◌^◌, ◌<◌, ◌≤◌, ◌==◌, ltb, lit<, lit≤, length, List, [], ◌∷◌, Bool, true, false, cond, Some, None, refl, sym, ◌∙◌, subst, arith}
use Rattle.std.specs.Ordering.{nat_cmp}
use Rattle.std.specs.Option.{is_some}
use Rattle.std.specs.Cmp.{nat_cmp_is, unsigned_tied}
use Rattle.std.specs.Map.{lookup}
use Rattle.std.specs.declared.cmp.Ordering.TheVariants.{Less, Greater}
use Rattle.std.specs.BTreeMap.{insert_entry, is_at}
use Rattle.std.proofs.lemmas.Bool.{ltb-true, ltb-false, ne_eqb, eqb-true}
use Rattle.quic_sets.specs.Parts.{Part, start, after}
use Rattle.quic_assembler.specs.Arrived.{AreApart, runs_behind, runs_of}
use Rattle.quic_assembler.specs.PartSteps.{Fits, begins_at, touching}
use Rattle.quic_sets.proofs.Parts.First.{not_at}

pub filled_apart : (low at : ℕ) (ps : List Part) (bs : List ℕ) → AreApart low ps → low ≤ at → 0 < length bs → at + length bs < 2 ^ 62 → Fits (at + length bs) (after at ps) → AreApart low (insert_entry nat_cmp ps (at + length bs) bs)
filled_apart low at [] bs h m l s f = (omega arith, l, s)
filled_apart low at (p ∷ ps) bs h m l s f = go (ltb at p.0) refl f (λ k. filled_apart p.0 at ps bs h.2 k l s)
  where
    go : (b : Bool) → ltb at p.0 ≡ b → Fits (at + length bs) (cond b (Some p) (after at ps)) → (p.0 ≤ at → Fits (at + length bs) (after at ps) → AreApart p.0 (insert_entry nat_cmp ps (at + length bs) bs)) → AreApart low (insert_entry nat_cmp (p ∷ ps) (at + length bs) bs)
    go true q f ih =
        let big = h.0 in
        let full = h.1 in
        let e : nat_cmp (at + length bs) p.0 ≡ Less = sym (nat_cmp_is (at + length bs) p.0 Less (omega arith)) in
        rw e (omega arith, l, (omega arith, full, h.2))
    go false q f ih =
        let below = ltb-false at p.0 q in
        let e : nat_cmp (at + length bs) p.0 ≡ Greater = sym (nat_cmp_is (at + length bs) p.0 Greater (omega arith)) in
        rw e (h.0, h.1, ih below f)

at_most_one : (b : Bool) → cond b 0 1 ≤ 1
at_most_one true = lit≤ tt
at_most_one false = lit≤ tt

-- there are no more runs than offsets
pub runs_small : (low : ℕ) (ps : List Part) → AreApart low ps → low + runs_behind low ps < 2 ^ 62
runs_small low [] h = omega (arith, h)
runs_small low (p ∷ ps) h =
    let big = h.0 in
    let full = h.1 in
    let rest = runs_small p.0 ps h.2 in
    let one = at_most_one (start p == low) in
    omega arith

pub runs_fit : (low : ℕ) (ps : List Part) → AreApart low ps → runs_of ps < 2 ^ 62
runs_fit low [] h = lit< tt
runs_fit low (p ∷ ps) h =
    let big = h.0 in
    let full = h.1 in
    let rest = runs_small p.0 ps h.2 in
    omega arith

one_of : (b : Bool) → cond b 0 1 + cond b 1 0 ≡ 1
one_of true = refl
one_of false = refl

pub none_below : (at low : ℕ) (ps : List Part) → AreApart low ps → at ≤ low → lookup (is_at (nat_cmp at)) ps ≡ None
none_below at low [] h l = refl
none_below at low (p ∷ ps) h l =
    let big = h.0 in
    let full = h.1 in
    let e : is_at (nat_cmp at) p.0 ≡ false = not_at at p.0 (λ q. omega arith) in
    rw e (none_below at p.0 ps h.2 (omega arith))

-- a part that ends at `at` is the one before, or stands behind it
found_at : (at : ℕ) (p : Part) (ps : List Part) → AreApart p.0 ps → cond (is_some (lookup (is_at (nat_cmp at)) (p ∷ ps))) 1 0 ≡ cond (at == p.0) 1 0 + cond (is_some (lookup (is_at (nat_cmp at)) ps)) 1 0
found_at at p ps h = go (is_at (nat_cmp at) p.0) refl
  where
    go : (b : Bool) → is_at (nat_cmp at) p.0 ≡ b → cond (is_some (cond b (Some p.1) (lookup (is_at (nat_cmp at)) ps))) 1 0 ≡ cond (at == p.0) 1 0 + cond (is_some (lookup (is_at (nat_cmp at)) ps)) 1 0
    go true q =
        let t : (at == p.0) ≡ true = sym (unsigned_tied at p.0) ∙ q in
        let same : at ≡ p.0 = eqb-true at p.0 t in
        let none : lookup (is_at (nat_cmp at)) ps ≡ None = none_below at p.0 ps h (omega arith) in
        rw (t, none) refl
    go false q =
        let t : (at == p.0) ≡ false = sym (unsigned_tied at p.0) ∙ q in
        rw t (omega arith)

abbrev touched : ℕ → List Part → ℕ → ℕ
touched end ps at = cond (begins_at end (after at ps)) 1 0

-- the runs behind a part that ends at `e`, where a gap behind it is filled
filled_behind : (e at : ℕ) (ps : List Part) (bs : List ℕ) → AreApart e ps → e ≤ at → 0 < length bs → Fits (at + length bs) (after at ps) → runs_behind e (insert_entry nat_cmp ps (at + length bs) bs) + (cond (at == e) 1 0 + touching ps at (at + length bs)) ≡ runs_behind e ps + 1
filled_behind e at [] bs h m l f =
    let s : at + length bs - length bs ≡ at = omega arith in
    let o = one_of (at == e) in
    rw s (omega arith)
filled_behind e at (p ∷ ps) bs h m l f = go (ltb at p.0) refl f (λ k. filled_behind p.0 at ps bs h.2 k l)
  where
    go : (b : Bool) → ltb at p.0 ≡ b → Fits (at + length bs) (cond b (Some p) (after at ps)) → (p.0 ≤ at → Fits (at + length bs) (after at ps) → runs_behind p.0 (insert_entry nat_cmp ps (at + length bs) bs) + (cond (at == p.0) 1 0 + touching ps at (at + length bs)) ≡ runs_behind p.0 ps + 1)
        → runs_behind e (insert_entry nat_cmp (p ∷ ps) (at + length bs) bs) + (cond (at == e) 1 0 + (cond (is_some (lookup (is_at (nat_cmp at)) (p ∷ ps))) 1 0 + cond (begins_at (at + length bs) (cond b (Some p) (after at ps))) 1 0)) ≡ runs_behind e (p ∷ ps) + 1
    go true q f ih =
        let big = h.0 in
        let full = h.1 in
        let above = ltb-true at p.0 q in
        let c : nat_cmp (at + length bs) p.0 ≡ Less = sym (nat_cmp_is (at + length bs) p.0 Less (omega arith)) in
        let s : at + length bs - length bs ≡ at = omega arith in
        let t : (start p == e) ≡ false = ne_eqb (start p) e (λ k. omega arith) in
        let n : lookup (is_at (nat_cmp at)) (p ∷ ps) ≡ None = none_below at at (p ∷ ps) (omega arith, h.1, h.2) (omega arith) in
        let o = one_of (at == e) in
        let w = one_of (start p == at + length bs) in
        rw (c, s, t, n) (omega arith)
    go false q f ih =
        let big = h.0 in
        let full = h.1 in
        let below = ltb-false at p.0 q in
        let c : nat_cmp (at + length bs) p.0 ≡ Greater = sym (nat_cmp_is (at + length bs) p.0 Greater (omega arith)) in
        let t : (at == e) ≡ false = ne_eqb at e (λ k. omega arith) in
        let k = found_at at p ps h.2 in
        let i = ih below f in
        rw (c, t) (omega arith)

-- a part in a gap is one more run, and joins with those that it touches
pub filled_runs : (low at : ℕ) (ps : List Part) (bs : List ℕ) → AreApart low ps → low ≤ at → 0 < length bs → Fits (at + length bs) (after at ps) → runs_of (insert_entry nat_cmp ps (at + length bs) bs) + touching ps at (at + length bs) ≡ runs_of ps + 1
filled_runs low at [] bs h m l f = refl
filled_runs low at (p ∷ ps) bs h m l f = go (ltb at p.0) refl f
  where
    go : (b : Bool) → ltb at p.0 ≡ b → Fits (at + length bs) (cond b (Some p) (after at ps)) → runs_of (insert_entry nat_cmp (p ∷ ps) (at + length bs) bs) + (cond (is_some (lookup (is_at (nat_cmp at)) (p ∷ ps))) 1 0 + cond (begins_at (at + length bs) (cond b (Some p) (after at ps))) 1 0) ≡ runs_of (p ∷ ps) + 1
    go true q f =
        let big = h.0 in
        let full = h.1 in
        let above = ltb-true at p.0 q in
        let c : nat_cmp (at + length bs) p.0 ≡ Less = sym (nat_cmp_is (at + length bs) p.0 Less (omega arith)) in
        let n : lookup (is_at (nat_cmp at)) (p ∷ ps) ≡ None = none_below at at (p ∷ ps) (omega arith, h.1, h.2) (omega arith) in
        let w = one_of (start p == at + length bs) in
        rw (c, n) (omega arith)
    go false q f =
        let big = h.0 in
        let full = h.1 in
        let below = ltb-false at p.0 q in
        let c : nat_cmp (at + length bs) p.0 ≡ Greater = sym (nat_cmp_is (at + length bs) p.0 Greater (omega arith)) in
        let k = found_at at p ps h.2 in
        let i = filled_behind p.0 at ps bs h.2 below l f in
        rw c (omega arith)

-- ---- as the call says it; `a` is what is seen of the map
pub put_apart : (low at : ℕ) (a ps ns : List Part) (bs part : List ℕ) → ps ≡ a → AreApart low ps → low ≤ at → 0 < length bs → at + length bs < 2 ^ 62 → Fits (at + length bs) (after at a) → part ≡ bs → ns ≡ insert_entry nat_cmp ps (at + length bs) part → AreApart low ns
put_apart low at a ps ns bs part v h m l s f e is =
    let fits = subst (λ (x : List Part). Fits (at + length bs) (after at x)) (sym v) f in
    rw (is, e) (filled_apart low at ps bs h m l s fits)

pub put_runs : (low at runs touched : ℕ) (a ps ns : List Part) (bs part : List ℕ) → ps ≡ a → AreApart low ps → low ≤ at → 0 < length bs → Fits (at + length bs) (after at a) → runs ≡ runs_of ps → touched ≡ touching a at (at + length bs) → part ≡ bs → ns ≡ insert_entry nat_cmp ps (at + length bs) part → runs + 1 - touched ≡ runs_of ns
put_runs low at runs touched a ps ns bs part v h m l f r t e is =
    let fits = subst (λ (x : List Part). Fits (at + length bs) (after at x)) (sym v) f in
    let whole : touched ≡ touching ps at (at + length bs) = subst (λ (x : List Part). touched ≡ touching x at (at + length bs)) (sym v) t in
    let sum = filled_runs low at ps bs h m l fits in
    rw (is, e, r) (omega arith)

-- what is read lies below the greatest offset
pub low_small : (low : ℕ) (ps : List Part) → AreApart low ps → low < 2 ^ 62
low_small low [] h = h
low_small low (p ∷ ps) h =
    let big = h.0 in
    let full = h.1 in
    let k = low_small p.0 ps h.2 in
    omega arith
