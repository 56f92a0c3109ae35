-- The runs of parts are the offsets at which one begins.
use Rattle.std.proofs.Common.{◌≡◌, ℕ, ◌+◌, ◌-◌, ◌^◌, ◌<◌, ◌≤◌, ◌==◌, List, [], ◌∷◌, Bool, true, false, not, ◌&&◌, cond, refl, sym, ap, ◌∙◌, arith, suc, zero, ◌⊎◌, inl, inr}
use Rattle.std.specs.Option.{is_some}
use Rattle.std.proofs.lemmas.Bool.{eq-eqb, ne_eqb, cases_order, and_right, cases_eq}
use Rattle.quic_sets.specs.Parts.{Part, start}
use Rattle.quic_assembler.specs.Arrived.{AreApart, waits, waits_before, begins_run, count_to, runs_behind, runs_of}
use Rattle.quic_assembler.proofs.Parts.Filled.{low_small}
use Rattle.quic_sets.proofs.Parts.Bytes.{from_below, from_behind, from_within}
use Rattle.quic_assembler.proofs.Arrived.Bytes.{at_below}

-- ---- counting
pub count_none : (f : ℕ → Bool) (n : ℕ) → ((i : ℕ) → f i ≡ false) → count_to f n ≡ 0
count_none f zero h = refl
count_none f (suc n) h = rw (h n, count_none f n h) refl

pub count_same : (f g : ℕ → Bool) (n : ℕ) → ((i : ℕ) → i < n → f i ≡ g i) → count_to f n ≡ count_to g n
count_same f g zero h = refl
count_same f g (suc n) h = rw (h n (omega arith), count_same f g n (λ i l. h i (omega arith))) refl

-- two tests that differ at one place alone
pub count_but : (f g : ℕ → Bool) (s n : ℕ) → s < n → ((i : ℕ) → (i ≡ s → ⊥) → f i ≡ g i) → g s ≡ false → count_to f n ≡ cond (f s) 1 0 + count_to g n
count_but f g s zero l h e = absurd (omega arith)
count_but f g s (suc n) l h e = go (cases_eq n s) (λ k. count_but f g s n k h e)
  where
    below : (i : ℕ) → i < n → n ≡ s → i ≡ s → ⊥
    below i k e q = omega arith

    go : (n ≡ s) ⊎ (n ≡ s → ⊥) → (s < n → count_to f n ≡ cond (f s) 1 0 + count_to g n) → count_to f (suc n) ≡ cond (f s) 1 0 + count_to g (suc n)
    go (inl q) ih =
        let same = count_same f g n (λ i k. h i (below i k q)) in
        let at_g : g n ≡ false = ap g q ∙ e in
        let at_f : f n ≡ f s = ap f q in
        rw (at_g, at_f, same) (omega arith)
    go (inr q) ih =
        let same : f n ≡ g n = h n q in
        let rest = ih (apart n s l q) in
        rw (same, rest) (omega arith)
      where
        apart : (n s : ℕ) → s < suc n → (n ≡ s → ⊥) → s < n
        apart n s l q = omega arith

-- ---- what waits beside a first part
pub in_below : (low : ℕ) (p : Part) (ps : List Part) (i : ℕ) → AreApart low (p ∷ ps) → i < start p → waits (p ∷ ps) i ≡ false
in_below low p ps i h l =
    let big = h.0 in
    let full = h.1 in
    rw (from_below (start p) p.1 i l, at_below p.0 ps i h.2 (omega arith)) refl

pub in_part : (low : ℕ) (p : Part) (ps : List Part) (i : ℕ) → AreApart low (p ∷ ps) → start p ≤ i → i < p.0 → waits (p ∷ ps) i ≡ true
in_part low p ps i h l m =
    let big = h.0 in
    rw (from_within (start p) p.1 i l (omega arith)) refl

pub in_past : (low : ℕ) (p : Part) (ps : List Part) (i : ℕ) → AreApart low (p ∷ ps) → p.0 ≤ i → waits (p ∷ ps) i ≡ waits ps i
in_past low p ps i h l =
    let big = h.0 in
    rw (from_behind (start p) p.1 i (omega arith)) refl

pub none_yet : (p : Part) (ps : List Part) (i : ℕ) → AreApart p.0 ps → i < p.0 → waits ps i ≡ false
none_yet p ps i h l = ap is_some (at_below p.0 ps i h l)

-- a run begins, where what stands right before isn't seen and `joins` says whether it touches
abbrev pub begins : (ℕ → Bool) → List Part → ℕ → Bool
begins joins ps o = waits ps o && (not (joins o) && not (waits_before ps o))

before_is : (ps : List Part) (o : ℕ) → 0 < o → waits_before ps o ≡ waits ps (o - 1)
before_is ps o l = rw (ne_eqb o 0 (λ e. omega arith)) refl

-- behind the first part's beginning, the runs are those of the others
pub same_runs : (low : ℕ) (joins : ℕ → Bool) (p : Part) (ps : List Part) (i : ℕ) → AreApart low (p ∷ ps) → ((o : ℕ) → low < o → joins o ≡ false) → (i ≡ start p → ⊥) → begins joins (p ∷ ps) i ≡ begins (λ o. o == p.0) ps i
same_runs low joins p ps i h j n = go (cases_order i (start p)) (cases_order i p.0)
  where
    go : (i ≡ start p) ⊎ ((i < start p) ⊎ (start p < i)) → (i ≡ p.0) ⊎ ((i < p.0) ⊎ (p.0 < i)) → begins joins (p ∷ ps) i ≡ begins (λ o. o == p.0) ps i
    go (inl e) o = absurd (n e)
    go (inr (inl l)) o =
        let big = h.0 in
        rw (in_below low p ps i h l, none_yet p ps i h.2 (omega arith)) refl
    go (inr (inr l)) (inl e) =
        let big = h.0 in
        let full = h.1 in
        let held = in_part low p ps (i - 1) h (omega arith) (omega arith) in
        let b : waits_before (p ∷ ps) i ≡ true = before_is (p ∷ ps) i (omega arith) ∙ held in
        let t : (i == p.0) ≡ true = eq-eqb i p.0 e in
        rw (b, t) (and_right (waits (p ∷ ps) i) (not (joins i) && false) (and_right (not (joins i)) false refl) ∙ sym (and_right (waits ps i) false refl))
    go (inr (inr l)) (inr (inl m)) =
        let held = in_part low p ps (i - 1) h (omega arith) (omega arith) in
        let b : waits_before (p ∷ ps) i ≡ true = before_is (p ∷ ps) i (omega arith) ∙ held in
        rw (b, none_yet p ps i h.2 m) (and_right (waits (p ∷ ps) i) (not (joins i) && false) (and_right (not (joins i)) false refl))
    go (inr (inr l)) (inr (inr m)) =
        let big = h.0 in
        let full = h.1 in
        let b : waits_before (p ∷ ps) i ≡ waits_before ps i = before_is (p ∷ ps) i (omega arith) ∙ in_past low p ps (i - 1) h (omega arith) ∙ sym (before_is ps i (omega arith)) in
        let w = in_past low p ps i h (omega arith) in
        let t : (i == p.0) ≡ false = ne_eqb i p.0 (λ e. omega arith) in
        let k : joins i ≡ false = j i (omega arith) in
        rw (b, w, t, k) refl

pub and_true : (b : Bool) → (b && true) ≡ b
and_true true = refl
and_true false = refl

-- at its beginning a run begins, unless it joins
pub at_start : (low : ℕ) (joins : ℕ → Bool) (p : Part) (ps : List Part) → AreApart low (p ∷ ps) → begins joins (p ∷ ps) (start p) ≡ not (joins (start p))
at_start low joins p ps h =
    let big = h.0 in
    let full = h.1 in
    let w = in_part low p ps (start p) h (omega arith) (omega arith) in
    let b : waits_before (p ∷ ps) (start p) ≡ false = none (cases_eq (start p) 0) in
    rw (w, b) (and_true (not (joins (start p))))
  where
    none : (start p ≡ 0) ⊎ (start p ≡ 0 → ⊥) → waits_before (p ∷ ps) (start p) ≡ false
    none (inl e) = rw (eq-eqb (start p) 0 e) refl
    none (inr n) = before_is (p ∷ ps) (start p) (omega arith) ∙ in_below low p ps (start p - 1) h (omega arith)

flipped : (b : Bool) → cond {A = ℕ} (not b) 1 0 ≡ cond b 0 1
flipped true = refl
flipped false = refl

-- one part more: its run, unless it joins, and those of the others
one_more : (low : ℕ) (joins : ℕ → Bool) (p : Part) (ps : List Part) (n : ℕ) → AreApart low (p ∷ ps) → ((o : ℕ) → low < o → joins o ≡ false) → 2 ^ 62 ≤ n → count_to (begins joins (p ∷ ps)) n ≡ cond (joins (start p)) 0 1 + count_to (begins (λ o. o == p.0) ps) n
one_more low joins p ps n h j m =
    let big = h.0 in
    let full = h.1 in
    let small = low_small p.0 ps h.2 in
    let free : begins (λ o. o == p.0) ps (start p) ≡ false = rw (none_yet p ps (start p) h.2 (omega arith)) refl in
    count_but (begins joins (p ∷ ps)) (begins (λ o. o == p.0) ps) (start p) n (omega arith) (λ i k. same_runs low joins p ps i h j k) free
    ∙ ap (λ b. cond b 1 0 + count_to (begins (λ o. o == p.0) ps) n) (at_start low joins p ps h)
    ∙ ap (λ k. k + count_to (begins (λ o. o == p.0) ps) n) (flipped (joins (start p)))

behind_counted : (e : ℕ) (ps : List Part) (n : ℕ) → AreApart e ps → 2 ^ 62 ≤ n → count_to (begins (λ o. o == e) ps) n ≡ runs_behind e ps
behind_counted e [] n h m = count_none (begins (λ o. o == e) []) n (λ i. refl)
behind_counted e (p ∷ ps) n h m =
    one_more e (λ o. o == e) p ps n h (λ o l. ne_eqb o e (λ q. omega arith)) m
    ∙ ap (λ k. cond (start p == e) 0 1 + k) (behind_counted p.0 ps n h.2 m)

pub runs_counted : (low : ℕ) (ps : List Part) (n : ℕ) → AreApart low ps → 2 ^ 62 ≤ n → runs_of ps ≡ count_to (begins_run ps) n
runs_counted low [] n h m = sym (count_none (begins_run []) n (λ i. refl))
runs_counted low (p ∷ ps) n h m =
    sym (one_more low (λ o. false) p ps n h (λ o l. refl) m ∙ ap (λ k. 1 + k) (behind_counted p.0 ps n h.2 m))
