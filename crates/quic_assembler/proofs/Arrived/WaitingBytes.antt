-- How many bytes wait: as many as offsets at which one does, as many once parts are joined, and
-- more by those of a part that comes.
use Rattle.std.proofs.Common.{◌≡◌, ℕ, ◌+◌, ◌-◌, ◌^◌, ◌<◌, ◌≤◌, ◌==◌, ◌⊎◌, leb, length, List, [], ◌∷◌, ◌++◌, length-append, Bool, true, false, cond, Some, None, suc, zero, refl, sym, ap, ◌∙◌, subst, arith, inl, inr, min}
use Rattle.std.specs.Option.{is_some}
use Rattle.std.specs.Ordering.{nat_cmp, is_eq, match_ordering}
use Rattle.std.specs.declared.cmp.Ordering.{Ordering}
use Rattle.std.specs.declared.cmp.Ordering.TheVariants.{Less, Equal, Greater}
use Rattle.std.specs.Map.{lookup}
use Rattle.std.specs.BTreeMap.{insert_entry, is_at}
use Rattle.std.proofs.lemmas.Bool.{leb-true, leb-false, le-leb, lt-leb, cases_lt}
use Rattle.quic_sets.specs.Parts.{Part, start, byte_from, after}
use Rattle.quic_assembler.specs.Arrived.{AreApart, holds, waits, count_to, in_front, joined, waiting_bytes}
use Rattle.quic_assembler.specs.PartSteps.{Fits}
use Rattle.quic_sets.proofs.Parts.Bytes.{from_below, from_behind, from_within}
use Rattle.quic_assembler.proofs.Arrived.Bytes.{at_below, or_none}
use Rattle.quic_assembler.proofs.Parts.Filled.{low_small}
use Rattle.quic_assembler.proofs.Arrived.Runs.{count_none}
use Rattle.quic_assembler.proofs.Parts.Undone.{fresh}

-- ---- they lie below the greatest offset
bytes_above : (low : ℕ) (ps : List Part) → AreApart low ps → low + waiting_bytes ps < 2 ^ 62
bytes_above low [] h = omega (arith, h)
bytes_above low (p ∷ ps) h =
    let big = h.0 in
    let rest = bytes_above p.0 ps h.2 in
    omega arith

pub bytes_small : (ps : List Part) → AreApart 0 ps → waiting_bytes ps < 2 ^ 62
bytes_small ps h = let k = bytes_above 0 ps h in omega arith

-- a bound that is cut at the greatest number of 64 bits is no other bound
pub short_cut : (bytes n : ℕ) → bytes < 2 ^ 64 → leb bytes (min n (2 ^ 64 - 1)) ≡ leb bytes n
short_cut bytes n s = go (leb bytes n) refl
  where
    go : (b : Bool) → leb bytes n ≡ b → leb bytes (min n (2 ^ 64 - 1)) ≡ b
    go true q = let k = leb-true bytes n q in le-leb bytes (min n (2 ^ 64 - 1)) (omega arith)
    go false q = let k = leb-false bytes n q in lt-leb bytes (min n (2 ^ 64 - 1)) (omega arith)

-- ---- one byte waits at each offset
count_both : (f g h : ℕ → Bool) (n : ℕ) → ((i : ℕ) → cond {A = ℕ} (f i) 1 0 ≡ cond (g i) 1 0 + cond (h i) 1 0) → count_to f n ≡ count_to g n + count_to h n
count_both f g h zero e = refl
count_both f g h (suc n) e = rw (e n, count_both f g h n e) (omega arith)

-- below an offset `n` lie so many of a part's bytes
part_counted : (at : ℕ) (bs : List ℕ) (n : ℕ) → count_to (λ o. is_some (byte_from at bs o)) n ≡ min (length bs) (n - at)
part_counted at bs zero = omega arith
part_counted at bs (suc n) = go (cases_lt n at) (cases_lt n (at + length bs)) (part_counted at bs n)
  where
    go : (n < at) ⊎ (at ≤ n) → (n < at + length bs) ⊎ (at + length bs ≤ n) → count_to (λ o. is_some (byte_from at bs o)) n ≡ min (length bs) (n - at) → count_to (λ o. is_some (byte_from at bs o)) (suc n) ≡ min (length bs) (suc n - at)
    go (inl l) c ih = rw (from_below at bs n l, ih) (omega arith)
    go (inr l) (inl m) ih = rw (from_within at bs n l m, ih) (omega arith)
    go (inr l) (inr m) ih = rw (from_behind at bs n m, ih) (omega arith)

-- an offset waits in the first part or behind it
one_place : (low : ℕ) (p : Part) (ps : List Part) (o : ℕ) → AreApart low (p ∷ ps) → cond {A = ℕ} (waits (p ∷ ps) o) 1 0 ≡ cond (holds o p) 1 0 + cond (waits ps o) 1 0
one_place low p ps o h = go (cases_lt o p.0)
  where
    go : (o < p.0) ⊎ (p.0 ≤ o) → cond {A = ℕ} (waits (p ∷ ps) o) 1 0 ≡ cond (holds o p) 1 0 + cond (waits ps o) 1 0
    go (inl l) = rw (at_below p.0 ps o h.2 l, or_none (byte_from (start p) p.1 o)) (omega arith)
    go (inr l) =
        let big = h.0 in
        rw (from_behind (start p) p.1 o (omega arith)) (omega arith)

pub bytes_counted : (low : ℕ) (ps : List Part) (n : ℕ) → AreApart low ps → 2 ^ 62 ≤ n → waiting_bytes ps ≡ count_to (waits ps) n
bytes_counted low [] n h m = sym (count_none (waits []) n (λ i. refl))
bytes_counted low (p ∷ ps) n h m =
    let big = h.0 in
    let small = low_small p.0 ps h.2 in
    let own : count_to (λ o. holds o p) n ≡ length p.1 = part_counted (start p) p.1 n ∙ omega arith in
    let rest = bytes_counted p.0 ps n h.2 m in
    let both = count_both (waits (p ∷ ps)) (λ o. holds o p) (waits ps) n (λ o. one_place low p ps o h) in
    omega (arith, own, rest, both)

-- ---- joined, they are as many
in_front_bytes : (p : Part) (ps : List Part) → waiting_bytes (in_front p ps) ≡ length p.1 + waiting_bytes ps
in_front_bytes p [] = refl
in_front_bytes p (q ∷ qs) = go (start q == p.0)
  where
    go : (b : Bool) → waiting_bytes (cond b ((q.0, p.1 ++ q.1) ∷ qs) (p ∷ q ∷ qs)) ≡ length p.1 + (length q.1 + waiting_bytes qs)
    go true = let l = length-append p.1 q.1 in omega arith
    go false = refl

pub joined_bytes : (ps : List Part) → waiting_bytes (joined ps) ≡ waiting_bytes ps
joined_bytes [] = refl
joined_bytes (p ∷ ps) = in_front_bytes p (joined ps) ∙ ap (λ n. length p.1 + n) (joined_bytes ps)

-- ---- a part that comes
filled_bytes : (k : ℕ) (bs : List ℕ) (ps : List Part) → lookup (is_at (nat_cmp k)) ps ≡ None → waiting_bytes (insert_entry nat_cmp ps k bs) ≡ waiting_bytes ps + length bs
filled_bytes k bs [] e = omega arith
filled_bytes k bs (p ∷ ps) e = go (nat_cmp k p.0) e (filled_bytes k bs ps)
  where
    go : (r : Ordering) → cond (is_eq r) (Some p.1) (lookup (is_at (nat_cmp k)) ps) ≡ None → (lookup (is_at (nat_cmp k)) ps ≡ None → waiting_bytes (insert_entry nat_cmp ps k bs) ≡ waiting_bytes ps + length bs)
        → waiting_bytes (match_ordering r ((k, bs) ∷ p ∷ ps) ((p.0, bs) ∷ ps) (p ∷ insert_entry nat_cmp ps k bs)) ≡ length p.1 + waiting_bytes ps + length bs
    go Less e ih = omega arith
    go Equal e ih = cc
    go Greater e ih = let i = ih e in omega arith

-- as the call says it; `a` is what is seen of the map
pub put_bytes : (at bytes : ℕ) (a ps ns : List Part) (bs part : List ℕ) → ps ≡ a → AreApart 0 ps → 0 < length bs → Fits (at + length bs) (after at a) → bytes ≡ waiting_bytes ps → part ≡ bs → ns ≡ insert_entry nat_cmp ps (at + length bs) part → bytes + length bs ≡ waiting_bytes ns
put_bytes at bytes a ps ns bs part v h l f c e is =
    let fits = subst (λ (x : List Part). Fits (at + length bs) (after at x)) (sym v) f in
    let more = filled_bytes (at + length bs) bs ps (fresh 0 at (at + length bs) ps h (omega arith) fits) in
    rw (is, e, c) (sym more)
