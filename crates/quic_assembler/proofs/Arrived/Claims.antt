-- The laws of what arrived: an offset waits once, the first bytes stand, and a read gives what
-- waits.
use Rattle.std.proofs.Common.{◌≡◌, ℕ, ◌+◌, ◌-◌, ◌^◌, ◌<◌, ◌≤◌, ◌==◌, ltb, length, List, [], ◌∷◌, take, drop, Bool, true, false, cond, Some, None, Option, refl, sym, ap, ◌∙◌, arith, max, length-take, length-drop, count_by, lit≤}
use Rattle.std.specs.List.{slice_get}
use Rattle.std.specs.Option.{IfSome, IsSome, is_some}
use Rattle.std.proofs.lemmas.Bool.{ltb-true, ltb-false, eqb-true}
use Rattle.std.proofs.lemmas.Option.{slice_get-get_or}
use Rattle.std.proofs.lemmas.List.Sums.{sum_by-cons}
use Rattle.quic_assembler.specs.declared.assembler.Chunk.{Chunk}
use Rattle.quic_sets.specs.Parts.{Part, start, byte_from}
use Rattle.quic_assembler.specs.Arrived.{AreApart, byte_at, holds, with_part, with_gaps, is_next, given, behind, left_by, shortened}
use Rattle.quic_sets.proofs.Parts.Bytes.{get-take, from_below, from_behind, from_within, from_back}
use Rattle.quic_assembler.proofs.Arrived.Bytes.{at_below}

-- ---- an offset waits once, and above what is read
one_more : (o : ℕ) (p : Part) (ps : List Part) → count_by (holds o) (p ∷ ps) ≡ cond (holds o p) 1 0 + count_by (holds o) ps
one_more o p ps = sum_by-cons (λ x. cond (holds o x) 1 0) p ps

count_below : (low o : ℕ) (ps : List Part) → AreApart low ps → o < low → count_by (holds o) ps ≡ 0
count_below low o [] h l = refl
count_below low o (p ∷ ps) h l =
    let big = h.0 in
    let full = h.1 in
    let none : holds o p ≡ false = ap is_some (from_below (start p) p.1 o (omega arith)) in
    one_more o p ps ∙ rw (none, count_below p.0 o ps h.2 (omega arith)) refl

at_most : (b : Bool) → cond b 1 0 ≤ 1
at_most true = lit≤ tt
at_most false = lit≤ tt

pub count_once : (low o : ℕ) (ps : List Part) → AreApart low ps → count_by (holds o) ps ≤ 1
count_once low o [] h = lit≤ tt
count_once low o (p ∷ ps) h = go (ltb o p.0) refl (count_once p.0 o ps h.2)
  where
    go : (b : Bool) → ltb o p.0 ≡ b → count_by (holds o) ps ≤ 1 → count_by (holds o) (p ∷ ps) ≤ 1
    go true q ih =
        let k = ltb-true o p.0 q in
        let none = count_below p.0 o ps h.2 k in
        let m = at_most (holds o p) in
        let whole = one_more o p ps in
        omega arith
    go false q ih =
        let big = h.0 in
        let k = ltb-false o p.0 q in
        let none : holds o p ≡ false = ap is_some (from_behind (start p) p.1 o (omega arith)) in
        let whole : count_by (holds o) (p ∷ ps) ≡ count_by (holds o) ps = one_more o p ps ∙ rw none (omega arith) in
        omega arith

pub waits_above : (low o : ℕ) (ps : List Part) → AreApart low ps → IsSome (byte_at ps o) → low ≤ o
waits_above low o ps h w = go (ltb o low) refl
  where
    go : (b : Bool) → ltb o low ≡ b → low ≤ o
    go true q = let e = at_below low ps o h (ltb-true o low q) in cc
    go false q = ltb-false o low q

-- ---- an insert
part_apart : (low at : ℕ) (front : List ℕ) (p : Part) (ps : List Part) → low + length p.1 ≤ p.0 → low ≤ at → 0 < length p.1 → (0 < length front → at + length front ≤ start p) → AreApart p.0 ps → AreApart low (with_part at front (p ∷ ps))
part_apart low at [] p ps b m f l h = (b, f, h)
part_apart low at (x ∷ xs) p ps b m f l h = let k = l (omega arith) in (omega arith, omega arith, (omega arith, f, h))

pub gaps_apart : (low at : ℕ) (ps : List Part) (bs : List ℕ) → AreApart low ps → low ≤ at → (0 < length bs → at + length bs < 2 ^ 62) → AreApart low (with_gaps ps at bs)
gaps_apart low at [] [] h m s = h
gaps_apart low at [] (b ∷ bs) h m s = (omega arith, omega arith, s (omega arith))
gaps_apart low at (p ∷ ps) bs h m s =
    let big = h.0 in
    let full = h.1 in
    let t = length-take (start p - at) bs in
    let d = length-drop (p.0 - at) bs in
    part_apart low at (take (start p - at) bs) p _ h.0 m h.1 (λ l. omega arith) (gaps_apart p.0 (max at p.0) ps (drop (p.0 - at) bs) h.2 (omega arith) (λ l. let k = s (omega arith) in omega arith))

-- ---- a read
pub given_next : (ps : List Part) (read most : ℕ) → is_some (given ps read most) ≡ is_next ps read
given_next [] read most = refl
given_next (p ∷ ps) read most = go (start p == read)
  where
    go : (b : Bool) → is_some {T = Chunk} (cond b (Some (record { offset = read; bytes = take most p.1 })) None) ≡ b
    go true = refl
    go false = refl

pub read_bytes : (read most i : ℕ) (ps : List Part) → AreApart read ps → IfSome (given ps read most) (λ chunk. i < length chunk.bytes → slice_get chunk.bytes i ≡ byte_at ps (chunk.offset + i))
read_bytes read most i [] h = tt
read_bytes read most i (p ∷ ps) h = go (start p == read) refl
  where
    go : (b : Bool) → (start p == read) ≡ b → IfSome {T = Chunk} (cond b (Some (record { offset = read; bytes = take most p.1 })) None) (λ chunk. i < length chunk.bytes → slice_get chunk.bytes i ≡ byte_at (p ∷ ps) (chunk.offset + i))
    go true q = λ l.
        let big = h.0 in
        let full = h.1 in
        let same = eqb-true (start p) read q in
        let t = length-take most p.1 in
        let w = from_within (start p) p.1 (read + i) (omega arith) (omega arith) in
        let d : read + i - start p ≡ i = omega arith in
        get-take most i p.1 (omega arith) ∙ slice_get-get_or p.1 i 0 (omega arith) ∙ sym (rw (w, d) refl)
    go false q = tt

-- the bytes that are left of a part stand where they stood
cut_byte : (p : Part) (most o : ℕ) → length p.1 ≤ p.0 → most < length p.1 → start p + most ≤ o → byte_from (p.0 - length (drop most p.1)) (drop most p.1) o ≡ byte_from (start p) p.1 o
cut_byte p most o big l m =
    let d = length-drop most p.1 in
    let e1 : p.0 - length (drop most p.1) ≡ max (start p) (start p + most) = omega arith in
    let e2 : drop most p.1 ≡ drop (start p + most - start p) p.1 = ap (λ n. drop n p.1) (omega arith) in
    ap (λ n. byte_from n (drop most p.1) o) e1 ∙ ap (λ bs. byte_from (max (start p) (start p + most)) bs o) e2 ∙ from_back (start p) (start p + most) p.1 o m

none_both : (b : Bool) → None ≡ cond {A = Option ℕ} b None None
none_both true = refl
none_both false = refl

-- below what is read nothing waits
same_below : (b : Bool) (low o : ℕ) (ps : List Part) → AreApart low ps → ltb o low ≡ b → byte_at ps o ≡ cond b None (byte_at ps o)
same_below true low o ps h q = at_below low ps o h (ltb-true o low q)
same_below false low o ps h q = refl

left_whole : (b : Bool) (o : ℕ) (p : Part) (ps : List Part) → length p.1 ≤ p.0 → AreApart p.0 ps → ltb o p.0 ≡ b → byte_at ps o ≡ cond b None (byte_at (p ∷ ps) o)
left_whole true o p ps big h q = at_below p.0 ps o h (ltb-true o p.0 q)
left_whole false o p ps big h q =
    let k = ltb-false o p.0 q in
    let none = from_behind (start p) p.1 o (omega arith) in
    sym (rw none refl)

left_cut : (b : Bool) (most o : ℕ) (p : Part) (ps : List Part) → length p.1 ≤ p.0 → most < length p.1 → AreApart p.0 ps → ltb o (start p + most) ≡ b → byte_at ((p.0, drop most p.1) ∷ ps) o ≡ cond b None (byte_at (p ∷ ps) o)
left_cut true most o p ps big l h q =
    let k = ltb-true o (start p + most) q in
    let d = length-drop most p.1 in
    let none = from_below (p.0 - length (drop most p.1)) (drop most p.1) o (omega arith) in
    rw none (at_below p.0 ps o h (omega arith))
left_cut false most o p ps big l h q =
    let k = ltb-false o (start p + most) q in
    rw (cut_byte p most o big l k) refl

pub leaves_first : (read most o : ℕ) (p : Part) (ps : List Part) → AreApart read (p ∷ ps) → start p ≡ read → byte_at (shortened most p ps) o ≡ cond (ltb o (read + length (take most p.1))) None (byte_at (p ∷ ps) o)
leaves_first read most o p ps h same = go (ltb most (length p.1)) refl
  where
    go : (b : Bool) → ltb most (length p.1) ≡ b → byte_at (cond b ((p.0, drop most p.1) ∷ ps) ps) o ≡ cond (ltb o (read + length (take most p.1))) None (byte_at (p ∷ ps) o)
    go true q =
        let big = h.0 in
        let l = ltb-true most (length p.1) q in
        let t = length-take most p.1 in
        let e : read + length (take most p.1) ≡ start p + most = omega arith in
        rw e (left_cut (ltb o (start p + most)) most o p ps (omega arith) l h.2 refl)
    go false q =
        let big = h.0 in
        let l = ltb-false most (length p.1) q in
        let t = length-take most p.1 in
        let e : read + length (take most p.1) ≡ p.0 = omega arith in
        rw e (left_whole (ltb o p.0) o p ps (omega arith) h.2 refl)

pub leaves : (read most o : ℕ) (ps : List Part) → AreApart read ps → byte_at (left_by ps read most) o ≡ cond (ltb o (behind (given ps read most) read)) None (byte_at ps o)
leaves read most o [] h = none_both (ltb o read)
leaves read most o (p ∷ ps) h = go (start p == read) refl
  where
    go : (b : Bool) → (start p == read) ≡ b → byte_at (cond b (shortened most p ps) (p ∷ ps)) o ≡ cond (ltb o (behind (cond b (Some (record { offset = read; bytes = take most p.1 })) None) read)) None (byte_at (p ∷ ps) o)
    go true q = leaves_first read most o p ps h (eqb-true (start p) read q)
    go false q = same_below (ltb o read) read o (p ∷ ps) h refl
