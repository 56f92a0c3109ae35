-- What chunks that were read come to: a prefix where they follow one another, and all bytes where
-- they are as many.
use Rattle.std.proofs.Common.{◌≡◌, ℕ, zero, suc, ◌+◌, ◌-◌, ◌<◌, ◌≤◌, ◌⊎◌, inl, inr, ltb, length, List, [], ◌∷◌, ◌++◌, take, drop, Bool, true, false, cond, Some, refl, sym, ap, ◌∙◌, subst, arith, get_or, length-append, length-take, append_assoc, append-nil, take-append-drop, min}
use Rattle.std.specs.Prelude.{not, ◌&&◌, ◌||◌, slice_get}
use Rattle.std.proofs.lemmas.Bool.{ltb-true, ltb-false, cases_Bool, both_ways, or_parts, or_from}
use Rattle.std.proofs.lemmas.List.{take_at}
use Rattle.std.proofs.lemmas.List.Prefix.{at_from_reads}
use Rattle.std.proofs.lemmas.Option.{slice_get-get_or, slice_get_within, get_or_from_slice_get}
use Rattle.quic_assembler.specs.declared.assembler.Chunk.{Chunk}
use Rattle.quic_assembler.specs.Arrived.{in_chunk, count_to}
use Rattle.quic_assembler.specs.ArrivedHistory.{was_given}
use Rattle.quic_assembler.specs.Waiting.{end_of}
use Rattle.quic_sets.specs.Parts.{byte_from}
use Rattle.quic_sets.specs.Spans.{in_span}
use Rattle.quic_sets.proofs.Parts.Bytes.{get-take, get-drop, from_below, from_above}
use Rattle.quic_streams_laws.specs.Written.{StandsAt}
use Rattle.quic_streams_laws.specs.Reads.{bytes_of, AreSlices, AreDistinct, FollowOn, IsPrefix}

-- ---- bytes that stand among others

-- they end within them
pub stands_within : (all : List ℕ) (offset : ℕ) (bytes : List ℕ) → StandsAt all offset bytes → offset + length bytes ≤ length all
stands_within all offset bytes s =
    let whole : length all ≡ length ((s.before ++ bytes) ++ s.behind) = ap length (sym s.is) in
    let a = length-append (s.before ++ bytes) s.behind in
    let b = length-append s.before bytes in
    let c = s.place in
    omega arith

-- they stand in more bytes too
pub stands_more : (all rest more : List ℕ) (offset : ℕ) (bytes : List ℕ) → all ++ rest ≡ more → StandsAt all offset bytes → StandsAt more offset bytes
stands_more all rest more offset bytes e s = record {
  before = s.before;
  behind = s.behind ++ rest;
  is = sym (append_assoc (s.before ++ bytes) s.behind rest) ∙ (ap (λ z. z ++ rest) s.is ∙ e);
  place = s.place;
}

-- what stands in the bytes stands in more of them
pub get_more : (xs ys : List ℕ) (o b : ℕ) → slice_get xs o ≡ Some b → slice_get (xs ++ ys) o ≡ Some b
get_more xs ys o b e =
    let short = slice_get_within xs o b e in
    let same : take (length xs) (xs ++ ys) ≡ xs = take_at xs ys (length xs) refl in
    sym (get-take (length xs) o (xs ++ ys) short) ∙ ap (λ (z : List ℕ). slice_get z o) same ∙ e

-- so does each of them
pub stands_byte : (all : List ℕ) (offset : ℕ) (bytes : List ℕ) (o b : ℕ) → StandsAt all offset bytes → byte_from offset bytes o ≡ Some b → slice_get all o ≡ Some b
stands_byte all offset bytes o b s e = go (ltb o offset) refl
  where
    behind : drop offset (s.before ++ bytes) ≡ bytes
    behind = subst (λ n. drop n (s.before ++ bytes) ≡ bytes) s.place (dropped s.before bytes)
      where
        dropped : (xs ys : List ℕ) → drop (length xs) (xs ++ ys) ≡ ys
        dropped [] ys = refl
        dropped (x ∷ xs) ys = dropped xs ys

    go : (c : Bool) → ltb o offset ≡ c → slice_get all o ≡ Some b
    go true q = let none = from_below offset bytes o (ltb-true o offset q) in cc
    go false q =
        let le = ltb-false o offset q in
        let at : offset + (o - offset) ≡ o = omega arith in
        let here : slice_get bytes (o - offset) ≡ Some b = sym (from_above offset bytes o le) ∙ e in
        let there : slice_get (s.before ++ bytes) o ≡ Some b = ap (slice_get (s.before ++ bytes)) (sym at) ∙ (sym (get-drop offset (o - offset) (s.before ++ bytes)) ∙ (ap (λ z. slice_get z (o - offset)) behind ∙ here)) in
        subst (λ z. slice_get z o ≡ Some b) s.is (get_more (s.before ++ bytes) s.behind o b there)

-- bytes that are each the one there end within them, where they begin within
bytes_within : (all : List ℕ) (offset : ℕ) (bytes : List ℕ) → offset ≤ length all → ((i : ℕ) → i < length bytes → slice_get all (offset + i) ≡ slice_get bytes i) → offset + length bytes ≤ length all
bytes_within all offset [] w f = omega arith
bytes_within all offset (b ∷ bs) w f =
    let last = f (length bs) (omega arith) ∙ slice_get-get_or (b ∷ bs) (length bs) 0 (omega arith) in
    let inside = slice_get_within all (offset + length bs) (get_or (b ∷ bs) (length bs) 0) last in
    omega arith

-- so do bytes that are each the one there
pub stands_from : (all : List ℕ) (offset : ℕ) (bytes : List ℕ) → offset ≤ length all → ((i : ℕ) → i < length bytes → slice_get all (offset + i) ≡ slice_get bytes i) → StandsAt all offset bytes
stands_from all offset bytes w f =
    let fits = bytes_within all offset bytes w f in
    let same : drop offset all ≡ bytes ++ drop (offset + length bytes) all = at_from_reads 0 all bytes offset fits (λ i l. get_or_from_slice_get all (offset + i) (get_or bytes i 0) 0 (f i l ∙ slice_get-get_or bytes i 0 l)) in
    let front = length-take offset all in
    record {
      before = take offset all;
      behind = drop (offset + length bytes) all;
      is = append_assoc (take offset all) bytes (drop (offset + length bytes) all) ∙ (ap (λ (z : List ℕ). take offset all ++ z) (sym same) ∙ take-append-drop offset all);
      place = omega arith;
    }

-- ---- chunks

-- the bytes of chunks and of those behind them
pub bytes-append : (cs ds : List Chunk) → bytes_of (cs ++ ds) ≡ bytes_of cs ++ bytes_of ds
bytes-append [] ds = refl
bytes-append (c ∷ cs) ds = ap (λ z. c.bytes ++ z) (bytes-append cs ds) ∙ sym (append_assoc c.bytes (bytes_of cs) (bytes_of ds))

-- with one chunk more there are its bytes more
pub bytes-more : (cs : List Chunk) (c : Chunk) → bytes_of (cs ++ c ∷ []) ≡ bytes_of cs ++ c.bytes
bytes-more cs c = bytes-append cs (c ∷ []) ∙ ap (λ z. bytes_of cs ++ z) (append-nil c.bytes)

-- and as many more
pub length-more : (cs : List Chunk) (c : Chunk) → length (bytes_of (cs ++ c ∷ [])) ≡ length (bytes_of cs) + length c.bytes
length-more cs c = ap length (bytes-more cs c) ∙ length-append (bytes_of cs) c.bytes

or_false : (b : Bool) → (b || false) ≡ b
or_false true = refl
or_false false = refl

or_swap : (u v x : Bool) → (u || (v || x)) ≡ (v || (u || x))
or_swap true true x = refl
or_swap true false x = refl
or_swap false true x = refl
or_swap false false x = refl

-- with one chunk more there are its offsets more
pub given-more : (cs : List Chunk) (c : Chunk) (o : ℕ) → was_given (cs ++ c ∷ []) o ≡ (in_chunk (Some c) o || was_given cs o)
given-more [] c o = refl
given-more (d ∷ cs) c o = ap (λ b. in_chunk (Some d) o || b) (given-more cs c o) ∙ or_swap (in_chunk (Some d) o) (in_chunk (Some c) o) (was_given cs o)

-- one more that stands in them
pub slices_more : (all : List ℕ) (cs : List Chunk) (c : Chunk) → AreSlices all cs → StandsAt all c.offset c.bytes → AreSlices all (cs ++ c ∷ [])
slices_more all [] c a s = (s, tt)
slices_more all (d ∷ cs) c a s = (a.0, slices_more all cs c a.1 s)

-- they stand in more bytes too
pub slices_grow : (all rest more : List ℕ) (cs : List Chunk) → all ++ rest ≡ more → AreSlices all cs → AreSlices more cs
slices_grow all rest more [] e a = tt
slices_grow all rest more (c ∷ cs) e a = (stands_more all rest more c.offset c.bytes e a.0, slices_grow all rest more cs e a.1)

-- a chunk of offsets that were not given comes beside the others
pub distinct_more : (cs : List Chunk) (c : Chunk) → AreDistinct cs → ((o : ℕ) → in_chunk (Some c) o ≡ true → was_given cs o ≡ false) → AreDistinct (cs ++ c ∷ [])
distinct_more [] c a f = (λ o e. refl, tt)
distinct_more (d ∷ cs) c a f = (λ o e. given-more cs c o ∙ or_both (in_chunk (Some c) o) (was_given cs o) (apart o e) (a.0 o e), distinct_more cs c a.1 (λ o e. (or_parts (in_chunk (Some d) o) (was_given cs o) (f o e)).1))
  where
    or_both : (a b : Bool) → a ≡ false → b ≡ false → (a || b) ≡ false
    or_both a b e f = or_from a b e f

    apart : (o : ℕ) → in_chunk (Some d) o ≡ true → in_chunk (Some c) o ≡ false
    apart o e = elim (cases_Bool (in_chunk (Some c) o)) [
      | inl here ↦ absurd (both_ways (in_chunk (Some d) o) (or_parts (in_chunk (Some d) o) (was_given cs o) (f o here)).0 e)
      | inr not_here ↦ not_here
    ]

-- a chunk right behind the others follows on
pub follow_more : (offset : ℕ) (cs : List Chunk) (c : Chunk) → FollowOn offset cs → c.offset ≡ offset + length (bytes_of cs) → FollowOn offset (cs ++ c ∷ [])
follow_more offset [] c f e = (let same : c.offset ≡ offset = omega arith in same, tt)
follow_more offset (d ∷ cs) c f e =
    let here : d.offset ≡ offset = f.0 in
    let l = length-append d.bytes (bytes_of cs) in
    (f.0, follow_more (end_of d) cs c f.1 (omega arith))

-- chunks that follow one another, each at its offset, are what stands from there on
pub follow_stands : (all : List ℕ) (offset : ℕ) (cs : List Chunk) → offset ≤ length all → FollowOn offset cs → AreSlices all cs → StandsAt all offset (bytes_of cs)
follow_stands all offset [] le f a = stands_from all offset [] le (λ i l. absurd (omega arith))
follow_stands all offset (c ∷ cs) le f a =
    let s : StandsAt all c.offset c.bytes = a.0 in
    let place : length s.before ≡ offset = s.place ∙ f.0 in
    let w = stands_within all c.offset c.bytes s in
    let rest : StandsAt all (end_of c) (bytes_of cs) = follow_stands all (end_of c) cs w f.1 a.1 in
    let len = length-append s.before c.bytes in
    let p = rest.place in
    let q = s.place in
    let long : length (s.before ++ c.bytes) ≡ length rest.before = omega arith in
    let front : s.before ++ c.bytes ≡ rest.before = same_front (s.before ++ c.bytes) s.behind rest.before (bytes_of cs ++ rest.behind) long (s.is ∙ (sym rest.is ∙ append_assoc rest.before (bytes_of cs) rest.behind)) in
    record {
      before = s.before;
      behind = rest.behind;
      is = ap (λ z. z ++ rest.behind) (sym (append_assoc s.before c.bytes (bytes_of cs)) ∙ ap (λ z. z ++ bytes_of cs) front) ∙ rest.is;
      place = place;
    }
  where
    same_front : (xs ys us vs : List ℕ) → length xs ≡ length us → xs ++ ys ≡ us ++ vs → xs ≡ us
    same_front xs ys us vs l e = sym (take_at xs ys (length xs) refl) ∙ (ap (take (length xs)) e ∙ take_at us vs (length xs) (sym l))

-- chunks that follow one another from the first byte on are a prefix
pub follow_prefix : (all : List ℕ) (cs : List Chunk) → FollowOn 0 cs → AreSlices all cs → IsPrefix (bytes_of cs) all
follow_prefix all cs f a =
    let s : StandsAt all 0 (bytes_of cs) = follow_stands all 0 cs (omega arith) f a in
    record { rest = s.behind; is = ap (λ z. (z ++ bytes_of cs) ++ s.behind) (sym (none s.before s.place)) ∙ s.is }
  where
    none : (xs : List ℕ) → length xs ≡ 0 → xs ≡ []
    none [] e = refl
    none (x ∷ xs) e = absurd (omega arith)

-- ---- as many offsets as there are

-- of two tests that never hold both, either holds as often as both together
count-or : (f g : ℕ → Bool) (n : ℕ) → ((o : ℕ) → f o ≡ true → g o ≡ false) → count_to (λ o. f o || g o) n ≡ count_to f n + count_to g n
count-or f g zero apart = omega arith
count-or f g (suc n) apart = go (f n) (g n) refl refl (count-or f g n apart)
  where
    go : (a b : Bool) → f n ≡ a → g n ≡ b → count_to (λ o. f o || g o) n ≡ count_to f n + count_to g n → cond (a || b) 1 0 + count_to (λ o. f o || g o) n ≡ (cond a 1 0 + count_to f n) + (cond b 1 0 + count_to g n)
    go true true p q ih = absurd (both_ways (g n) (apart n p) q)
    go true false p q ih = omega arith
    go false true p q ih = omega arith
    go false false p q ih = omega arith

-- a test holds at no more offsets below a bound than there are
count_within : (f : ℕ → Bool) (n : ℕ) → count_to f n ≤ n
count_within f zero = omega arith
count_within f (suc n) = go (f n) (count_within f n)
  where
    go : (b : Bool) → count_to f n ≤ n → cond b 1 0 + count_to f n ≤ suc n
    go true le = omega arith
    go false le = omega arith

-- where it holds at as many, it holds at each
count_all : (f : ℕ → Bool) (n : ℕ) → count_to f n ≡ n → (o : ℕ) → o < n → f o ≡ true
count_all f zero e o lt = absurd (omega arith)
count_all f (suc n) e o lt = go (f n) refl e (count_within f n) (λ all below. count_all f n all o below)
  where
    at_or_below : (a b : ℕ) → a < suc b → (a ≡ b) ⊎ (a < b)
    at_or_below a b lt = elim (cases_Bool (ltb a b)) [
      | inl e ↦ inr (ltb-true a b e)
      | inr e ↦ let ge = ltb-false a b e in inl (omega arith)
    ]

    go : (b : Bool) → f n ≡ b → cond b 1 0 + count_to f n ≡ suc n → count_to f n ≤ n → (count_to f n ≡ n → o < n → f o ≡ true) → f o ≡ true
    go false is e le ih = absurd (omega arith)
    go true is e le ih = elim (at_or_below o n lt) [
      | inl same ↦ subst (λ x. f x ≡ true) (sym same) is
      | inr below ↦ ih (omega arith) below
    ]

-- and as often where it holds at each
pub count_full : (f : ℕ → Bool) (n : ℕ) → ((o : ℕ) → o < n → f o ≡ true) → count_to f n ≡ n
count_full f zero each = refl
count_full f (suc n) each =
    let ih : count_to f n ≡ n = count_full f n (λ o lt. each o (omega arith)) in
    let here : f n ≡ true = each n (omega arith) in
    rw here (omega arith)

-- how many offsets of a span lie below a bound
count_span : (low high n : ℕ) → count_to (λ o. in_span o (high, low)) n ≡ min n high - low
count_span low high zero = omega arith
count_span low high (suc n) = go (ltb n low) (ltb n high) refl refl (count_span low high n)
  where
    go : (a b : Bool) → ltb n low ≡ a → ltb n high ≡ b → count_to (λ o. in_span o (high, low)) n ≡ min n high - low → cond (not a && b) 1 0 + count_to (λ o. in_span o (high, low)) n ≡ min (suc n) high - low
    go true b p q ih = let lt = ltb-true n low p in omega arith
    go false true p q ih = let le = ltb-false n low p in let lt = ltb-true n high q in omega arith
    go false false p q ih = let ge = ltb-false n high q in omega arith

-- chunks that have no offset in common have as many as bytes
pub count_chunks : (all : List ℕ) (cs : List Chunk) → AreSlices all cs → AreDistinct cs → count_to (was_given cs) (length all) ≡ length (bytes_of cs)
count_chunks all [] a d = none (length all)
  where
    none : (n : ℕ) → count_to (λ o. false) n ≡ 0
    none zero = refl
    none (suc n) = let e = none n in omega arith
count_chunks all (c ∷ cs) a d =
    let w = stands_within all c.offset c.bytes a.0 in
    let here : count_to (in_chunk (Some c)) (length all) ≡ min (length all) (end_of c) - c.offset = count_span c.offset (end_of c) (length all) in
    let both : count_to (was_given (c ∷ cs)) (length all) ≡ count_to (in_chunk (Some c)) (length all) + count_to (was_given cs) (length all) = count-or (in_chunk (Some c)) (was_given cs) (length all) d.0 in
    let ih = count_chunks all cs a.1 d.1 in
    let l = length-append c.bytes (bytes_of cs) in
    omega arith

-- chunks that have as many bytes as were written, no offset twice, have each offset
pub all_read : (all : List ℕ) (cs : List Chunk) → AreSlices all cs → AreDistinct cs → length (bytes_of cs) ≡ length all → (o : ℕ) → o < length all → was_given cs o ≡ true
all_read all cs a d e = count_all (was_given cs) (length all) (count_chunks all cs a d ∙ e)
