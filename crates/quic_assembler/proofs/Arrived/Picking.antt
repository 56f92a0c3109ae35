-- An unordered read from the first part.
use Rattle.std.proofs.Common.{◌≡◌, ℕ, ◌+◌, ◌-◌, ◌^◌, ◌<◌, ◌≤◌, ltb, length, List, [], ◌∷◌, take, drop, Bool, true, false, not, ◌&&◌, ◌||◌, cond, Some, None, refl, sym, ◌∙◌, subst, arith, length-take, length-drop, get_or}
use Rattle.std.proofs.lemmas.Bool.{ltb-true}
use Rattle.quic_sets.specs.Spans.{Span, AreSpans, in_span, in_spans, next_span, IsFree, with_run, width_of}
use Rattle.quic_assembler.specs.Arrived.{Arrived, AreApart, IsLawful, byte_at, shortened, first_given, left_front, with_chunk, length_of, in_chunk}
use Rattle.quic_sets.specs.Parts.{Part, start}
use Rattle.quic_sets.proofs.Parts.Bytes.{from_within}
use Rattle.quic_assembler.proofs.Arrived.Claims.{leaves_first}
use Rattle.quic_assembler.proofs.Parts.Filled.{low_small}
use Rattle.quic_sets.proofs.Offsets.Spans.{free_of, run_in, run_spans, run_width}

parts_lower : (low m : ℕ) (ps : List Part) → AreApart low ps → m ≤ low → AreApart m ps
parts_lower low m [] h l = let k : low < 2 ^ 62 = h in omega arith
parts_lower low m (p ∷ ps) h l = let a = h.0 in (omega arith, h.1, h.2)

pub from_start : (low : ℕ) (p : Part) (ps : List Part) → AreApart low (p ∷ ps) → AreApart (start p) (p ∷ ps)
from_start low p ps h = let a = h.0 in (omega arith, h.1, h.2)

shorter_apart : (low most : ℕ) (p : Part) (ps : List Part) → AreApart low (p ∷ ps) → AreApart low (shortened most p ps)
shorter_apart low most p ps h = go (ltb most (length p.1)) refl
  where
    go : (b : Bool) → ltb most (length p.1) ≡ b → AreApart low (cond b ((p.0, drop most p.1) ∷ ps) ps)
    go true q =
        let a = h.0 in
        let k = ltb-true most (length p.1) q in
        let d = length-drop most p.1 in
        (omega arith, omega arith, h.2)
    go false q = let a = h.0 in parts_lower p.0 low ps h.2 (omega arith)

-- the offsets of a part were not given
pub part_clear : (low at len : ℕ) (p : Part) (ps : List Part) (gs : List Span) → AreApart low (p ∷ ps) → ((o : ℕ) → in_spans gs o ≡ true → byte_at (p ∷ ps) o ≡ None) → at ≡ start p → len ≤ length p.1 → (o : ℕ) → at ≤ o → o < at + len → in_spans gs o ≡ false
part_clear low at len p ps gs h f s l o j k = go (in_spans gs o) (f o)
  where
    big : low + length p.1 ≤ p.0
    big = h.0

    go : (b : Bool) → (b ≡ true → byte_at (p ∷ ps) o ≡ None) → b ≡ false
    go false e = refl
    go true e =
        let b = big in
        let w = from_within (start p) p.1 o (omega arith) (omega arith) in
        let yes : byte_at (p ∷ ps) o ≡ Some (get_or p.1 (o - start p) 0) = rw w refl in
        let none : byte_at (p ∷ ps) o ≡ None = e refl in
        let both : Some (get_or p.1 (o - start p) 0) ≡ None = sym yes ∙ none in
        cc

part_free : (low below at len : ℕ) (p : Part) (ps : List Part) (gs : List Span) → AreApart low (p ∷ ps) → AreSpans below gs → ((o : ℕ) → in_spans gs o ≡ true → byte_at (p ∷ ps) o ≡ None) → at ≡ start p → len ≤ length p.1 → 0 < len → IsFree (at + len) (next_span at gs)
part_free low below at len p ps gs h g f s l w = free_of below at (at + len) gs (omega arith) g (part_clear low at len p ps gs h f s l)

-- ---- by its parts
front_spans : (low most : ℕ) (p : Part) (ps : List Part) (gs : List Span) → AreApart low (p ∷ ps) → AreSpans low gs → ((o : ℕ) → in_spans gs o ≡ true → byte_at (p ∷ ps) o ≡ None) → AreSpans low (with_run (start p) (length (take most p.1)) gs)
front_spans low most p ps gs h g f =
    let a = h.0 in
    let t = length-take most p.1 in
    let s = low_small p.0 ps h.2 in
    run_spans low (start p) (length (take most p.1)) gs g (omega arith) (omega arith) (part_free low low (start p) (length (take most p.1)) p ps gs h g f refl (omega arith))

front_in : (low most o : ℕ) (p : Part) (ps : List Part) (gs : List Span) → AreApart low (p ∷ ps) → AreSpans low gs → ((o : ℕ) → in_spans gs o ≡ true → byte_at (p ∷ ps) o ≡ None) → in_spans (with_run (start p) (length (take most p.1)) gs) o ≡ (in_span o (start p + length (take most p.1), start p) || in_spans gs o)
front_in low most o p ps gs h g f =
    let a = h.0 in
    let t = length-take most p.1 in
    let s = low_small p.0 ps h.2 in
    run_in low (start p) (length (take most p.1)) o gs g (omega arith) (part_free low low (start p) (length (take most p.1)) p ps gs h g f refl (omega arith))

front_width : (low most : ℕ) (p : Part) (ps : List Part) (gs : List Span) → AreApart low (p ∷ ps) → AreSpans low gs → ((o : ℕ) → in_spans gs o ≡ true → byte_at (p ∷ ps) o ≡ None) → width_of (with_run (start p) (length (take most p.1)) gs) ≡ width_of gs + length (take most p.1)
front_width low most p ps gs h g f =
    let a = h.0 in
    let t = length-take most p.1 in
    let s = low_small p.0 ps h.2 in
    run_width low (start p) (length (take most p.1)) gs g (omega arith) (part_free low low (start p) (length (take most p.1)) p ps gs h g f refl (omega arith))

and_false : (b : Bool) → (b && false) ≡ false
and_false true = refl
and_false false = refl

front_others : (low most o : ℕ) (p : Part) (ps : List Part) (gs : List Span) → AreApart low (p ∷ ps) → AreSpans low gs → ((o : ℕ) → in_spans gs o ≡ true → byte_at (p ∷ ps) o ≡ None) → in_spans (with_run (start p) (length (take most p.1)) gs) o ≡ true → byte_at (shortened most p ps) o ≡ None
front_others low most o p ps gs h g f e = leaves_first (start p) most o p ps (from_start low p ps h) refl ∙ go (ltb o (start p + length (take most p.1))) (sym (front_in low most o p ps gs h g f) ∙ e)
  where
    go : (b : Bool) → ((not (ltb o (start p)) && b) || in_spans gs o) ≡ true → cond b None (byte_at (p ∷ ps) o) ≡ None
    go true e = refl
    go false e = f o (subst (λ b. (b || in_spans gs o) ≡ true) (and_false (not (ltb o (start p)))) e)

-- ---- as the call says it
pub pick_lawful : (a : Arrived) (most : ℕ) → a.unordered ≡ true → IsLawful a → IsLawful (record a { picked = with_chunk (first_given a.parts most) a.picked; parts = left_front a.parts most })
pick_lawful a most u h = record {
  apart = apart_of a.parts h.apart;
  spans = spans_of a.parts h.apart h.others;
  others = others_of a.parts h.apart h.others;
  order = λ e. differ (sym u ∙ e);
}
  where
    differ : true ≡ false → with_chunk (first_given a.parts most) a.picked ≡ []
    differ e = cc

    apart_of : (ps : List Part) → AreApart a.read ps → AreApart a.read (left_front ps most)
    apart_of [] l = l
    apart_of (p ∷ ps) l = shorter_apart a.read most p ps l

    spans_of : (ps : List Part) → AreApart a.read ps → ((o : ℕ) → in_spans a.picked o ≡ true → byte_at ps o ≡ None) → AreSpans a.read (with_chunk (first_given ps most) a.picked)
    spans_of [] l f = h.spans
    spans_of (p ∷ ps) l f = front_spans a.read most p ps a.picked l h.spans f

    others_of : (ps : List Part) → AreApart a.read ps → ((o : ℕ) → in_spans a.picked o ≡ true → byte_at ps o ≡ None) → (o : ℕ) → in_spans (with_chunk (first_given ps most) a.picked) o ≡ true → byte_at (left_front ps most) o ≡ None
    others_of [] l f o e = refl
    others_of (p ∷ ps) l f o e = front_others a.read most o p ps a.picked l h.spans f e

pub pick_width : (a : Arrived) (most : ℕ) → IsLawful a → width_of (with_chunk (first_given a.parts most) a.picked) ≡ width_of a.picked + length_of (first_given a.parts most)
pick_width a most h = go a.parts h.apart h.others
  where
    go : (ps : List Part) → AreApart a.read ps → ((o : ℕ) → in_spans a.picked o ≡ true → byte_at ps o ≡ None) → width_of (with_chunk (first_given ps most) a.picked) ≡ width_of a.picked + length_of (first_given ps most)
    go [] l f = omega arith
    go (p ∷ ps) l f = front_width a.read most p ps a.picked l h.spans f

pub pick_in : (a : Arrived) (most o : ℕ) → IsLawful a → in_spans (with_chunk (first_given a.parts most) a.picked) o ≡ (in_chunk (first_given a.parts most) o || in_spans a.picked o)
pick_in a most o h = go a.parts h.apart h.others
  where
    go : (ps : List Part) → AreApart a.read ps → ((o : ℕ) → in_spans a.picked o ≡ true → byte_at ps o ≡ None) → in_spans (with_chunk (first_given ps most) a.picked) o ≡ (in_chunk (first_given ps most) o || in_spans a.picked o)
    go [] l f = refl
    go (p ∷ ps) l f = front_in a.read most o p ps a.picked l h.spans f
