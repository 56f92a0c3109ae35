-- The bytes of parts, one by one.
use Rattle.std.proofs.Common.{◌≡◌, ℕ, ◌+◌, ◌-◌, ◌<◌, ltb, length, List, [], ◌∷◌, take, drop, Bool, true, false, cond, Some, None, Option, refl, sym, ◌∙◌, arith, max, ◌==◌, ◌⊎◌, inl, inr}
use Rattle.std.specs.List.{slice_get}
use Rattle.std.specs.Option.{option_or, is_some}
use Rattle.std.proofs.lemmas.Bool.{ltb-true, ltb-false, eqb-true, eqb-false, cases_order}
use Rattle.std.proofs.lemmas.Option.{slice_get_past}
use Rattle.quic_sets.specs.Parts.{Part, start, byte_from}
use Rattle.quic_assembler.specs.Arrived.{AreApart, byte_at, with_part, with_gaps, is_next}
use Rattle.quic_sets.proofs.Parts.Bytes.{from_below, from_behind, from_within, from_front, from_front_behind, from_back}

-- ---- the byte at an offset of parts
pub at_below : (low : ℕ) (ps : List Part) (o : ℕ) → AreApart low ps → o < low → byte_at ps o ≡ None
at_below low [] o h l = refl
at_below low (p ∷ ps) o h l =
    let big = h.0 in
    let full = h.1 in
    rw (from_below (start p) p.1 o (omega arith)) (at_below p.0 ps o h.2 (omega arith))

at_part : (at : ℕ) (bs : List ℕ) (ps : List Part) (o : ℕ) → byte_at (with_part at bs ps) o ≡ option_or (byte_from at bs o) (byte_at ps o)
at_part at [] ps o = sym (rw (none_of (ltb o at)) refl)
  where
    none_of : (b : Bool) → cond b None (slice_get {X = ℕ} [] (o - at)) ≡ None
    none_of true = refl
    none_of false = slice_get_past [] (o - at) (omega arith)
at_part at (b ∷ bs) ps o = let s : at + length (b ∷ bs) - length (b ∷ bs) ≡ at = omega arith in rw s refl

pub or_none : (o : Option ℕ) → option_or o None ≡ o
or_none None = refl
or_none (Some x) = refl

-- an insert: the byte that waited stands, and else the one that came
pub at_gaps : (low : ℕ) (ps : List Part) (at : ℕ) (bs : List ℕ) (o : ℕ) → AreApart low ps → byte_at (with_gaps ps at bs) o ≡ option_or (byte_at ps o) (byte_from at bs o)
at_gaps low [] at bs o h = at_part at bs [] o ∙ or_none (byte_from at bs o)
at_gaps low (p ∷ ps) at bs o h = at_part at (take (start p - at) bs) (p ∷ with_gaps ps (max at p.0) (drop (p.0 - at) bs)) o ∙ go (ltb o (start p)) refl (ltb o p.0) refl (at_gaps p.0 ps (max at p.0) (drop (p.0 - at) bs) o h.2)
  where
    go : (b : Bool) → ltb o (start p) ≡ b → (c : Bool) → ltb o p.0 ≡ c → byte_at (with_gaps ps (max at p.0) (drop (p.0 - at) bs)) o ≡ option_or (byte_at ps o) (byte_from (max at p.0) (drop (p.0 - at) bs) o)
        → option_or (byte_from at (take (start p - at) bs) o) (option_or (byte_from (start p) p.1 o) (byte_at (with_gaps ps (max at p.0) (drop (p.0 - at) bs)) o)) ≡ option_or (option_or (byte_from (start p) p.1 o) (byte_at ps o)) (byte_from at bs o)
    go true q c r ih =
        let k = ltb-true o (start p) q in
        let e1 = from_front at (start p) bs o k in
        let e2 = from_below (start p) p.1 o k in
        let e3 = at_below p.0 ps o h.2 (omega arith) in
        let e4 = from_below (max at p.0) (drop (p.0 - at) bs) o (omega arith) in
        rw (ih, e1, e2, e3, e4) (or_none (byte_from at bs o))
    go false q true r ih =
        let big = h.0 in
        let k = ltb-false o (start p) q in
        let m = ltb-true o p.0 r in
        let e1 = from_front_behind at (start p) bs o k in
        let e2 = from_within (start p) p.1 o k (omega arith) in
        rw (e1, e2) refl
    go false q false r ih =
        let big = h.0 in
        let k = ltb-false o (start p) q in
        let m = ltb-false o p.0 r in
        let e1 = from_front_behind at (start p) bs o k in
        let e2 = from_behind (start p) p.1 o (omega arith) in
        let e3 = from_back at p.0 bs o m in
        rw (e1, e2, ih, e3) refl

-- ---- where the stream is read next
pub next_waits : (read : ℕ) (ps : List Part) → AreApart read ps → is_next ps read ≡ is_some (byte_at ps read)
next_waits read [] h = refl
next_waits read (p ∷ ps) h = go (start p == read) refl
  where
    go : (b : Bool) → (start p == read) ≡ b → b ≡ is_some (byte_at (p ∷ ps) read)
    go true q =
        let big = h.0 in
        let full = h.1 in
        let same = eqb-true (start p) read q in
        let e = from_within (start p) p.1 read (omega arith) (omega arith) in
        rw e refl
    go false q =
        let big = h.0 in
        let full = h.1 in
        let other = eqb-false (start p) read q in
        let below : read < start p = below_of (cases_order read (start p)) in
        let e1 = from_below (start p) p.1 read below in
        let e2 = at_below p.0 ps read h.2 (omega arith) in
        rw (e1, e2) refl
      where
        below_of : (read ≡ start p) ⊎ ((read < start p) ⊎ (start p < read)) → read < start p
        below_of (inl e) = absurd (eqb-false (start p) read q (sym e))
        below_of (inr (inl l)) = l
        below_of (inr (inr l)) = absurd (omega (arith, h.0))
