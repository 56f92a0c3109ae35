-- A read from the first part.
use Rattle.std.proofs.Common.{◌≡◌, ℕ, ◌+◌, ◌^◌, ◌<◌, ltb, length, List, [], ◌∷◌, take, drop, Bool, true, false, cond, Some, None, Option, refl, sym, subst, arith, length-take, length-drop}
use Rattle.std.proofs.lemmas.Bool.{ltb-true, ltb-false, eqb-true}
use Rattle.quic_sets.specs.Parts.{Part, start}
use Rattle.quic_assembler.specs.Arrived.{AreApart, is_next, shortened, left_front}
use Rattle.quic_assembler.specs.PartSteps.{front_of}
use Rattle.quic_assembler.proofs.Parts.Filled.{low_small}

-- behind the bytes that were taken the parts lie as they did
left_apart : (low most : ℕ) (p : Part) (ps : List Part) → AreApart low (p ∷ ps) → start p ≡ low → AreApart (low + length (take most p.1)) (shortened most p ps)
left_apart low most p ps h same = go (ltb most (length p.1)) refl
  where
    go : (b : Bool) → ltb most (length p.1) ≡ b → AreApart (low + length (take most p.1)) (cond b ((p.0, drop most p.1) ∷ ps) ps)
    go true q =
        let big = h.0 in
        let l = ltb-true most (length p.1) q in
        let t = length-take most p.1 in
        let d = length-drop most p.1 in
        (omega arith, omega arith, h.2)
    go false q =
        let big = h.0 in
        let l = ltb-false most (length p.1) q in
        let t = length-take most p.1 in
        let e : low + length (take most p.1) ≡ p.0 = omega arith in
        subst (λ n. AreApart n ps) (sym e) h.2

-- ---- as the call says it
pub read_apart : (read most : ℕ) (ps ns : List Part) (bytes : List ℕ) → AreApart read ps → is_next ps read ≡ true → Some bytes ≡ front_of ps most → ns ≡ left_front ps most → AreApart (read + length bytes) ns
read_apart read most [] ns bytes h s e is = cc
read_apart read most (p ∷ ps) ns bytes h s e is =
    let same : bytes ≡ take most p.1 = cc in
    rw (same, is) (left_apart read most p ps h (eqb-true (start p) read s))

pub read_small : (read most : ℕ) (ps : List Part) (bytes : List ℕ) → AreApart read ps → is_next ps read ≡ true → Some bytes ≡ front_of ps most → read + length bytes < 2 ^ 62
read_small read most ps bytes h s e = low_small (read + length bytes) (left_front ps most) (read_apart read most ps (left_front ps most) bytes h s e refl)

-- bytes were taken only where the first part begins where the stream is read next
pub taken_next : (b : Bool) (o : Option (List ℕ)) (ps qs ns : List Part) (bytes : List ℕ) → Some bytes ≡ cond b o None → ns ≡ cond b qs ps → (b ≡ true) × (Some bytes ≡ o) × (ns ≡ qs)
taken_next true o ps qs ns bytes e is = (refl, e, is)
taken_next false o ps qs ns bytes e is = cc
