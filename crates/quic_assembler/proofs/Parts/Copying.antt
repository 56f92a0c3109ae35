-- What a join copies.
use Rattle.std.proofs.Common.{◌≡◌, ℕ, ◌+◌, ◌-◌, ◌*◌, ◌≤◌, ltb, length, List, [], ◌∷◌, Bool, true, false, ◌&&◌, refl, ap, ◌∙◌, arith, length-append}
use Rattle.std.proofs.lemmas.Bool.{ltb-true, leb-true}
use Rattle.quic_sets.specs.Parts.{Part, bytes_of}
use Rattle.quic_assembler.specs.Arrived.{AreApart, runs_of, waiting_bytes, are_short, is_crowded, joined}
use Rattle.quic_assembler.specs.declared.assembler.parts.TheConstants.{MOST_PARTS, SHORT_PART}
use Rattle.quic_assembler.proofs.Parts.Joining.{joined_length, joined_runs}

bytes_waiting : (ps : List Part) → length (bytes_of ps) ≡ waiting_bytes ps
bytes_waiting [] = refl
bytes_waiting (p ∷ ps) = length-append p.1 (bytes_of ps) ∙ ap (λ n. length p.1 + n) (bytes_waiting ps)

both : (a b : Bool) → (a && b) ≡ true → (a ≡ true) × (b ≡ true)
both true true e = (refl, refl)
both true false e = cc
both false b e = cc

pub copies_little : (low : ℕ) (ps : List Part) → AreApart low ps → is_crowded ps ≡ true → length (bytes_of ps) ≤ 128 * (length ps - length (joined ps))
copies_little low ps h crowded =
    let rest = both (ltb (runs_of ps) (length ps - runs_of ps)) (are_short ps) (both (ltb MOST_PARTS (length ps)) _ crowded).1 in
    let many = ltb-true (runs_of ps) (length ps - runs_of ps) rest.0 in
    let short : waiting_bytes ps ≤ 64 * length ps = leb-true (waiting_bytes ps) (SHORT_PART * length ps) rest.1 in
    let few = bytes_waiting ps in
    let count = joined_length ps ∙ joined_runs low ps h in
    omega (arith, many, short, few, count)
