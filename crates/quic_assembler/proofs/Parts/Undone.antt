-- Parts that were put in, and are taken out again.
use Rattle.std.proofs.Common.{◌≡◌, ℕ, ◌+◌, ◌<◌, ltb, length, List, [], ◌∷◌, ◌++◌, Bool, true, false, cond, Some, None, take, length-take, refl, ap, ◌∙◌, arith}
use Rattle.std.specs.Ordering.{nat_cmp}
use Rattle.std.specs.Map.{lookup}
use Rattle.std.specs.BTreeMap.{insert_entry, is_at}
use Rattle.std.proofs.lemmas.Bool.{ltb-false}
use Rattle.quic_sets.specs.Parts.{Part, start, after, undone}
use Rattle.quic_assembler.specs.Arrived.{AreApart}
use Rattle.quic_assembler.specs.PartSteps.{Fits, is_held, held_at, gap_at}
use Rattle.quic_assembler.proofs.Parts.Filled.{none_below}
use Rattle.quic_sets.proofs.Parts.First.{not_at}
use Rattle.quic_assembler.proofs.Parts.Steps.{some_taken, free_fits}
use Rattle.quic_sets.proofs.Offsets.Undone.{undone_last, absent, taken_out}

-- no part ends where one in a gap would
pub fresh : (low at end : ℕ) (ps : List Part) → AreApart low ps → at < end → Fits end (after at ps) → lookup (is_at (nat_cmp end)) ps ≡ None
fresh low at end [] h l f = refl
fresh low at end (p ∷ ps) h l f = go (ltb at p.0) refl f (fresh p.0 at end ps h.2 l)
  where
    go : (b : Bool) → ltb at p.0 ≡ b → Fits end (cond b (Some p) (after at ps)) → (Fits end (after at ps) → lookup (is_at (nat_cmp end)) ps ≡ None) → lookup (is_at (nat_cmp end)) (p ∷ ps) ≡ None
    go true q f ih =
        let big = h.0 in
        let full = h.1 in
        none_below end (start p) (p ∷ ps) (omega arith, h.1, h.2) f
    go false q f ih =
        let below = ltb-false at p.0 q in
        let other : is_at (nat_cmp end) p.0 ≡ false = not_at end p.0 (λ e. omega arith) in
        rw other (ih f)

-- ---- as the call says it; `a` is what is seen of the map
pub put_back : (at len n : ℕ) (olds news : List ℕ) (a ps ns : List Part) (bs : List ℕ) (held : Bool) → ps ≡ a → AreApart 0 ps → 0 < length bs → held ≡ is_held at (after at ps) → held ≡ false → n ≡ cond held (held_at at len (after at ps)) (gap_at at len (after at ps)) → len ≡ length bs → news ≡ olds ++ (at + n) ∷ [] → ns ≡ insert_entry nat_cmp a (at + length (take n bs)) (take n bs) → undone news ns ≡ undone olds a
put_back at len n olds news a ps ns bs held v h l b t e k p is =
    let some = some_taken at len n ps bs held l b e k in
    let lt : length (take n bs) ≡ n = length-take n bs ∙ omega arith in
    let new = fresh 0 at (at + n) ps h (omega arith) (free_fits at len n (after at ps) held b t e) in
    rw (← v, p, is, lt) (undone_last olds (at + n) (insert_entry nat_cmp a (at + n) (take n bs)) ∙ ap (λ (qs : List Part). undone olds qs) (rw (← v) (taken_out (at + n) (take n bs) ps new)))

pub put_none : (at len n : ℕ) (olds news : List ℕ) (a ps ns : List Part) (bs : List ℕ) (held : Bool) → ps ≡ a → AreApart 0 ps → 0 < length bs → held ≡ is_held at (after at ps) → held ≡ false → n ≡ cond held (held_at at len (after at ps)) (gap_at at len (after at ps)) → len ≡ length bs → news ≡ olds ++ (at + n) ∷ [] → ns ≡ a → undone news ns ≡ undone olds a
put_none at len n olds news a ps ns bs held v h l b t e k p is =
    let some = some_taken at len n ps bs held l b e k in
    let new = fresh 0 at (at + n) ps h (omega arith) (free_fits at len n (after at ps) held b t e) in
    rw (p, is, ← v) (undone_last olds (at + n) ps ∙ ap (λ (qs : List Part). undone olds qs) (absent (is_at (nat_cmp (at + n))) ps new))
