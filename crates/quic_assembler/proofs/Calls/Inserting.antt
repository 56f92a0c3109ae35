-- Bytes that come below what is read.
use Rattle.std.proofs.Common.{◌≡◌, ℕ, ◌+◌, ◌-◌, ltb, length, List, take, drop, take_all, length-drop, Bool, true, false, refl, sym, ◌∙◌, arith, max, min}
use Rattle.std.proofs.lemmas.List.{drop_all}
use Rattle.std.proofs.lemmas.Bool.{ltb-true, ltb-false}
use Rattle.std.specs.Result.{OnOk, OnErr}
use Rattle.std.specs.declared.result.Result.{Result}
use Rattle.std.specs.declared.result.Result.TheVariants.{Ok, Err}
use Rattle.quic_sets.specs.Spans.{Span}
use Rattle.quic_sets.specs.Parts.{Part}
use Rattle.quic_assembler.specs.Arrived.{with_free}
use Rattle.quic_assembler.proofs.Parts.Free.{free_none}

-- what is known of both answers is known
pub on_both : {A E P Q R : Type 0} (r : Result A E) → OnOk r P → OnErr r Q → (P → R) → (Q → R) → R
on_both (Ok x) p q f g = f p
on_both (Err e) p q f g = g q

pub all_behind : (k : ℕ) (bs : List ℕ) → take (length bs - k) (drop k bs) ≡ drop k bs
all_behind k bs = let d = length-drop k bs in take_all (length bs - k) (drop k bs) (omega arith)

-- only what is behind what is read is put in
pub known_free : (read offset known : ℕ) (gs : List Span) (ps : List Part) (bs : List ℕ) → known ≡ min (read - offset) (length bs) → with_free gs ps (offset + known) (take (length bs - known) (drop known bs)) ≡ with_free gs ps (max read offset) (drop (read - offset) bs)
known_free read offset known gs ps bs e = rw (all_behind known bs) (go (ltb (read - offset) (length bs)) refl)
  where
    go : (b : Bool) → ltb (read - offset) (length bs) ≡ b → with_free gs ps (offset + known) (drop known bs) ≡ with_free gs ps (max read offset) (drop (read - offset) bs)
    go true q =
        let l = ltb-true (read - offset) (length bs) q in
        let e1 : known ≡ read - offset = omega arith in
        let e2 : offset + (read - offset) ≡ max read offset = omega arith in
        rw (e1, e2) refl
    go false q =
        let l = ltb-false (read - offset) (length bs) q in
        let n1 = drop_all known bs (omega arith) in
        let n2 = drop_all (read - offset) bs l in
        rw (n1, n2) (free_none gs ps (offset + known) ∙ sym (free_none gs ps (max read offset)))
