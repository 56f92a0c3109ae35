-- Where an insert has something to put in.
use Rattle.std.proofs.Common.{◌≡◌, ℕ, ◌+◌, ◌-◌, ◌<◌, ◌≤◌, ltb, length, List, [], ◌∷◌, take, drop, Bool, true, false, cond, Some, None, min, refl, sym, ap, ◌∙◌, subst, arith, ◌⊎◌, inl, inr, length-take, length-drop}
use Rattle.std.proofs.lemmas.Bool.{ltb-false, le-ltb}
use Rattle.quic_sets.specs.Spans.{Span, AreSpans, in_spans, next_span, spanned_at, free_at}
use Rattle.quic_sets.specs.Parts.{Part, start, after}
use Rattle.quic_assembler.specs.Arrived.{AreApart, byte_at, is_crowded}
use Rattle.quic_assembler.specs.PartSteps.{is_held, HasGap, HasFree}
use Rattle.quic_assembler.specs.Waiting.{BringsNew}
use Rattle.quic_sets.proofs.Parts.Bytes.{from_below, from_behind, from_within}
use Rattle.quic_assembler.proofs.Arrived.Bytes.{at_below}
use Rattle.quic_sets.proofs.Offsets.Spans.{in_below}
use Rattle.quic_assembler.proofs.Calls.Kept.{seen}
use Rattle.quic_assembler.proofs.Parts.Steps.{lt_from_free}

-- the second of two cases, as what it gives
pub on_second : {P Q R : Type 0} → (P ⊎ Q) → (Q → R) → P ⊎ R
on_second (inl p) f = inl p
on_second (inr q) f = inr (f q)

-- ---- one step over the parts

-- no byte waits at an offset that the first part behind it does not have
dry_before : (low at : ℕ) (ps : List Part) → AreApart low ps → is_held at (after at ps) ≡ false → byte_at ps at ≡ None
dry_before low at [] h b = refl
dry_before low at (p ∷ ps) h b = go (ltb at p.0) refl b (dry_before p.0 at ps h.2)
  where
    go : (c : Bool) → ltb at p.0 ≡ c → is_held at (cond c (Some p) (after at ps)) ≡ false → (is_held at (after at ps) ≡ false → byte_at ps at ≡ None) → byte_at (p ∷ ps) at ≡ None
    go true q b ih =
        let big = h.0 in
        let full = h.1 in
        let l = lt_from_free at p (sym b) in
        let e1 = from_below (start p) p.1 at l in
        let e2 = at_below p.0 ps at h.2 (omega arith) in
        rw (e1, e2) refl
    go false q b ih =
        let big = h.0 in
        let m = ltb-false at p.0 q in
        let e = from_behind (start p) p.1 at (omega arith) in
        rw (e, ih b) refl

pub dry_here : (at : ℕ) (a ps : List Part) (held : Bool) → ps ≡ a → AreApart 0 ps → held ≡ is_held at (after at ps) → held ≡ false → byte_at a at ≡ None
dry_here at a ps held v h b t = rw (← v) (dry_before 0 at ps h (sym b ∙ t))

-- ---- the steps of a frame: so far nothing changed, or there was a gap
pub gap_found : (at len taken : ℕ) (a s : List Part) → taken < len → (s ≡ a) ⊎ HasGap a at len → byte_at s (at + taken) ≡ None → HasGap a at len
gap_found at len taken a s l (inl e) d = record {
  offset = at + taken;
  above = omega arith;
  below = omega arith;
  dry = subst (λ (qs : List Part). byte_at qs (at + taken) ≡ None) e d;
}
gap_found at len taken a s l (inr g) d = g

-- ---- one step over what was given
free_out : (low at n len o : ℕ) (gs : List Span) → AreSpans low gs → n ≡ free_at at len (next_span at gs) → at ≤ o → o < at + n → in_spans gs o ≡ false
free_out low at n len o [] h e l m = refl
free_out low at n len o (g ∷ gs) h e l m = go (ltb at g.0) refl e (free_out (g.0 + 1) at n len o gs h.2)
  where
    go : (b : Bool) → ltb at g.0 ≡ b → n ≡ free_at at len (cond b (Some g) (next_span at gs)) → (n ≡ free_at at len (next_span at gs) → at ≤ o → o < at + n → in_spans gs o ≡ false) → in_spans (g ∷ gs) o ≡ false
    go true q e ih =
        let self : g.1 ≤ g.1 = omega arith in
        in_below g.1 o (g ∷ gs) (self, h.1, h.2) (omega arith)
    go false q e ih =
        let below = ltb-false at g.0 q in
        let full = h.1 in
        let t1 = le-ltb o g.1 (omega arith) in
        let t2 = le-ltb o g.0 (omega arith) in
        rw (t1, t2) (ih e l m)

pub free_here : (at len n : ℕ) (gs : List Span) (ps : List Part) (bs : List ℕ) (held : Bool) → AreSpans 0 gs → held ≡ false → n ≡ cond held (spanned_at at len (next_span at gs)) (free_at at len (next_span at gs)) → n ≤ length bs → HasGap ps at (length (take n bs)) → HasFree gs ps at (length bs)
free_here at len n gs ps bs held h t e w g =
    let n_is : n ≡ free_at at len (next_span at gs) = e ∙ ap (λ b. cond b (spanned_at at len (next_span at gs)) (free_at at len (next_span at gs))) t in
    let lt = length-take n bs in
    let a = g.above in
    let b = g.below in
    record {
      offset = g.offset;
      above = g.above;
      below = omega arith;
      outside = free_out 0 at n len g.offset gs h n_is g.above (omega arith);
      dry = g.dry;
    }

-- ---- the steps of a frame outside what was given
pub free_found : (at taken m : ℕ) (gs : List Span) (a s : List Part) (bs : List ℕ) → taken + m ≤ length bs → (s ≡ a) ⊎ HasFree gs a at (length bs) → HasFree gs s (at + taken) m → HasFree gs a at (length bs)
free_found at taken m gs a s bs l (inl e) f =
    let u = f.above in
    let v = f.below in
    record {
      offset = f.offset;
      above = omega arith;
      below = omega arith;
      outside = f.outside;
      dry = subst (λ (qs : List Part). byte_at qs f.offset ≡ None) e f.dry;
    }
free_found at taken m gs a s bs l (inr g) f = g

-- ---- as the call says it
new_there : (read offset known : ℕ) (u : Bool) (gs : List Span) (ps : List Part) (bs : List ℕ) → known ≡ min (read - offset) (length bs) → HasFree gs ps (offset + known) (length (take (length bs - known) (drop known bs))) → BringsNew (seen read u gs ps) offset bs
new_there read offset known u gs ps bs k f =
    let t = length-take (length bs - known) (drop known bs) in
    let d = length-drop known bs in
    let a = f.above in
    let b = f.below in
    let e1 = from_within offset bs f.offset (omega arith) (omega arith) in
    let e2 = le-ltb f.offset read (omega arith) in
    let e3 = f.outside in
    let e4 = f.dry in
    record {
      offset = f.offset;
      new = rw (e1, e2, e3, e4) refl;
    }

pub brings_new : (read offset known : ℕ) (u : Bool) (gs : List Span) (ps : List Part) (bs : List ℕ) → known ≡ min (read - offset) (length bs) → HasFree gs ps (offset + known) (length (take (length bs - known) (drop known bs))) ⊎ (is_crowded ps ≡ true) → BringsNew (seen read u gs ps) offset bs ⊎ (is_crowded ps ≡ true)
brings_new read offset known u gs ps bs k (inl f) = inl (new_there read offset known u gs ps bs k f)
brings_new read offset known u gs ps bs k (inr c) = inr c
