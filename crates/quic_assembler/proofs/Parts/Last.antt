-- Bytes behind all parts: they are one part more.
use Rattle.std.proofs.Common.{◌≡◌, ℕ, suc, ◌+◌, ◌-◌, ◌<◌, ◌≤◌, length, List, [], ◌∷◌, take, drop, Bool, true, false, cond, Some, None, Option, refl, sym, ap, ◌∙◌, subst, arith, take_all}
use Rattle.std.specs.List.{slice_get}
use Rattle.std.specs.Option.{IfSome, is_some}
use Rattle.std.specs.Result.{OnErr, is_err}
use Rattle.std.specs.declared.result.Result.{Result}
use Rattle.std.specs.declared.result.Result.TheVariants.{Ok, Err}
use Rattle.std.specs.Ordering.{nat_cmp}
use Rattle.std.specs.Cmp.{unsigned_tied}
use Rattle.std.specs.Map.{lookup, remove_entry}
use Rattle.std.specs.BTreeMap.{insert_entry, is_at}
use Rattle.std.proofs.lemmas.List.{drop_all}
use Rattle.std.proofs.lemmas.Bool.{eq-eqb, le-ltb}
use Rattle.quic_sets.specs.Spans.{Span}
use Rattle.quic_sets.specs.Parts.{Part, after}
use Rattle.quic_assembler.specs.Arrived.{AreApart, byte_at, with_gaps}
use Rattle.quic_assembler.specs.PartSteps.{Fits, gap_at, is_held, HasFree}
use Rattle.quic_sets.proofs.Offsets.Undone.{taken_out}
use Rattle.quic_sets.proofs.Parts.First.{not_at}
use Rattle.quic_assembler.proofs.Parts.Gaps.{dry_here}
use Rattle.quic_assembler.proofs.Parts.Steps.{fills, none_left}
use Rattle.quic_assembler.proofs.Parts.Undone.{fresh}

-- where the last part ends up to an offset, none ends behind that
pub last_ends : (low at : ℕ) (x : Part) (ps : List Part) → AreApart low ps → slice_get ps (length ps - 1) ≡ Some x → x.0 ≤ at → (low < x.0) × (after at ps ≡ None)
last_ends low at x [] h e l = cc
last_ends low at x (p ∷ []) h e l =
    let same : x ≡ p = cc in
    let big = h.0 in
    let full = h.1 in
    let up : p.0 ≤ at = subst (λ (z : Part). z.0 ≤ at) same l in
    let e1 = le-ltb at p.0 up in
    rw same (omega arith, rw e1 refl)
last_ends low at x (p ∷ q ∷ qs) h e l =
    let big = h.0 in
    let full = h.1 in
    let place : length (p ∷ q ∷ qs) - 1 ≡ suc (length (q ∷ qs) - 1) = omega arith in
    let rest : slice_get (p ∷ q ∷ qs) (suc (length (q ∷ qs) - 1)) ≡ Some x = subst (λ n. slice_get (p ∷ q ∷ qs) n ≡ Some x) place e in
    let r = last_ends p.0 at x (q ∷ qs) h.2 rest l in
    let past = r.0 in
    let e1 = le-ltb at p.0 (omega arith) in
    (omega arith, rw e1 r.1)

-- a part ends where the last one does, and none behind it
pub last_found : (at : ℕ) (x : Part) (ps : List Part) → slice_get ps (length ps - 1) ≡ Some x → at ≡ x.0 → is_some (lookup (is_at (nat_cmp at)) ps) ≡ true
last_found at x [] e l = cc
last_found at x (p ∷ []) e l =
    let same : x ≡ p = cc in
    rw (unsigned_tied at p.0 ∙ eq-eqb at p.0 (l ∙ ap (λ (z : Part). z.0) same)) refl
last_found at x (p ∷ q ∷ qs) e l =
    let place : length (p ∷ q ∷ qs) - 1 ≡ suc (length (q ∷ qs) - 1) = omega arith in
    let rest : slice_get (p ∷ q ∷ qs) (suc (length (q ∷ qs) - 1)) ≡ Some x = subst (λ n. slice_get (p ∷ q ∷ qs) n ≡ Some x) place e in
    go (is_at (nat_cmp at) p.0) (last_found at x (q ∷ qs) rest l)
  where
    go : (b : Bool) → is_some (lookup (is_at (nat_cmp at)) (q ∷ qs)) ≡ true → is_some (cond b (Some p.1) (lookup (is_at (nat_cmp at)) (q ∷ qs))) ≡ true
    go true r = refl
    go false r = r

pub last_passed : (low at : ℕ) (x : Part) (ps : List Part) → AreApart low ps → slice_get ps (length ps - 1) ≡ Some x → x.0 < at → lookup (is_at (nat_cmp at)) ps ≡ None
last_passed low at x [] h e l = cc
last_passed low at x (p ∷ []) h e l =
    let same : x ≡ p = cc in
    let up : p.0 < at = subst (λ (z : Part). z.0 < at) same l in
    rw (not_at at p.0 (λ k. omega arith)) refl
last_passed low at x (p ∷ q ∷ qs) h e l =
    let place : length (p ∷ q ∷ qs) - 1 ≡ suc (length (q ∷ qs) - 1) = omega arith in
    let rest : slice_get (p ∷ q ∷ qs) (suc (length (q ∷ qs) - 1)) ≡ Some x = subst (λ n. slice_get (p ∷ q ∷ qs) n ≡ Some x) place e in
    let up : p.0 < x.0 = (last_ends p.0 at x (q ∷ qs) h.2 rest (omega arith)).0 in
    rw (not_at at p.0 (λ k. omega arith)) (last_passed p.0 at x (q ∷ qs) h.2 rest l)

pub put_last : (at : ℕ) (ps : List Part) (bs : List ℕ) → AreApart 0 ps → 0 < length bs → after at ps ≡ None → with_gaps ps at bs ≡ insert_entry nat_cmp ps (at + length bs) bs
put_last at ps bs h l e =
    let t : take (length bs) bs ≡ bs = take_all (length bs) bs (omega arith) in
    let d : drop (length bs) bs ≡ [] = drop_all (length bs) bs (omega arith) in
    fills 0 at (length bs) ps bs h l (sym (ap (λ (o : Option Part). gap_at at (length bs) o) e)) ∙ rw (t, d) (none_left (insert_entry nat_cmp ps (at + length bs) bs) (at + length bs))

-- ---- as the call says it
-- it is taken out again
pub last_back : (at : ℕ) (ps ms ns : List Part) (bs : List ℕ) → AreApart 0 ps → 0 < length bs → after at ps ≡ None → ms ≡ insert_entry nat_cmp ps (at + length bs) bs → ns ≡ ms → remove_entry (is_at (nat_cmp (at + length bs))) ns ≡ ps
last_back at ps ms ns bs h l e put same = rw (same, put) (taken_out (at + length bs) bs ps (fresh 0 at (at + length bs) ps h (omega arith) (subst (λ (o : Option Part). Fits (at + length bs) o) (sym e) tt)))

pub last_dry : (r : Option ℕ) (at : ℕ) (ps : List Part) → AreApart 0 ps → IfSome r (λ n. after at ps ≡ None) → IfSome r (λ n. byte_at ps at ≡ None)
last_dry None at ps h e = tt
last_dry (Some n) at ps h e = dry_here at ps ps false refl h (sym (ap (λ (o : Option Part). is_held at o) e)) refl

pub last_free : (at len : ℕ) (gs : List Span) (ps : List Part) → gs ≡ [] → 0 < len → byte_at ps at ≡ None → HasFree gs ps at len
last_free at len gs ps e l d = record {
  offset = at;
  above = omega arith;
  below = omega arith;
  outside = rw e refl;
  dry = d;
}

-- what is known of an error is known where there is one
pub when_error : {A E P : Type 0} (r : Result A E) → is_err r ≡ true → OnErr r P → P
when_error (Ok x) e p = cc
when_error (Err y) e p = p
