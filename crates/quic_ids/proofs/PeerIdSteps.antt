-- Known ids, ascending, and the places where they are kept.
use Rattle.std.proofs.Common.{◌≡◌, ℕ, zero, suc, ◌+◌, ◌-◌, ◌<◌, ◌≤◌, ◌⊎◌, min, Bool, true, false, cond, leb, List, [], ◌∷◌, ◌++◌, length, drop, get_or, set, replicate, add-one, drop-cons, Option, Some, None, refl, sym, ap, ◌∙◌, subst, arith, inl, inr}
use Rattle.std.specs.List.{cons_option}
use Rattle.std.proofs.lemmas.Bool.{leb-false, lt-ltb, le-ltb, le-leb, lt-leb, eq-eqb, ne_eqb, cases_lt}
use Rattle.std.proofs.lemmas.List.{length-append, drop_all, length-drop, length-replicate}
use Rattle.quic_wire_core.specs.declared.shared.IssuedCid.{IssuedCid}
use Rattle.quic_ids.specs.CidQueue.{PeerIds, AscendWithin, IsWindow, kept_ids, from, least_from, with_cid, known_with, switched_to, known_from, used_from, first_used, retired_for, retired_up_to, known_in, AreAtNumbers}

-- ---- ascending ids

pub lower : (cs : List IssuedCid) (a b end : ℕ) → a ≤ b → AscendWithin cs b end → AscendWithin cs a end
lower [] a b end le h = tt
lower (c ∷ cs) a b end le h = (omega (arith, h.0), h.1, h.2)

-- all of them are from n on
pub from_all : (cs : List IssuedCid) (n first end : ℕ) → n ≤ first → AscendWithin cs first end → from n cs ≡ cs
from_all [] n first end le h = refl
from_all (c ∷ cs) n first end le h =
    let low = h.0 in
    let rest = from_all cs n (c.sequence + 1) end (omega arith) h.2 in
    rw (le-leb n c.sequence (omega arith)) (ap (λ (l : List IssuedCid). c ∷ l) rest)

-- none is
pub from_none : (cs : List IssuedCid) (n first end : ℕ) → end ≤ n → AscendWithin cs first end → from n cs ≡ []
from_none [] n first end le h = refl
from_none (c ∷ cs) n first end le h =
    let high = h.1 in
    rw (lt-leb n c.sequence (omega arith)) (from_none cs n (c.sequence + 1) end le h.2)

-- where none is from n on, none is from further on
pub nothing_from : (cs : List IssuedCid) (n m : ℕ) → n ≤ m → least_from n cs ≡ None → from m cs ≡ []
nothing_from [] n m le f = refl
nothing_from (e ∷ es) n m le f = go (leb n e.sequence) refl f (nothing_from es n m le)
  where
    go : (b : Bool) → leb n e.sequence ≡ b → cond b (Some e) (least_from n es) ≡ None → (least_from n es ≡ None → from m es ≡ []) → cond (leb m e.sequence) (e ∷ from m es) (from m es) ≡ []
    go true q f ih = cc
    go false q f ih = let low = leb-false n e.sequence q in rw (lt-leb m e.sequence (omega arith)) (ih f)

-- the least is one of them
pub found_above : (cs : List IssuedCid) (n first end : ℕ) (c : IssuedCid) → AscendWithin cs first end → least_from n cs ≡ Some c → (first ≤ c.sequence) × (c.sequence < end)
found_above [] n first end c h f = cc
found_above (e ∷ es) n first end c h f = go (leb n e.sequence) refl f (found_above es n (e.sequence + 1) end c h.2)
  where
    go : (b : Bool) → leb n e.sequence ≡ b → cond b (Some e) (least_from n es) ≡ Some c → (least_from n es ≡ Some c → (e.sequence + 1 ≤ c.sequence) × (c.sequence < end)) → (first ≤ c.sequence) × (c.sequence < end)
    go true q f ih = let same : e ≡ c = cc in let P : IssuedCid → Type 0 = λ z. (first ≤ z.sequence) × (z.sequence < end) in subst P same (h.0, h.1)
    go false q f ih = let b = ih f in (omega (arith, h.0, b.0), b.1)

-- and all from it on are the others
pub found_first : (cs : List IssuedCid) (n m first end : ℕ) (c : IssuedCid) → AscendWithin cs first end → least_from n cs ≡ Some c → n ≤ m → m ≤ c.sequence → from m cs ≡ c ∷ from (c.sequence + 1) cs
found_first [] n m first end c h f nm mc = cc
found_first (e ∷ es) n m first end c h f nm mc = go (leb n e.sequence) refl f (λ g. found_first es n m (e.sequence + 1) end c h.2 g nm mc)
  where
    P : IssuedCid → Type 0
    P z = cond (leb m e.sequence) (e ∷ from m es) (from m es) ≡ z ∷ from (z.sequence + 1) (e ∷ es)

    go : (b : Bool) → leb n e.sequence ≡ b → cond b (Some e) (least_from n es) ≡ Some c → (least_from n es ≡ Some c → from m es ≡ c ∷ from (c.sequence + 1) es) → cond (leb m e.sequence) (e ∷ from m es) (from m es) ≡ c ∷ from (c.sequence + 1) (e ∷ es)
    go true q f ih =
        let same : e ≡ c = cc in
        let seq : e.sequence ≡ c.sequence = ap (λ (z : IssuedCid). z.sequence) same in
        let rest : from m es ≡ from (e.sequence + 1) es = from_all es m (e.sequence + 1) end (omega arith) h.2 ∙ sym (from_all es (e.sequence + 1) (e.sequence + 1) end (omega arith) h.2) in
        let at_e : P e = rw (le-leb m e.sequence (omega arith), lt-leb (e.sequence + 1) e.sequence (omega arith)) (ap (λ (l : List IssuedCid). e ∷ l) rest) in
        subst P same at_e
    go false q f ih =
        let low = leb-false n e.sequence q in
        rw (lt-leb m e.sequence (omega arith), lt-leb (c.sequence + 1) e.sequence (omega arith)) (ih f)

-- ---- one more id

pub with_first : (cs : List IssuedCid) (c : IssuedCid) (end : ℕ) → AscendWithin cs (c.sequence + 1) end → with_cid cs c ≡ c ∷ cs
with_first [] c end h = refl
with_first (e ∷ es) c end h = let low = h.0 in rw (lt-ltb c.sequence e.sequence (omega arith)) refl

pub with_same : (e c : IssuedCid) (es : List IssuedCid) → e.sequence ≡ c.sequence → with_cid (e ∷ es) c ≡ c ∷ es
with_same e c es same = rw (le-ltb c.sequence e.sequence (omega arith), eq-eqb c.sequence e.sequence (sym same)) refl

pub with_behind : (e c : IssuedCid) (es : List IssuedCid) → e.sequence < c.sequence → with_cid (e ∷ es) c ≡ e ∷ with_cid es c
with_behind e c es less = rw (le-ltb c.sequence e.sequence (omega arith), ne_eqb c.sequence e.sequence (λ same. omega arith)) refl

with_before : (e c : IssuedCid) (es : List IssuedCid) → c.sequence < e.sequence → with_cid (e ∷ es) c ≡ c ∷ e ∷ es
with_before e c es less = rw (lt-ltb c.sequence e.sequence less) refl

-- ---- the places

pub window_kept : (slots : List (Option IssuedCid)) (n end : ℕ) → AreAtNumbers slots n → end ≡ n + length slots → AscendWithin (known_in slots) n end
window_kept [] n end h e = tt
window_kept (None ∷ slots) n end h e = lower (known_in slots) n (n + 1) end (omega arith) (window_kept slots (n + 1) end h.1 (omega arith))
window_kept (Some c ∷ slots) n end h e =
    let at = h.0 in
    let P : ℕ → Type 0 = λ k. AscendWithin (known_in slots) (k + 1) end in
    (omega arith, omega arith, subst P (sym at) (window_kept slots (n + 1) end h.1 (omega arith)))

pub at_set : (slots : List (Option IssuedCid)) (n i : ℕ) (c : IssuedCid) → AreAtNumbers slots n → c.sequence ≡ n + i → AreAtNumbers (set slots i (Some c)) n
at_set [] n i c h e = tt
at_set (slot ∷ slots) n zero c h e = (omega arith, h.1)
at_set (slot ∷ slots) n (suc i) c h e = (h.0, at_set slots (n + 1) i c h.1 (omega arith))

pub known_set : (slots : List (Option IssuedCid)) (n i : ℕ) (c : IssuedCid) → AreAtNumbers slots n → c.sequence ≡ n + i → i < length slots → known_in (set slots i (Some c)) ≡ with_cid (known_in slots) c
known_set [] n i c h e l = absurd (omega arith)
known_set (None ∷ slots) n zero c h e l =
    let rest = window_kept slots (n + 1) (n + 1 + length slots) h.1 refl in
    let P : ℕ → Type 0 = λ k. AscendWithin (known_in slots) k (n + 1 + length slots) in
    let same : n + 1 ≡ c.sequence + 1 = omega arith in
    sym (with_first (known_in slots) c (n + 1 + length slots) (subst P same rest))
known_set (Some d ∷ slots) n zero c h e l = let at = h.0 in sym (with_same d c (known_in slots) (omega arith))
known_set (None ∷ slots) n (suc i) c h e l = known_set slots (n + 1) i c h.1 (omega arith) (omega arith)
known_set (Some d ∷ slots) n (suc i) c h e l =
    let at = h.0 in
    let ih = known_set slots (n + 1) i c h.1 (omega arith) (omega arith) in
    ap (λ (l : List IssuedCid). d ∷ l) ih ∙ sym (with_behind d c (known_in slots) (omega arith))

-- an id above the one in use becomes known
pub known_above : (active : ℕ) (id : List ℕ) (cs ds : List IssuedCid) (ids : PeerIds) (c : IssuedCid) → record { active = active; id = id; later = cs } ≡ ids → (c.sequence ≡ active → ⊥) → ds ≡ with_cid cs c
    → record { active = active; id = id; later = ds } ≡ known_with ids c
known_above active id cs ds ids c seen other is =
    let R : List IssuedCid → PeerIds = λ l. record { active = active; id = id; later = l } in
    let put : R ds ≡ known_with (R cs) c = ap R is ∙ rw (ne_eqb c.sequence active other) refl in
    put ∙ ap (λ (m : PeerIds). known_with m c) seen

-- ---- the places move

at_nones : (d n : ℕ) → AreAtNumbers (replicate d None) n
at_nones zero n = tt
at_nones (suc d) n = (tt, at_nones d (n + 1))

at_append : (xs : List (Option IssuedCid)) (d n : ℕ) → AreAtNumbers xs n → AreAtNumbers (xs ++ replicate d None) n
at_append [] d n h = at_nones d n
at_append (x ∷ xs) d n h = (h.0, at_append xs d (n + 1) h.1)

at_drop : (slots : List (Option IssuedCid)) (d n m : ℕ) → AreAtNumbers slots n → m ≡ n + d → AreAtNumbers (drop d slots) m
at_drop slots zero n m h e = let same : n ≡ m = omega arith in let P : ℕ → Type 0 = λ k. AreAtNumbers slots k in subst P same h
at_drop [] (suc d) n m h e = tt
at_drop (slot ∷ slots) (suc d) n m h e = at_drop slots d (n + 1) m h.1 (omega arith)

known_nones : (d : ℕ) → known_in (replicate d None) ≡ []
known_nones zero = refl
known_nones (suc d) = known_nones d

known_append : (xs : List (Option IssuedCid)) (d : ℕ) → known_in (xs ++ replicate d None) ≡ known_in xs
known_append [] d = known_nones d
known_append (None ∷ xs) d = known_append xs d
known_append (Some c ∷ xs) d = ap (λ (l : List IssuedCid). c ∷ l) (known_append xs d)

known_drop : (slots : List (Option IssuedCid)) (d n m : ℕ) → AreAtNumbers slots n → m ≡ n + d → known_in (drop d slots) ≡ from m (known_in slots)
known_drop slots zero n m h e = sym (from_all (known_in slots) m n (n + length slots) (omega arith) (window_kept slots n (n + length slots) h refl))
known_drop [] (suc d) n m h e = refl
known_drop (None ∷ slots) (suc d) n m h e = known_drop slots d (n + 1) m h.1 (omega arith)
known_drop (Some c ∷ slots) (suc d) n m h e =
    let at = h.0 in
    rw (lt-leb m c.sequence (omega arith)) (known_drop slots d (n + 1) m h.1 (omega arith))

-- behind the id of number m the places begin at m + 1
pub at_moved : (slots : List (Option IssuedCid)) (d n m : ℕ) → AreAtNumbers slots n → d ≡ min (m + 1 - n) (length slots) → n ≤ m + 1 → AreAtNumbers (drop d slots ++ replicate d None) (m + 1)
at_moved slots d n m h e le = at_append (drop d slots) d (m + 1) (go (cases_lt (length slots) (m + 1 - n)))
  where
    go : (length slots < m + 1 - n) ⊎ (m + 1 - n ≤ length slots) → AreAtNumbers (drop d slots) (m + 1)
    go (inl far) = let gone : drop d slots ≡ [] = drop_all d slots (omega arith) in let P : List (Option IssuedCid) → Type 0 = λ l. AreAtNumbers l (m + 1) in subst P (sym gone) tt
    go (inr near) = at_drop slots d n (m + 1) h (omega arith)

pub known_moved : (slots : List (Option IssuedCid)) (d n m : ℕ) → AreAtNumbers slots n → d ≡ min (m + 1 - n) (length slots) → n ≤ m + 1 → known_in (drop d slots ++ replicate d None) ≡ from (m + 1) (known_in slots)
known_moved slots d n m h e le = known_append (drop d slots) d ∙ go (cases_lt (length slots) (m + 1 - n))
  where
    go : (length slots < m + 1 - n) ⊎ (m + 1 - n ≤ length slots) → known_in (drop d slots) ≡ from (m + 1) (known_in slots)
    go (inl far) =
        let gone : drop d slots ≡ [] = drop_all d slots (omega arith) in
        ap (λ (l : List (Option IssuedCid)). known_in l) gone ∙ sym (from_none (known_in slots) (m + 1) n (n + length slots) (omega arith) (window_kept slots n (n + length slots) h refl))
    go (inr near) = known_drop slots d n (m + 1) h (omega arith)

pub long_moved : (slots : List (Option IssuedCid)) (d : ℕ) → d ≤ length slots → length (drop d slots ++ replicate d None) ≡ length slots
long_moved slots d le = simp (length-append, length-replicate, length-drop) (omega arith)

-- ---- an id is used in the place of another

-- the least that stays is below the new one
pub used_below : (ids mid new : PeerIds) (least : ℕ) (c first : IssuedCid) → IsWindow ids → least_from least ids.later ≡ Some first → least ≤ first.sequence → first.sequence < c.sequence → mid ≡ switched_to first ids → new ≡ known_with mid c
    → new ≡ record { active = first.sequence; id = first.id; later = with_cid (from (first.sequence + 1) ids.later) c }
used_below ids mid new least c first w f low less moved kept =
    kept ∙ ap (λ (m : PeerIds). known_with m c) moved ∙ rw (ne_eqb c.sequence first.sequence (λ same. omega arith)) refl

pub left_below : (ids : PeerIds) (least : ℕ) (c first : IssuedCid) → IsWindow ids → least_from least ids.later ≡ Some first → least ≤ first.sequence → first.sequence < c.sequence → known_from least c ids ≡ first ∷ with_cid (from (first.sequence + 1) ids.later) c
left_below ids least c first w f low less =
    let split = found_first ids.later least least (ids.active + 1) (ids.active + kept_ids) first w f (omega arith) low in
    ap (λ (l : List IssuedCid). with_cid l c) split ∙ with_behind first c (from (first.sequence + 1) ids.later) less

-- the new one is the least that stays
pub left_from : (ids : PeerIds) (least : ℕ) (c : IssuedCid) → IsWindow ids → least ≤ c.sequence → least_from least ids.later ≡ None → known_from least c ids ≡ c ∷ from (c.sequence + 1) ids.later
left_from ids least c w low f =
    let none = nothing_from ids.later least least (omega arith) f in
    let above = nothing_from ids.later least (c.sequence + 1) (omega arith) f in
    ap (λ (l : List IssuedCid). with_cid l c) none ∙ ap (λ (l : List IssuedCid). c ∷ l) (sym above)

pub left_at : (ids : PeerIds) (least : ℕ) (c first : IssuedCid) → IsWindow ids → least ≤ c.sequence → least_from least ids.later ≡ Some first → c.sequence ≤ first.sequence → known_from least c ids ≡ c ∷ from (c.sequence + 1) ids.later
left_at ids least c first w low f above =
    let split = found_first ids.later least least (ids.active + 1) (ids.active + kept_ids) first w f (omega arith) (omega arith) in
    ap (λ (l : List IssuedCid). with_cid l c) split ∙ go (cases_lt c.sequence first.sequence)
  where
    go : (c.sequence < first.sequence) ⊎ (first.sequence ≤ c.sequence) → with_cid (first ∷ from (first.sequence + 1) ids.later) c ≡ c ∷ from (c.sequence + 1) ids.later
    go (inl less) =
        let again = found_first ids.later least (c.sequence + 1) (ids.active + 1) (ids.active + kept_ids) first w f (omega arith) (omega arith) in
        with_before first c (from (first.sequence + 1) ids.later) less ∙ ap (λ (l : List IssuedCid). c ∷ l) (sym again)
    go (inr more) =
        let same : first.sequence ≡ c.sequence = omega arith in
        with_same first c (from (first.sequence + 1) ids.later) same ∙ ap (λ (n : ℕ). c ∷ from (n + 1) ids.later) same

-- where the ids left begin with one, that one is used
pub used_first : (ids new : PeerIds) (least : ℕ) (c first : IssuedCid) (rest : List IssuedCid) → known_from least c ids ≡ first ∷ rest → new ≡ record { active = first.sequence; id = first.id; later = rest } → new ≡ used_from least c ids
used_first ids new least c first rest left is = is ∙ sym (ap (λ (l : List IssuedCid). first_used l ids) left)

pub told_first : (ids new : PeerIds) (least : ℕ) (c first : IssuedCid) (rest : List IssuedCid) → known_from least c ids ≡ first ∷ rest → new ≡ record { active = first.sequence; id = first.id; later = rest } → retired_for (known_from least c ids) ids.active ≡ Some (retired_up_to new.active ids.active, first.reset_token)
told_first ids new least c first rest left is =
    ap (λ (l : List IssuedCid). retired_for l ids.active) left ∙ ap (λ (m : PeerIds). Some (retired_up_to m.active ids.active, first.reset_token)) (sym is)

-- ---- the next id

pub next_first : (ids : PeerIds) (c : IssuedCid) → IsWindow ids → least_from ids.active ids.later ≡ Some c → ids.later ≡ c ∷ from (c.sequence + 1) ids.later
next_first ids c w f =
    let b = found_above ids.later ids.active (ids.active + 1) (ids.active + kept_ids) c w f in
    let split = found_first ids.later ids.active ids.active (ids.active + 1) (ids.active + kept_ids) c w f (omega arith) (omega (arith, b.0)) in
    sym (from_all ids.later ids.active (ids.active + 1) (ids.active + kept_ids) (omega arith) w) ∙ split

pub next_none : (ids : PeerIds) → IsWindow ids → least_from ids.active ids.later ≡ None → ids.later ≡ []
next_none ids w f = sym (from_all ids.later ids.active (ids.active + 1) (ids.active + kept_ids) (omega arith) w) ∙ nothing_from ids.later ids.active ids.active (omega arith) f

-- ---- the search over the places

pub rest_from : (slots : List (Option IssuedCid)) (i n : ℕ) (x : Option IssuedCid) → i < length slots → x ≡ get_or slots i x → least_from n (known_in (drop i slots)) ≡ least_from n (cons_option x (known_in (drop (i + 1) slots)))
rest_from slots i n x l e =
    let split : drop i slots ≡ get_or slots i x ∷ drop (i + 1) slots = rw add-one (drop-cons slots i x l) in
    ap (λ (ys : List (Option IssuedCid)). least_from n (known_in ys)) split ∙ ap (λ (y : Option IssuedCid). least_from n (cons_option y (known_in (drop (i + 1) slots)))) (sym e)

pub hit : (slots : List (Option IssuedCid)) (i n : ℕ) (x : Option IssuedCid) (c : IssuedCid) → i < length slots → x ≡ get_or slots i x → x ≡ Some c → n ≤ c.sequence → least_from n (known_in (drop i slots)) ≡ Some c
hit slots i n x c l e is low =
    let now : least_from n (cons_option (Some c) (known_in (drop (i + 1) slots))) ≡ Some c = rw (le-leb n c.sequence low) refl in
    rest_from slots i n x l e ∙ ap (λ (y : Option IssuedCid). least_from n (cons_option y (known_in (drop (i + 1) slots)))) is ∙ now

pub miss : (slots : List (Option IssuedCid)) (i n : ℕ) (x : Option IssuedCid) (c : IssuedCid) → i < length slots → x ≡ get_or slots i x → x ≡ Some c → c.sequence < n → least_from n (known_in (drop (i + 1) slots)) ≡ least_from n (known_in (drop i slots))
miss slots i n x c l e is high =
    let later : least_from n (cons_option (Some c) (known_in (drop (i + 1) slots))) ≡ least_from n (known_in (drop (i + 1) slots)) = rw (lt-leb n c.sequence high) refl in
    sym (rest_from slots i n x l e ∙ ap (λ (y : Option IssuedCid). least_from n (cons_option y (known_in (drop (i + 1) slots)))) is ∙ later)

pub empty : (slots : List (Option IssuedCid)) (i n : ℕ) (x : Option IssuedCid) → i < length slots → x ≡ get_or slots i x → x ≡ None → least_from n (known_in (drop (i + 1) slots)) ≡ least_from n (known_in (drop i slots))
empty slots i n x l e is = sym (rest_from slots i n x l e ∙ ap (λ (y : Option IssuedCid). least_from n (cons_option y (known_in (drop (i + 1) slots)))) is)
