-- What known ids keep.
use Rattle.std.proofs.Common.{◌≡◌, ℕ, ◌+◌, ◌-◌, ◌<◌, ◌≤◌, ◌≢◌, Bool, true, false, cond, ltb, leb, ◌==◌, ◌&&◌, ◌||◌, List, [], ◌∷◌, length, refl, sym, ap, ◌∙◌, subst, arith, inl, inr}
use Rattle.std.specs.List.{list_any}
use Rattle.std.proofs.lemmas.Bool.{leb-true, leb-false, ltb-true, ltb-false, eqb-true, eqb-false, le-ltb, le-leb, lt-leb, ne_eqb, cases_lt, or_parts}
use Rattle.quic_wire_core.specs.declared.shared.IssuedCid.{IssuedCid}
use Rattle.quic_wire.specs.declared.frame.NewConnectionId.{NewConnectionId}
use Rattle.quic_ids.specs.CidQueue.{PeerIds, AscendWithin, IsWindow, kept_ids, knows, from, with_cid, known_with, first_used, brought, exceeds, retires_active, left_by, after_accepted, after_insert, after_next}
use Rattle.quic_ids.proofs.PeerIdSteps.{from_all}

-- ---- ascending ids

raise : (cs : List IssuedCid) (a b c : ℕ) → b ≤ c → AscendWithin cs a b → AscendWithin cs a c
raise [] a b c le h = tt
raise (x ∷ xs) a b c le h = (h.0, omega (arith, h.1), raise xs (x.sequence + 1) b c le h.2)

-- each takes one number
pub few : (cs : List IssuedCid) (a b : ℕ) → AscendWithin cs a b → length cs ≤ b - a
few [] a b h = omega arith
few (x ∷ xs) a b h = let ih = few xs (x.sequence + 1) b h.2 in omega (arith, h.0, h.1)

from_ascends : (cs : List IssuedCid) (n k first end : ℕ) → k ≤ n → AscendWithin cs first end → AscendWithin (from n cs) k end
from_ascends [] n k first end le h = tt
from_ascends (x ∷ xs) n k first end le h = go (leb n x.sequence) refl (from_ascends xs n k (x.sequence + 1) end le h.2)
  where
    go : (b : Bool) → leb n x.sequence ≡ b → AscendWithin (from n xs) k end → AscendWithin (cond b (x ∷ from n xs) (from n xs)) k end
    go true q ih =
        let low = leb-true n x.sequence q in
        let all = from_all xs n (x.sequence + 1) end (omega arith) h.2 in
        let P : List IssuedCid → Type 0 = λ l. AscendWithin l (x.sequence + 1) end in
        (omega arith, h.1, subst P (sym all) h.2)
    go false q ih = ih

with_ascends : (cs : List IssuedCid) (c : IssuedCid) (first end : ℕ) → first ≤ c.sequence → c.sequence < end → AscendWithin cs first end → AscendWithin (with_cid cs c) first end
with_ascends [] c first end low high h = (low, high, tt)
with_ascends (e ∷ es) c first end low high h = go (ltb c.sequence e.sequence) refl (λ le. with_ascends es c (e.sequence + 1) end le high h.2)
  where
    inner : (t : Bool) → (c.sequence == e.sequence) ≡ t → e.sequence ≤ c.sequence → (e.sequence + 1 ≤ c.sequence → AscendWithin (with_cid es c) (e.sequence + 1) end) → AscendWithin (cond t (c ∷ es) (e ∷ with_cid es c)) first end
    inner true q le ih = let same = eqb-true c.sequence e.sequence q in let P : ℕ → Type 0 = λ k. AscendWithin es (k + 1) end in (low, high, subst P (sym same) h.2)
    inner false q le ih = let other = eqb-false c.sequence e.sequence q in (h.0, h.1, ih (omega arith))

    go : (b : Bool) → ltb c.sequence e.sequence ≡ b → (e.sequence + 1 ≤ c.sequence → AscendWithin (with_cid es c) (e.sequence + 1) end) → AscendWithin (cond b (c ∷ e ∷ es) (cond (c.sequence == e.sequence) (c ∷ es) (e ∷ with_cid es c))) first end
    go true q ih = let less = ltb-true c.sequence e.sequence q in (low, high, (omega arith, h.1, h.2))
    go false q ih = inner (c.sequence == e.sequence) refl (ltb-false c.sequence e.sequence q) ih

-- ---- the window

first_window : (l : List IssuedCid) (ids : PeerIds) (p : ℕ) → AscendWithin l p (p + kept_ids) → IsWindow ids → IsWindow (first_used l ids)
first_window [] ids p h w = w
first_window (d ∷ ds) ids p h w = raise ds (d.sequence + 1) (p + kept_ids) (d.sequence + kept_ids) (omega (arith, h.0)) h.2

kept_window : (ids : PeerIds) (c : IssuedCid) → ids.active ≤ c.sequence → c.sequence < ids.active + kept_ids → IsWindow ids → IsWindow (known_with ids c)
kept_window ids c low high w = go (c.sequence == ids.active) refl
  where
    go : (b : Bool) → (c.sequence == ids.active) ≡ b → IsWindow (cond b (record ids { id = c.id }) (record ids { later = with_cid ids.later c }))
    go true q = w
    go false q = let other = eqb-false c.sequence ids.active q in with_ascends ids.later c (ids.active + 1) (ids.active + kept_ids) (omega arith) high w

-- what a frame leaves
pub left_ascends : (ids : PeerIds) (f : NewConnectionId) → f.retire_prior_to ≤ f.sequence → f.sequence < f.retire_prior_to + kept_ids → ids.active < f.retire_prior_to → IsWindow ids → AscendWithin (left_by ids f) f.retire_prior_to (f.retire_prior_to + kept_ids)
left_ascends ids f low high above w =
    with_ascends (from f.retire_prior_to ids.later) (brought f) f.retire_prior_to (f.retire_prior_to + kept_ids) low high
    (raise (from f.retire_prior_to ids.later) f.retire_prior_to (ids.active + kept_ids) (f.retire_prior_to + kept_ids) (omega arith)
    (from_ascends ids.later f.retire_prior_to f.retire_prior_to (ids.active + 1) (ids.active + kept_ids) (omega arith) w))

accepted_window : (ids : PeerIds) (f : NewConnectionId) → f.retire_prior_to ≤ f.sequence → ids.active ≤ f.sequence → f.sequence - ids.active < kept_ids + (f.retire_prior_to - ids.active) → IsWindow ids → IsWindow (after_accepted ids f)
accepted_window ids f le low near w = go (retires_active ids f) refl
  where
    go : (b : Bool) → ltb ids.active f.retire_prior_to ≡ b → IsWindow (cond b (first_used (left_by ids f) ids) (known_with ids (brought f)))
    go true q = let above = ltb-true ids.active f.retire_prior_to q in first_window (left_by ids f) ids f.retire_prior_to (left_ascends ids f le (omega arith) above w) w
    go false q = let above = ltb-false ids.active f.retire_prior_to q in kept_window ids (brought f) low (omega arith) w

pub insert_window : (ids : PeerIds) (f : NewConnectionId) → f.retire_prior_to ≤ f.sequence → IsWindow ids → IsWindow (after_insert ids f)
insert_window ids f le w = go (ltb f.sequence ids.active || exceeds ids f) refl
  where
    go : (b : Bool) → (ltb f.sequence ids.active || exceeds ids f) ≡ b → IsWindow (cond b ids (after_accepted ids f))
    go true q = w
    go false q =
        let parts = or_parts (ltb f.sequence ids.active) (exceeds ids f) q in
        let low = ltb-false f.sequence ids.active parts.0 in
        let near = leb-false (kept_ids + (f.retire_prior_to - ids.active)) (f.sequence - ids.active) parts.1 in
        accepted_window ids f le low near w

pub next_window : (ids : PeerIds) → IsWindow ids → IsWindow (after_next ids)
next_window ids w = go ids.later w
  where
    go : (l : List IssuedCid) → AscendWithin l (ids.active + 1) (ids.active + kept_ids) → IsWindow (first_used l ids)
    go [] h = w
    go (d ∷ ds) h = raise ds (d.sequence + 1) (ids.active + kept_ids) (d.sequence + kept_ids) (omega (arith, h.0)) h.2

-- ---- the number in use

first_rises : (l : List IssuedCid) (ids : PeerIds) (p end : ℕ) → ids.active ≤ p → AscendWithin l p end → ids.active ≤ (first_used l ids).active
first_rises [] ids p end le h = omega arith
first_rises (d ∷ ds) ids p end le h = omega (arith, h.0)

kept_rises : (ids : PeerIds) (c : IssuedCid) → ids.active ≤ (known_with ids c).active
kept_rises ids c = go (c.sequence == ids.active)
  where
    go : (b : Bool) → ids.active ≤ (let m : PeerIds = cond b (record ids { id = c.id }) (record ids { later = with_cid ids.later c }) in m.active)
    go true = omega arith
    go false = omega arith

pub insert_rises : (ids : PeerIds) (f : NewConnectionId) → f.retire_prior_to ≤ f.sequence → IsWindow ids → ids.active ≤ (after_insert ids f).active
insert_rises ids f le w = go (ltb f.sequence ids.active || exceeds ids f) refl
  where
    used : (m : PeerIds) → ℕ
    used m = m.active

    inner : (b : Bool) → ltb ids.active f.retire_prior_to ≡ b → f.sequence - ids.active < kept_ids + (f.retire_prior_to - ids.active) → ids.active ≤ f.sequence → ids.active ≤ (let m : PeerIds = cond b (first_used (left_by ids f) ids) (known_with ids (brought f)) in m.active)
    inner true q near low = let above = ltb-true ids.active f.retire_prior_to q in first_rises (left_by ids f) ids f.retire_prior_to (f.retire_prior_to + kept_ids) (omega arith) (left_ascends ids f le (omega arith) above w)
    inner false q near low = kept_rises ids (brought f)

    go : (b : Bool) → (ltb f.sequence ids.active || exceeds ids f) ≡ b → ids.active ≤ (let m : PeerIds = cond b ids (after_accepted ids f) in m.active)
    go true q = omega arith
    go false q =
        let parts = or_parts (ltb f.sequence ids.active) (exceeds ids f) q in
        inner (retires_active ids f) refl (leb-false (kept_ids + (f.retire_prior_to - ids.active)) (f.sequence - ids.active) parts.1) (ltb-false f.sequence ids.active parts.0)

pub next_rises : (ids : PeerIds) → IsWindow ids → ids.active ≤ (after_next ids).active
next_rises ids w = first_rises ids.later ids (ids.active + 1) (ids.active + kept_ids) (omega arith) w

-- ---- the known numbers

abbrev has : ℕ → List IssuedCid → Bool
has n = list_any (λ c. n == c.sequence)

none_has : (cs : List IssuedCid) (n first end : ℕ) → n < first → AscendWithin cs first end → has n cs ≡ false
none_has [] n first end less h = refl
none_has (x ∷ xs) n first end less h = rw (ne_eqb n x.sequence (λ e. omega (arith, h.0))) (none_has xs n (x.sequence + 1) end (omega (arith, h.0)) h.2)

swap_or : (a b c : Bool) → (a || (b || c)) ≡ (b || (a || c))
swap_or true true c = refl
swap_or true false c = refl
swap_or false b c = refl

has_with : (cs : List IssuedCid) (c : IssuedCid) (n : ℕ) → has n (with_cid cs c) ≡ ((n == c.sequence) || has n cs)
has_with [] c n = refl
has_with (e ∷ es) c n = go (ltb c.sequence e.sequence) (has_with es c n)
  where
    twice : (a b : Bool) → (a || b) ≡ (a || (a || b))
    twice true b = refl
    twice false b = refl

    inner : (t : Bool) → (c.sequence == e.sequence) ≡ t → has n (with_cid es c) ≡ ((n == c.sequence) || has n es) → has n (cond t (c ∷ es) (e ∷ with_cid es c)) ≡ ((n == c.sequence) || ((n == e.sequence) || has n es))
    inner true q ih = let same = eqb-true c.sequence e.sequence q in twice (n == c.sequence) (has n es) ∙ ap (λ (k : ℕ). (n == c.sequence) || ((n == k) || has n es)) same
    inner false q ih = ap (λ (t : Bool). (n == e.sequence) || t) ih ∙ swap_or (n == e.sequence) (n == c.sequence) (has n es)

    go : (b : Bool) → has n (with_cid es c) ≡ ((n == c.sequence) || has n es) → has n (cond b (c ∷ e ∷ es) (cond (c.sequence == e.sequence) (c ∷ es) (e ∷ with_cid es c))) ≡ ((n == c.sequence) || ((n == e.sequence) || has n es))
    go true ih = refl
    go false ih = inner (c.sequence == e.sequence) refl ih

-- those from p on have what all have, at a number from p on
has_from : (cs : List IssuedCid) (p n : ℕ) → p ≤ n → has n (from p cs) ≡ has n cs
has_from [] p n le = refl
has_from (x ∷ xs) p n le = go (leb p x.sequence) refl (has_from xs p n le)
  where
    go : (b : Bool) → leb p x.sequence ≡ b → has n (from p xs) ≡ has n xs → has n (cond b (x ∷ from p xs) (from p xs)) ≡ ((n == x.sequence) || has n xs)
    go true q ih = ap (λ (t : Bool). (n == x.sequence) || t) ih
    go false q ih = let high = leb-false p x.sequence q in rw (ne_eqb n x.sequence (λ e. omega arith)) ih

-- the number in use and those behind it are known, and no other
first_knows : (l : List IssuedCid) (ids : PeerIds) (n p end : ℕ) (old : Bool) → AscendWithin l p end → length l ≢ 0 → (p ≤ n → has n l ≡ old) → knows (first_used l ids) n ≡ (leb (first_used l ids).active n && old)
first_knows [] ids n p end old h some is = absurd (some refl)
first_knows (d ∷ ds) ids n p end old h some is = elim (cases_lt n d.sequence) [
  | inl less ↦ rw (ne_eqb n d.sequence (λ e. omega arith), lt-leb d.sequence n less) (none_has ds n (d.sequence + 1) end (omega arith) h.2)
  | inr more ↦ rw (le-leb d.sequence n more) (is (omega (arith, h.0)))
]

with_some : (cs : List IssuedCid) (c : IssuedCid) → length (with_cid cs c) ≢ 0
with_some [] c = λ e. omega arith
with_some (e ∷ es) c = go (ltb c.sequence e.sequence) (c.sequence == e.sequence)
  where
    go : (b t : Bool) → length (cond b (c ∷ e ∷ es) (cond t (c ∷ es) (e ∷ with_cid es c))) ≢ 0
    go true t = λ e. omega arith
    go false true = λ e. omega arith
    go false false = λ e. omega arith

drop_test : (a b : Bool) → a ≡ false → (a || b) ≡ b
drop_test true b e = cc
drop_test false b e = refl

retired_knows : (ids : PeerIds) (f : NewConnectionId) (n : ℕ) → f.retire_prior_to ≤ f.sequence → f.sequence < f.retire_prior_to + kept_ids → ids.active < f.retire_prior_to → IsWindow ids → knows (first_used (left_by ids f) ids) n ≡ (leb (first_used (left_by ids f) ids).active n && ((n == f.sequence) || knows ids n))
retired_knows ids f n low high above w =
    first_knows (left_by ids f) ids n f.retire_prior_to (f.retire_prior_to + kept_ids) ((n == f.sequence) || knows ids n) (left_ascends ids f low high above w) (with_some (from f.retire_prior_to ids.later) (brought f))
    (λ le. has_with (from f.retire_prior_to ids.later) (brought f) n ∙ ap (λ (t : Bool). (n == f.sequence) || t) (has_from ids.later f.retire_prior_to n le ∙ sym (drop_test (n == ids.active) (has n ids.later) (ne_eqb n ids.active (λ e. omega arith)))))

kept_knows : (ids : PeerIds) (c : IssuedCid) (n : ℕ) → ids.active ≤ c.sequence → IsWindow ids → knows (known_with ids c) n ≡ (leb (known_with ids c).active n && ((n == c.sequence) || knows ids n))
kept_knows ids c n low w = go (c.sequence == ids.active) refl
  where
    twice : (a b : Bool) → (a || b) ≡ (a || (a || b))
    twice true b = refl
    twice false b = refl

    go : (b : Bool) → (c.sequence == ids.active) ≡ b → (let m : PeerIds = cond b (record ids { id = c.id }) (record ids { later = with_cid ids.later c }) in knows m n ≡ (leb m.active n && ((n == c.sequence) || knows ids n)))
    go true q =
        let same = eqb-true c.sequence ids.active q in
        elim (cases_lt n ids.active) [
          | inl less ↦ rw (lt-leb ids.active n less, ne_eqb n ids.active (λ e. omega arith)) (none_has ids.later n (ids.active + 1) (ids.active + kept_ids) (omega arith) w)
          | inr more ↦ rw (le-leb ids.active n more) (twice (n == ids.active) (has n ids.later) ∙ ap (λ (k : ℕ). (n == k) || ((n == ids.active) || has n ids.later)) (sym same))
        ]
    go false q =
        let other = eqb-false c.sequence ids.active q in
        elim (cases_lt n ids.active) [
          | inl less ↦ rw (lt-leb ids.active n less, ne_eqb n ids.active (λ e. omega arith)) (has_with ids.later c n ∙ drop_test (n == c.sequence) (has n ids.later) (ne_eqb n c.sequence (λ e. omega arith)) ∙ none_has ids.later n (ids.active + 1) (ids.active + kept_ids) (omega arith) w)
          | inr more ↦ rw (le-leb ids.active n more) (ap (λ (t : Bool). (n == ids.active) || t) (has_with ids.later c n) ∙ swap_or (n == ids.active) (n == c.sequence) (has n ids.later))
        ]

pub insert_knows : (ids : PeerIds) (f : NewConnectionId) (n : ℕ) → f.retire_prior_to ≤ f.sequence → IsWindow ids → ids.active ≤ f.sequence → exceeds ids f ≡ false → knows (after_insert ids f) n ≡ (leb (after_insert ids f).active n && ((n == f.sequence) || knows ids n))
insert_knows ids f n le w low near =
    let k = leb-false (kept_ids + (f.retire_prior_to - ids.active)) (f.sequence - ids.active) near in
    rw (le-ltb f.sequence ids.active low, near) (go (retires_active ids f) refl k)
  where
    go : (b : Bool) → ltb ids.active f.retire_prior_to ≡ b → f.sequence - ids.active < kept_ids + (f.retire_prior_to - ids.active) → (let m : PeerIds = cond b (first_used (left_by ids f) ids) (known_with ids (brought f)) in knows m n ≡ (leb m.active n && ((n == f.sequence) || knows ids n)))
    go true q k = let above = ltb-true ids.active f.retire_prior_to q in retired_knows ids f n le (omega arith) above w
    go false q k = kept_knows ids (brought f) n low w

pub next_knows : (ids : PeerIds) (n : ℕ) → IsWindow ids → knows (after_next ids) n ≡ (leb (after_next ids).active n && knows ids n)
next_knows ids n w = go ids.later refl w
  where
    go : (l : List IssuedCid) → ids.later ≡ l → AscendWithin l (ids.active + 1) (ids.active + kept_ids) → knows (first_used l ids) n ≡ (leb (first_used l ids).active n && knows ids n)
    go [] e h = elim (cases_lt n ids.active) [
      | inl less ↦ rw (lt-leb ids.active n less, ne_eqb n ids.active (λ q. omega arith)) (none_has ids.later n (ids.active + 1) (ids.active + kept_ids) (omega arith) w)
      | inr more ↦ rw (le-leb ids.active n more) refl
    ]
    go (d ∷ ds) e h = first_knows (d ∷ ds) ids n (ids.active + 1) (ids.active + kept_ids) (knows ids n) h (λ z. omega arith) (λ le. ap (λ (l : List IssuedCid). has n l) (sym e) ∙ sym (drop_test (n == ids.active) (has n ids.later) (ne_eqb n ids.active (λ q. omega arith))))
