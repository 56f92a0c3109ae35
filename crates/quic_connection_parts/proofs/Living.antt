-- Numbers of connection ids that live, and their ids.
use Rattle.std.proofs.Common.{◌≡◌, ◌≢◌, ℕ, zero, suc, ◌+◌, ◌-◌, ◌≤◌, ◌<◌, ◌^◌, ◌||◌, ◌==◌, ◌⊎◌, inl, inr, Bool, true, false, not, cond, ltb, leb, List, [], ◌∷◌, ◌++◌, length, Option, Some, None, refl, sym, ap, subst, ◌∙◌, arith}
use Rattle.std.specs.Prelude.{map, set, IfSome, IfOk, Ok, Err, nat_lt, replicate}
use Rattle.std.specs.List.{filter, list_any, position, position_or_len, remove, range_with_len, AllByRecursion}
use Rattle.std.specs.Ordering.{nat_cmp}
use Rattle.std.specs.BTreeMap.{is_at}
use Rattle.std.specs.BTreeSet.{insert_key}
use Rattle.std.specs.Cmp.{unsigned_tied}
use Rattle.std.proofs.lemmas.Bool.{le-ltb, lt-ltb, ltb-false, ne_eqb, eq-eqb}
use Rattle.std.proofs.lemmas.Bool.Decides.{eqb_tells}
use Rattle.std.proofs.lemmas.List.{map-append}
use Rattle.rand_core.specs.Stream.{Stream, u64_call}
use Rattle.quic_wire_core.specs.declared.shared.IssuedCid.{IssuedCid}
use Rattle.quic_wire.specs.declared.frame.NewConnectionId.{NewConnectionId}
use Rattle.quic_ids.specs.CidState.{Rise, below, without}
use Rattle.quic_ids.specs.CidQueue.{PeerIds, with_cid, from, brought, first_used, known_with, after_insert, left_by, after_accepted, exceeds, retires_active, retired_for, accepted_answer, insert_answer}
use Rattle.quic_ids.specs.declared.cid_queue.InsertError.TheVariants as inserts
use Rattle.quic_machine.specs.Ids.{NumberedId, with_number, with_id, words_behind, words_of_id, drawn_ids, later_numbers, retires_for}
use Rattle.quic_connection_parts.specs.Drawn.{words_of, after_words}
use Rattle.quic_connection_parts.specs.Living.{RiseBelow, HaveNumbers}

-- ---- numbers that ascend

pub rises : (ks : List ℕ) (first end : ℕ) → RiseBelow ks first end → Rise ks first
rises [] first end up = tt
rises (k ∷ ks) first end up = (up.0, rises ks (k + 1) end up.2)

-- those from a number on lie from a lesser one on, too
rises_from : (ks : List ℕ) (low first end : ℕ) → low ≤ first → RiseBelow ks first end → RiseBelow ks low end
rises_from [] low first end le up = tt
rises_from (k ∷ ks) low first end le up = let a = up.0 in (omega (arith, le, a), up.1, up.2)

rise_from : (ks : List ℕ) (low first : ℕ) → low ≤ first → Rise ks first → Rise ks low
rise_from [] low first le up = tt
rise_from (k ∷ ks) low first le up = let a = up.0 in (omega (arith, le, a), up.1)

-- one more above them
pub rises_more : (ks : List ℕ) (first n : ℕ) → first ≤ n → RiseBelow ks first n → RiseBelow (ks ++ n ∷ []) first (n + 1)
rises_more [] first n le up = (le, omega arith, tt)
rises_more (k ∷ ks) first n le up = let a = up.1 in (up.0, omega (arith, a), rises_more ks (k + 1) n (omega (arith, a)) up.2)

-- the first ones
pub below_rises : (n : ℕ) → RiseBelow (below n) 0 n
below_rises zero = tt
below_rises (suc n) = subst (λ (m : ℕ). RiseBelow (below n ++ n ∷ []) 0 m) (let next : n + 1 ≡ suc n = omega arith in next) (rises_more (below n) 0 n (omega arith) (below_rises n))

-- the one above them goes to the end
pub inserted_last : (ks : List ℕ) (first n : ℕ) → RiseBelow ks first n → insert_key nat_cmp ks n ≡ ks ++ n ∷ []
inserted_last [] first n up = refl
inserted_last (k ∷ ks) first n up = let a = up.1 in rw (le-ltb n k (omega (arith, a)), ne_eqb n k (λ e. omega (arith, a))) (ap (λ (l : List ℕ). k ∷ l) (inserted_last ks (k + 1) n up.2))

-- the numbers from 1 on, behind 0, are the first ones
pub range_more : (a n : ℕ) → range_with_len a (suc n) ≡ range_with_len a n ++ (a + n) ∷ []
range_more a zero = ap (λ (k : ℕ). k ∷ []) (let same : a ≡ a + 0 = omega arith in same)
range_more a (suc n) = ap (λ (l : List ℕ). a ∷ l) (range_more (a + 1) n ∙ ap (λ (k : ℕ). range_with_len (a + 1) n ++ k ∷ []) (let same : a + 1 + n ≡ a + suc n = omega arith in same))

range_below : (n : ℕ) → range_with_len 0 n ≡ below n
range_below zero = refl
range_below (suc n) = range_more 0 n ∙ ap (λ (k : ℕ). range_with_len 0 n ++ k ∷ []) (let same : 0 + n ≡ n = omega arith in same) ∙ ap (λ (l : List ℕ). l ++ n ∷ []) (range_below n)

pub first_numbers : (limit : ℕ) → 1 ≤ limit → 0 ∷ later_numbers limit ≡ below limit
first_numbers zero some = absurd (omega (arith, some))
first_numbers (suc n) some = ap (λ (k : ℕ). 0 ∷ range_with_len 1 k) (let same : suc n - 1 ≡ n = omega arith in same) ∙ range_below (suc n)

-- ---- ids and their numbers

abbrev pub numbers_of : List NumberedId → List ℕ
numbers_of is = map (λ i. i.number) is

pub numbers_more : (is : List NumberedId) (i : NumberedId) → numbers_of (is ++ i ∷ []) ≡ numbers_of is ++ i.number ∷ []
numbers_more is i = map-append (λ (j : NumberedId). j.number) is (i ∷ [])

-- those of ids that are drawn
pub numbers_drawn : (w : ℕ → ℕ) (ns : List ℕ) → numbers_of (map with_number (drawn_ids w ns)) ≡ ns
numbers_drawn w [] = refl
numbers_drawn w (n ∷ ns) = ap (λ (l : List ℕ). n ∷ l) (numbers_drawn (words_behind words_of_id w) ns)

-- ---- one of them goes

-- a number below all others isn't among them
none_lower : (is : List NumberedId) (first n : ℕ) → Rise (numbers_of is) first → n < first → (without n (numbers_of is) ≡ numbers_of is) × (filter (λ i. not (i.number == n)) is ≡ is)
none_lower [] first n up lt = (refl, refl)
none_lower (i ∷ is) first n up lt =
    let a = up.0 in
    let other : n ≢ i.number = λ e. omega (arith, a, lt, e) in
    let back : i.number ≢ n = λ e. omega (arith, a, lt, e) in
    let rest = none_lower is (i.number + 1) n up.1 (omega (arith, a, lt)) in
    (rw (unsigned_tied n i.number ∙ ne_eqb n i.number other) (ap (λ (l : List ℕ). i.number ∷ l) rest.0), rw (ne_eqb i.number n back) (ap (λ (l : List NumberedId). i ∷ l) rest.1))

-- what is left without a number, where its id is taken out at its place: the numbers and the ids;
-- and whether it lived
abbrev pub Goes : ℕ → List NumberedId → Option ℕ → Type 0
Goes n is None = (numbers_of is ≡ without n (numbers_of is)) × (is ≡ filter (λ i. not (i.number == n)) is) × (list_any (λ i. i.number == n) is ≡ false)
Goes n is (Some place) = (numbers_of (remove is place) ≡ without n (numbers_of is)) × (remove is place ≡ filter (λ i. not (i.number == n)) is) × (list_any (λ i. i.number == n) is ≡ true) × (place < length is)

pub goes_at : (n first : ℕ) (is : List NumberedId) → Rise (numbers_of is) first → Goes n is (position (λ i. i.number == n) is)
goes_at n first [] up = (refl, refl, refl)
goes_at n first (i ∷ is) up = by (eqb_tells i.number n) (goes_at n (i.number + 1) is up.1)
  where
    p : ℕ
    p = position_or_len (λ (i : NumberedId). i.number == n) is

    later : (b : Bool) → (i.number == n) ≡ false → i.number ≢ n → nat_lt p (length is) ≡ b → Goes n is (cond b (Some p) None) → Goes n (i ∷ is) (cond (nat_lt (1 + p) (suc (length is))) (Some (1 + p)) None)
    later true differs other is_less g =
        let back : n ≢ i.number = λ e. other (sym e) in
        let lt : p < length is = g.3 in
        let next : 1 + p ≡ suc p = omega arith in
        let some : nat_lt (1 + p) (suc (length is)) ≡ true = lt-ltb (1 + p) (suc (length is)) (omega (arith, lt)) in
        rw some (rw next (
          rw (unsigned_tied n i.number ∙ ne_eqb n i.number back) (ap (λ (l : List ℕ). i.number ∷ l) g.0),
          rw differs (ap (λ (l : List NumberedId). i ∷ l) g.1),
          rw differs g.2,
          omega (arith, lt),
        ))
    later false differs other is_no_less g =
        let back : n ≢ i.number = λ e. other (sym e) in
        let none : nat_lt (1 + p) (suc (length is)) ≡ false = le-ltb (1 + p) (suc (length is)) (let ge : length is ≤ p = ltb-false p (length is) is_no_less in omega (arith, ge)) in
        rw none (
          rw (unsigned_tied n i.number ∙ ne_eqb n i.number back) (ap (λ (l : List ℕ). i.number ∷ l) g.0),
          rw differs (ap (λ (l : List NumberedId). i ∷ l) g.1),
          rw differs g.2,
        )

    by : ((i.number == n) ≡ true) × (i.number ≡ n) ⊎ ((i.number == n) ≡ false) × (i.number ≢ n) → Goes n is (cond (nat_lt p (length is)) (Some p) None)
        → Goes n (i ∷ is) (cond (nat_lt (cond (not (i.number == n)) (1 + p) 0) (suc (length is))) (Some (cond (not (i.number == n)) (1 + p) 0)) None)
    by (inl same) g =
        let up_from = rise_from (numbers_of is) (i.number + 1) (i.number + 1) (omega arith) up.1 in
        let gone = none_lower is (i.number + 1) n up_from (let e = same.1 in omega (arith, e)) in
        let some : nat_lt 0 (suc (length is)) ≡ true = lt-ltb 0 (suc (length is)) (omega arith) in
        rw same.0 (rw some (
          rw (unsigned_tied n i.number ∙ eq-eqb n i.number (sym same.1)) refl,
          rw same.0 (sym gone.1),
          rw same.0 refl,
          omega arith,
        ))
    by (inr other) g = rw other.0 (later (nat_lt p (length is)) other.0 other.1 refl g)

-- the others ascend still
pub without_rises : (n : ℕ) (ks : List ℕ) (first end : ℕ) → RiseBelow ks first end → RiseBelow (without n ks) first end
without_rises n [] first end up = tt
without_rises n (k ∷ ks) first end up = go (is_at (nat_cmp n) k) (without_rises n ks (k + 1) end up.2)
  where
    go : (b : Bool) → RiseBelow (without n ks) (k + 1) end → RiseBelow (cond b ks (k ∷ without n ks)) first end
    go true rest = let a = up.0 in rises_from ks first (k + 1) end (omega (arith, a)) up.2
    go false rest = (up.0, up.1, rest)

-- ---- one of them gets its id

-- its number stays
pub numbers_with : (cid : IssuedCid) (is : List NumberedId) → numbers_of (with_id cid is) ≡ numbers_of is
numbers_with cid [] = refl
numbers_with cid (i ∷ is) = by (eqb_tells i.number cid.sequence) (numbers_with cid is)
  where
    by : ((i.number == cid.sequence) ≡ true) × (i.number ≡ cid.sequence) ⊎ ((i.number == cid.sequence) ≡ false) × (i.number ≢ cid.sequence) → numbers_of (with_id cid is) ≡ numbers_of is → numbers_of (with_id cid (i ∷ is)) ≡ numbers_of (i ∷ is)
    by (inl same) rest = rw same.0 (λ k. sym same.1 k ∷ rest k)
    by (inr other) rest = rw other.0 (ap (λ (l : List ℕ). i.number ∷ l) rest)

-- a number below all others gets none
none_set : (is : List NumberedId) (first : ℕ) (cid : IssuedCid) → Rise (numbers_of is) first → cid.sequence < first → with_id cid is ≡ is
none_set [] first cid up lt = refl
none_set (i ∷ is) first cid up lt =
    let a = up.0 in
    let other : i.number ≢ cid.sequence = λ e. omega (arith, a, lt, e) in
    rw (ne_eqb i.number cid.sequence other) (ap (λ (l : List NumberedId). i ∷ l) (none_set is (i.number + 1) cid up.1 (omega (arith, a, lt))))

abbrev pub Gets : IssuedCid → List NumberedId → Option ℕ → Type 0
Gets cid is None = is ≡ with_id cid is
Gets cid is (Some place) = (set is place (with_number cid) ≡ with_id cid is) × (place < length is)

pub gets_at : (cid : IssuedCid) (first : ℕ) (is : List NumberedId) → Rise (numbers_of is) first → Gets cid is (position (λ i. i.number == cid.sequence) is)
gets_at cid first [] up = refl
gets_at cid first (i ∷ is) up = by (eqb_tells i.number cid.sequence) (gets_at cid (i.number + 1) is up.1)
  where
    p : ℕ
    p = position_or_len (λ (i : NumberedId). i.number == cid.sequence) is

    later : (b : Bool) → (i.number == cid.sequence) ≡ false → nat_lt p (length is) ≡ b → Gets cid is (cond b (Some p) None) → Gets cid (i ∷ is) (cond (nat_lt (1 + p) (suc (length is))) (Some (1 + p)) None)
    later true differs is_less g =
        let lt : p < length is = g.1 in
        let next : 1 + p ≡ suc p = omega arith in
        let some : nat_lt (1 + p) (suc (length is)) ≡ true = lt-ltb (1 + p) (suc (length is)) (omega (arith, lt)) in
        rw some (rw next (rw differs (ap (λ (l : List NumberedId). i ∷ l) g.0), omega (arith, lt)))
    later false differs is_no_less g =
        let none : nat_lt (1 + p) (suc (length is)) ≡ false = le-ltb (1 + p) (suc (length is)) (let ge : length is ≤ p = ltb-false p (length is) is_no_less in omega (arith, ge)) in
        rw none (rw differs (ap (λ (l : List NumberedId). i ∷ l) g))

    by : ((i.number == cid.sequence) ≡ true) × (i.number ≡ cid.sequence) ⊎ ((i.number == cid.sequence) ≡ false) × (i.number ≢ cid.sequence) → Gets cid is (cond (nat_lt p (length is)) (Some p) None)
        → Gets cid (i ∷ is) (cond (nat_lt (cond (not (i.number == cid.sequence)) (1 + p) 0) (suc (length is))) (Some (cond (not (i.number == cid.sequence)) (1 + p) 0)) None)
    by (inl same) g =
        let e = same.1 in
        let others = none_set is (i.number + 1) cid up.1 (omega (arith, e)) in
        let some : nat_lt 0 (suc (length is)) ≡ true = lt-ltb 0 (suc (length is)) (omega arith) in
        rw same.0 (rw some (rw same.0 (ap (λ (l : List NumberedId). with_number cid ∷ l) (sym others)), omega arith))
    by (inr other) g = rw other.0 (later (nat_lt p (length is)) other.0 refl g)

-- ---- words

-- behind three words of a source
pub words_three : {R : Type 0} (stream : R → Stream) (r s : R) → stream s ≡ after_words 3 (stream r) → words_behind words_of_id (words_of stream r) ≡ words_of stream s
words_three {R} stream r s left = λ i n. same n i
  where
    same : (n : ℕ) → (stream r).u64_after (replicate (3 + n) u64_call) ≡ (stream s).u64_after (replicate n u64_call)
    same n =
        ap (λ (k : ℕ). (stream r).u64_after (replicate k u64_call)) (let three : 3 + n ≡ suc (suc (suc n)) = omega arith in three)
        ∙ ap (λ (x : Stream). x.u64_after (replicate n u64_call)) (sym left)

-- ---- the peer's numbers

from_fits : (n : ℕ) (cs : List IssuedCid) → AllByRecursion (λ c. c.sequence < 2 ^ 62) cs → AllByRecursion (λ c. c.sequence < 2 ^ 62) (from n cs)
from_fits n [] all = tt
from_fits n (c ∷ cs) all = go (leb n c.sequence) (from_fits n cs all.1)
  where
    go : (b : Bool) → AllByRecursion (λ c. c.sequence < 2 ^ 62) (from n cs) → AllByRecursion (λ c. c.sequence < 2 ^ 62) (cond b (c ∷ from n cs) (from n cs))
    go true rest = (all.0, rest)
    go false rest = rest

with_fits : (cs : List IssuedCid) (c : IssuedCid) → c.sequence < 2 ^ 62 → AllByRecursion (λ c. c.sequence < 2 ^ 62) cs → AllByRecursion (λ c. c.sequence < 2 ^ 62) (with_cid cs c)
with_fits [] c fits all = (fits, tt)
with_fits (e ∷ es) c fits all = go (ltb c.sequence e.sequence) (c.sequence == e.sequence) (with_fits es c fits all.1)
  where
    go : (a b : Bool) → AllByRecursion (λ c. c.sequence < 2 ^ 62) (with_cid es c) → AllByRecursion (λ c. c.sequence < 2 ^ 62) (cond a (c ∷ e ∷ es) (cond b (c ∷ es) (e ∷ with_cid es c)))
    go true b rest = (fits, all)
    go false true rest = (fits, all.1)
    go false false rest = (all.0, rest)

pub first_fits : (cs : List IssuedCid) (ids : PeerIds) → AllByRecursion (λ c. c.sequence < 2 ^ 62) cs → HaveNumbers ids → HaveNumbers (first_used cs ids)
first_fits [] ids all h = h
first_fits (c ∷ cs) ids all h = all

-- an id that is taken up
pub insert_fits : (ids : PeerIds) (f : NewConnectionId) → f.sequence < 2 ^ 62 → HaveNumbers ids → HaveNumbers (after_insert ids f)
insert_fits ids f fits h = go (ltb f.sequence ids.active || exceeds ids f)
  where
    known : (b : Bool) → HaveNumbers (cond b (record ids { id = f.id }) (record ids { later = with_cid ids.later (brought f) }))
    known true = h
    known false = (h.0, with_fits ids.later (brought f) fits h.1)

    accepted : (b : Bool) → HaveNumbers (cond b (first_used (left_by ids f) ids) (known_with ids (brought f)))
    accepted true = first_fits (left_by ids f) ids (with_fits (from f.retire_prior_to ids.later) (brought f) fits (from_fits f.retire_prior_to ids.later h.1)) h
    accepted false = known (f.sequence == ids.active)

    go : (b : Bool) → HaveNumbers (cond b ids (after_accepted ids f))
    go true = h
    go false = accepted (retires_active ids f)

-- which numbers are retired for it have a form
pub retires_fit : (ids : PeerIds) (f : NewConnectionId) → f.sequence < 2 ^ 62 → HaveNumbers ids → IfOk (retires_for (insert_answer ids f)) (λ r. IfSome r (λ range. range.end ≤ 2 ^ 62))
retires_fit ids f fits h = late (ltb f.sequence ids.active) (exceeds ids f)
  where
    firsts : (cs : List IssuedCid) → AllByRecursion (λ c. c.sequence < 2 ^ 62) cs → IfOk (retires_for (Ok (retired_for cs ids.active))) (λ r. IfSome r (λ range. range.end ≤ 2 ^ 62))
    firsts [] all = tt
    firsts (c ∷ cs) all = let lt = all.0 in omega (arith, lt)

    accepted : (b : Bool) → IfOk (retires_for (Ok (cond b (retired_for (left_by ids f) ids.active) None))) (λ r. IfSome r (λ range. range.end ≤ 2 ^ 62))
    accepted true = firsts (left_by ids f) (with_fits (from f.retire_prior_to ids.later) (brought f) fits (from_fits f.retire_prior_to ids.later h.1))
    accepted false = tt

    late : (a b : Bool) → IfOk (retires_for (cond a (Err inserts.Retired) (cond b (Err inserts.ExceedsLimit) (Ok (accepted_answer ids f))))) (λ r. IfSome r (λ range. range.end ≤ 2 ^ 62))
    late true b = tt
    late false true = tt
    late false false = accepted (retires_active ids f)
