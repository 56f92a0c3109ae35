-- Which numbers wait to be acknowledged, and since when.
use Rattle.std.proofs.Common.{◌≡◌, ℕ, ◌+◌, ◌≤◌, ◌<◌, ◌⊎◌, ◌↔◌, true, false, Option, Some, None, List, [], ◌∷◌, length, refl, sym, ap, subst, inl, inr, arith}
use Rattle.std.specs.Prelude.{nat_lt, not, is_some, is_none, IsTrue, MatchOption}
use Rattle.std.proofs.lemmas.Bool.{cases_lt, cases_Bool, lt-ltb, le-ltb, cond-true, cond-false, and_cases, not-false}
use Rattle.quic_sets.specs.Runs.{Run, Has, AreRuns}
use Rattle.quic_sets.proofs.RunLists.{at_least}
use Rattle.quic_recovery_core.specs.Duplicates.{Seen}
use Rattle.quic_recovery_core.specs.PendingAcks.{Pending, with_one, but_least, at_most, above, newer, can_send, starts_wait, with_wait, asking_counted, after_packet}
use Rattle.quic_recovery_core.specs.AckRuns.{Change, came, known, runs_after, IsInLeast, IsDropped, Waits, newest_after, AreBelow, IsNewest}
use Rattle.quic_recovery_core.specs.declared.spaces.pending_acks.TheConstants.{MAX_ACK_RUNS}
use Rattle.quic_recovery_core.proofs.AckRunSteps.{with_one_runs, with_one_len, in_with_one, with_one_in, but_least_runs, but_least_in, but_least_len, at_most-many, at_most-few, above_runs, above_len, in_above, above_in}

-- ---- the set

record Stand (rs : List Run) : Type 0 where
  runs : AreRuns rs
  few : length rs ≤ MAX_ACK_RUNS

put_stands : (rs : List Run) (n : ℕ) → Stand rs → Stand (at_most (with_one rs n))
put_stands rs n h =
    let all = with_one rs n in
    let runs = with_one_runs 0 n rs (omega arith) h.runs in
    let few = h.few in
    let len = with_one_len n rs 0 h.runs in
    elim (cases_lt MAX_ACK_RUNS (length all)) [
      | inl lt ↦ subst (λ (xs : List Run). Stand xs) (sym (at_most-many all lt)) (record { runs = but_least_runs 0 all runs; few = but_least_len all MAX_ACK_RUNS (omega (arith, few, len)) })
      | inr le ↦ subst (λ (xs : List Run). Stand xs) (sym (at_most-few all le)) (record { runs = runs; few = le })
    ]

cut_stands : (rs : List Run) (n : ℕ) → Stand rs → Stand (above rs n)
cut_stands rs n h = record {
  runs = above_runs 0 n rs h.runs;
  few = let few = h.few in
      let len = above_len n rs in
      omega (arith, few, len);
}

stand : (changes : List Change) → Stand (runs_after changes)
stand [] = record { runs = tt; few = omega arith }
stand (came n ∷ changes) = put_stands (runs_after changes) n (stand changes)
stand (known n ∷ changes) = cut_stands (runs_after changes) n (stand changes)

pub stand_runs : (changes : List Change) → AreRuns (runs_after changes)
stand_runs changes = (stand changes).runs

pub stand_few : (changes : List Change) → length (runs_after changes) ≤ MAX_ACK_RUNS
stand_few changes = (stand changes).few

-- no number of another run is in that of the least
behind_least : (k : ℕ) (rs : List Run) → AreRuns rs → Has (but_least rs) k → IsInLeast rs k → ⊥
behind_least k [] runs h least = least
behind_least k (r ∷ rs) runs h least =
    let le = at_least k (r.end + 1) rs runs.2 h in
    let lt = least.1 in
    omega (arith, le, lt)

not_least : (k : ℕ) (rs : List Run) → Has rs k → (IsInLeast rs k → ⊥) → Has (but_least rs) k
not_least k [] h other = h
not_least k (r ∷ rs) h other = elim h [ inl i ↦ absurd (other i) | inr t ↦ t ]

in_at_most : (k : ℕ) (rs : List Run) → AreRuns rs → Has (at_most rs) k → Has rs k × (IsDropped rs k → ⊥)
in_at_most k rs runs h = elim (cases_lt MAX_ACK_RUNS (length rs)) [
  | inl lt ↦ (let t = subst (λ (xs : List Run). Has xs k) (at_most-many rs lt) h in (but_least_in k rs t, λ d. behind_least k rs runs t d.1))
  | inr le ↦ (subst (λ (xs : List Run). Has xs k) (at_most-few rs le) h, λ d. let lt = d.0 in omega (arith, lt, le))
]

at_most_in : (k : ℕ) (rs : List Run) → Has rs k → (IsDropped rs k → ⊥) → Has (at_most rs) k
at_most_in k rs h kept = elim (cases_lt MAX_ACK_RUNS (length rs)) [
  | inl lt ↦ subst (λ (xs : List Run). Has xs k) (sym (at_most-many rs lt)) (not_least k rs h (λ least. kept (lt, least)))
  | inr le ↦ subst (λ (xs : List Run). Has xs k) (sym (at_most-few rs le)) h
]

has_waits : (changes : List Change) (k : ℕ) → Has (runs_after changes) k → Waits changes k
has_waits [] k h = h
has_waits (came n ∷ changes) k h =
    let rs = runs_after changes in
    let runs = stand_runs changes in
    let i = in_at_most k (with_one rs n) (with_one_runs 0 n rs (omega arith) runs) h in
    (elim (in_with_one 0 n k rs runs i.0) [ inl old ↦ inl (has_waits changes k old) | inr e ↦ inr e ], i.1)
has_waits (known n ∷ changes) k h = let i = in_above n k (runs_after changes) h in (has_waits changes k i.0, i.1)

waits_has : (changes : List Change) (k : ℕ) → Waits changes k → Has (runs_after changes) k
waits_has [] k w = w
waits_has (came n ∷ changes) k w =
    let rs = runs_after changes in
    at_most_in k (with_one rs n) (with_one_in 0 n k rs (stand_runs changes) (elim w.0 [ inl old ↦ inl (waits_has changes k old) | inr e ↦ inr e ])) w.1
waits_has (known n ∷ changes) k w = above_in n k (runs_after changes) (waits_has changes k w.0) w.1

pub numbers : (changes : List Change) (k : ℕ) → Has (runs_after changes) k ↔ Waits changes k
numbers changes k = (has_waits changes k, waits_has changes k)

pub added : (changes : List Change) (n k : ℕ) → Has (with_one (runs_after changes) n) k ↔ (Has (runs_after changes) k ⊎ (k ≡ n))
added changes n k = (in_with_one 0 n k (runs_after changes) (stand_runs changes), with_one_in 0 n k (runs_after changes) (stand_runs changes))

-- ---- the greatest number

below_more : (arrivals : List (ℕ × ℕ)) (m n : ℕ) → m ≤ n → AreBelow arrivals m → AreBelow arrivals n
below_more [] m n le h = tt
below_more (arrival ∷ arrivals) m n le h = let lt = h.0 in (omega (arith, lt, le), below_more arrivals m n le h.1)

newest_below : (arrivals : List (ℕ × ℕ)) (held : ℕ × ℕ) (n : ℕ) → IsNewest arrivals held → held.0 < n → AreBelow arrivals n
newest_below [] held n h lt = absurd h
newest_below (arrival ∷ arrivals) held n h lt = elim h [
  | inl first ↦ (let e : held.0 ≡ arrival.0 = ap (λ (a : ℕ × ℕ). a.0) first.0 in
      (omega (arith, e, lt), below_more arrivals arrival.0 n (omega (arith, e, lt)) first.1))
  | inr later ↦ (let le = later.1 in (omega (arith, le, lt), newest_below arrivals held n later.0 lt))
]

newest_step : (arrivals : List (ℕ × ℕ)) (arrival : ℕ × ℕ) (o : Option (ℕ × ℕ)) → MatchOption o (arrivals ≡ []) (IsNewest arrivals) → MatchOption (newer o arrival.0 arrival.1) (arrival ∷ arrivals ≡ []) (IsNewest (arrival ∷ arrivals))
newest_step arrivals arrival None h = inl (refl, subst (λ (xs : List (ℕ × ℕ)). AreBelow xs arrival.0) (sym h) tt)
newest_step arrivals arrival (Some held) h = elim (cases_lt held.0 arrival.0) [
  | inl lt ↦ subst (λ (o : Option (ℕ × ℕ)). MatchOption o (arrival ∷ arrivals ≡ []) (IsNewest (arrival ∷ arrivals))) (sym (cond-true (nat_lt held.0 arrival.0) (Some (arrival.0, arrival.1)) (Some held) (lt-ltb held.0 arrival.0 lt)))
      (inl (refl, newest_below arrivals held arrival.0 h lt))
  | inr le ↦ subst (λ (o : Option (ℕ × ℕ)). MatchOption o (arrival ∷ arrivals ≡ []) (IsNewest (arrival ∷ arrivals))) (sym (cond-false (nat_lt held.0 arrival.0) (Some (arrival.0, arrival.1)) (Some held) (le-ltb held.0 arrival.0 le)))
      (inr (h, le))
]

pub newest : (arrivals : List (ℕ × ℕ)) → MatchOption (newest_after arrivals) (arrivals ≡ []) (IsNewest arrivals)
newest [] = refl
newest (arrival ∷ arrivals) = newest_step arrivals arrival (newest_after arrivals) (newest arrivals)

-- ---- the timer

some_from : {A : Type 0} (o : Option A) → is_none o ≡ false → is_some o ≡ true
some_from None e = cc
some_from (Some a) e = refl

wait_answers : (p : Pending) (now : ℕ) → IsTrue (can_send (with_wait p now)) ⊎ IsTrue (is_some (with_wait p now).since)
wait_answers p now = elim (cases_Bool (starts_wait p)) [
  | inl starts ↦ subst (λ (q : Pending). IsTrue (can_send q) ⊎ IsTrue (is_some q.since)) (sym (cond-true (starts_wait p) (record p { since = Some now }) p starts)) (inr refl)
  | inr stays ↦ subst (λ (q : Pending). IsTrue (can_send q) ⊎ IsTrue (is_some q.since)) (sym (cond-false (starts_wait p) (record p { since = Some now }) p stays))
      (elim (and_cases (is_none p.since) (not (can_send p)) stays) [
        | inl runs ↦ inr (some_from p.since runs)
        | inr goes ↦ inl (not-false (can_send p) goes)
      ])
]

pub answered : (p : Pending) (now n : ℕ) (s : Seen) → IsTrue (can_send (after_packet p now n true s)) ⊎ IsTrue (is_some (after_packet p now n true s).since)
answered p now n s = wait_answers (asking_counted p n s) now
