-- What the steps leave in the set, why an acknowledgement is due, and since when the timer runs.
use Rattle.std.proofs.Common.{◌≡◌, ℕ, ◌+◌, ◌-◌, ◌^◌, ◌≤◌, ◌<◌, ◌⊎◌, ◌↔◌, suc, zero, Bool, true, false, cond, max, min, Option, Some, None, List, [], ◌∷◌, refl, sym, ap, ◌∙◌, subst, inl, inr, arith}
use Rattle.std.specs.Prelude.{nat_lt, nat_le, ◌==◌, ◌||◌, unwrap_or, IsTrue, MatchOption}
use Rattle.std.proofs.lemmas.Bool.{cases_lt, lt-ltb, ltb-true, le-leb, or_left, or_right, or_cases, and_from, cond-false}
use Rattle.quic_recovery_core.specs.Duplicates.{Seen, smallest_missing}
use Rattle.quic_recovery_core.specs.DuplicateRuns.{seen_after, Lacks, IsLeastLacking}
use Rattle.quic_recovery_core.specs.PendingAcks.{Pending, count_up, with_one, at_most, above, newer, greatest_before, is_lost_by, leaves_gap, shows_loss, is_out_of_order, asking_counted, starts_wait, after_packet}
use Rattle.quic_recovery_core.specs.AckRuns.{runs_after, newest_after}
use Rattle.quic_recovery_core.specs.AckSteps.{Step, packet, sent, required, expired, lazy, told, put, cut, pending_after, asking_since, greatest_asking, greatest_acked, threshold_told, reordering_told, changes_of, arrivals_of, CameOutOfOrder, IsDue, AskedSince}
use Rattle.quic_recovery_core.specs.declared.spaces.pending_acks.TheConstants.{LAZY_ACK_THRESHOLD}
use Rattle.quic_recovery_core.proofs.DuplicateLaws.{missing}
use Rattle.quic_recovery_core.proofs.AckCounts.{asking_is, silent_is, greatest_is, acked_is, threshold_is, reordering_is}

-- ---- the set

-- neither the timer nor a packet changes the set
waits_runs : (p : Pending) (now : ℕ) (b : Bool) → (cond b (record p { since = Some now }) p).runs ≡ p.runs
waits_runs p now true = refl
waits_runs p now false = refl

packet_runs : (p : Pending) (now n : ℕ) (s : Seen) (b : Bool) → (after_packet p now n b s).runs ≡ p.runs
packet_runs p now n s true = waits_runs (asking_counted p n s) now (starts_wait (asking_counted p n s))
packet_runs p now n s false = refl

pub runs_are : (steps : List Step) → (pending_after steps).runs ≡ runs_after (changes_of steps)
runs_are [] = refl
runs_are (packet now n asks s ∷ steps) = packet_runs (pending_after steps) now n s asks ∙ runs_are steps
runs_are (sent ∷ steps) = runs_are steps
runs_are (required ∷ steps) = runs_are steps
runs_are (expired ∷ steps) = runs_are steps
runs_are (lazy ∷ steps) = runs_are steps
runs_are (told threshold reordering ∷ steps) = runs_are steps
runs_are (put k now ∷ steps) = ap (λ rs. at_most (with_one rs k)) (runs_are steps)
runs_are (cut k ∷ steps) = ap (λ rs. above rs k) (runs_are steps)

waits_newest : (p : Pending) (now : ℕ) (b : Bool) → (cond b (record p { since = Some now }) p).newest ≡ p.newest
waits_newest p now true = refl
waits_newest p now false = refl

packet_newest : (p : Pending) (now n : ℕ) (s : Seen) (b : Bool) → (after_packet p now n b s).newest ≡ p.newest
packet_newest p now n s true = waits_newest (asking_counted p n s) now (starts_wait (asking_counted p n s))
packet_newest p now n s false = refl

pub newest_is : (steps : List Step) → (pending_after steps).newest ≡ newest_after (arrivals_of steps)
newest_is [] = refl
newest_is (packet now n asks s ∷ steps) = packet_newest (pending_after steps) now n s asks ∙ newest_is steps
newest_is (sent ∷ steps) = newest_is steps
newest_is (required ∷ steps) = newest_is steps
newest_is (expired ∷ steps) = newest_is steps
newest_is (lazy ∷ steps) = newest_is steps
newest_is (told threshold reordering ∷ steps) = newest_is steps
newest_is (put k now ∷ steps) = ap (λ (o : Option (ℕ × ℕ)). newer o k now) (newest_is steps)
newest_is (cut k ∷ steps) = newest_is steps

-- ---- what is due

waits_due : (p : Pending) (now : ℕ) (b : Bool) → (cond b (record p { since = Some now }) p).due ≡ p.due
waits_due p now true = refl
waits_due p now false = refl

-- whether a packet is out of order, by what is kept of those before
abbrev out_of_order : ℕ → Option ℕ → Option ℕ → ℕ → Seen → Bool
out_of_order reordering acked held n s = cond (reordering == 0) false (cond (reordering == 1) (leaves_gap (unwrap_or held 0) n s) (shows_loss acked reordering (max (unwrap_or held 0) n) s))

by_steps : (steps : List Step) (n : ℕ) (s : Seen) →
    is_out_of_order (pending_after steps) (greatest_before (pending_after steps)) (max (greatest_before (pending_after steps)) n) n s ≡ out_of_order (reordering_told steps) (greatest_acked steps) (greatest_asking steps) n s
by_steps steps n s =
    let p = pending_after steps in
    ap (λ (r : ℕ). out_of_order r p.acked p.greatest n s) (reordering_is steps)
    ∙ ap (λ (o : Option ℕ). out_of_order (reordering_told steps) o p.greatest n s) (acked_is steps)
    ∙ ap (λ (o : Option ℕ). out_of_order (reordering_told steps) (greatest_acked steps) o n s) (greatest_is steps)

-- a threshold of 1, or above
at_one : (reordering : ℕ) (gap loss : Bool) → reordering ≡ 1 → cond (reordering == 0) false (cond (reordering == 1) gap loss) ≡ gap
at_one reordering gap loss e = ap (λ (r : ℕ). cond (r == 0) false (cond (r == 1) gap loss)) e

above_one : (reordering : ℕ) (gap loss : Bool) → 1 < reordering → cond (reordering == 0) false (cond (reordering == 1) gap loss) ≡ loss
above_one reordering gap loss lt =
    let some : (reordering == 0) ≡ false = grind arith in
    let more : (reordering == 1) ≡ false = grind arith in
    cond-false (reordering == 0) false (cond (reordering == 1) gap loss) some ∙ cond-false (reordering == 1) gap loss more

order_tells : (reordering : ℕ) (gap loss : Bool) → cond (reordering == 0) false (cond (reordering == 1) gap loss) ≡ true → ((reordering ≡ 1) × (gap ≡ true)) ⊎ ((1 < reordering) × (loss ≡ true))
order_tells zero gap loss e = cc
order_tells (suc r) gap loss e = elim (cases_lt 1 (suc r)) [
  | inl lt ↦ inr (lt, sym (above_one (suc r) gap loss lt) ∙ e)
  | inr le ↦ (let one : suc r ≡ 1 = omega (arith, le) in inl (one, sym (at_one (suc r) gap loss one) ∙ e))
]

order_from : (reordering : ℕ) (gap loss : Bool) → ((reordering ≡ 1) × (gap ≡ true)) ⊎ ((1 < reordering) × (loss ≡ true)) → cond (reordering == 0) false (cond (reordering == 1) gap loss) ≡ true
order_from reordering gap loss (inl h) = at_one reordering gap loss h.0 ∙ h.1
order_from reordering gap loss (inr h) = above_one reordering gap loss h.0 ∙ h.1

-- why a packet that asks makes it due
abbrev Cause : List Step → ℕ → Seen → Type 0
Cause steps n s = (threshold_told steps < min (asking_since steps + 1) (2 ^ 64 - 1)) ⊎ CameOutOfOrder steps n s

packet_tells : (steps : List Step) (now n : ℕ) (s : Seen) (b : Bool) → (after_packet (pending_after steps) now n b s).due ≡ true → ((pending_after steps).due ≡ true) ⊎ ((b ≡ true) × Cause steps n s)
packet_tells steps now n s false e = inl e
packet_tells steps now n s true e =
    let p = pending_after steps in
    let late = nat_lt p.threshold (count_up p.asking) in
    let order = is_out_of_order p (greatest_before p) (max (greatest_before p) n) n s in
    let before = unwrap_or (greatest_asking steps) 0 in
    elim (or_cases p.due (late || order) (sym (waits_due (asking_counted p n s) now (starts_wait (asking_counted p n s))) ∙ e)) [
      | inl was ↦ inl was
      | inr more ↦ inr (
        refl,
        elim (or_cases late order more) [
          | inl many ↦ (let lt = ltb-true p.threshold (count_up p.asking) many in
              let count = asking_is steps in
              let threshold = threshold_is steps in
              inl (omega (arith, lt, count, threshold)))
          | inr out ↦ inr (order_tells (reordering_told steps) (leaves_gap before n s) (shows_loss (greatest_acked steps) (reordering_told steps) (max before n) s) (sym (by_steps steps n s) ∙ out))
        ],
      )
    ]

packet_from : (steps : List Step) (now n : ℕ) (s : Seen) (b : Bool) → ((pending_after steps).due ≡ true) ⊎ ((b ≡ true) × Cause steps n s) → (after_packet (pending_after steps) now n b s).due ≡ true
packet_from steps now n s false (inl was) = was
packet_from steps now n s false (inr h) = let e = h.0 in cc
packet_from steps now n s true h =
    let p = pending_after steps in
    let late = nat_lt p.threshold (count_up p.asking) in
    let order = is_out_of_order p (greatest_before p) (max (greatest_before p) n) n s in
    let before = unwrap_or (greatest_asking steps) 0 in
    waits_due (asking_counted p n s) now (starts_wait (asking_counted p n s)) ∙ elim h [
      | inl was ↦ or_left p.due (late || order) was
      | inr cause ↦ or_right p.due (late || order) (elim cause.1 [
        | inl lt ↦ (let count = asking_is steps in
            let threshold = threshold_is steps in
            or_left late order (lt-ltb p.threshold (count_up p.asking) (omega (arith, lt, count, threshold))))
        | inr out ↦ or_right late order (by_steps steps n s ∙ order_from (reordering_told steps) (leaves_gap before n s) (shows_loss (greatest_acked steps) (reordering_told steps) (max before n) s) out)
      ])
    ]

due_tells : (steps : List Step) → (pending_after steps).due ≡ true → IsDue steps
due_tells [] e = cc
due_tells (packet now n asks s ∷ steps) e = elim (packet_tells steps now n s asks e) [ inl was ↦ inl (due_tells steps was) | inr cause ↦ inr cause ]
due_tells (sent ∷ steps) e = cc
due_tells (required ∷ steps) e = tt
due_tells (expired ∷ steps) e =
    let lt = ltb-true 0 (pending_after steps).asking e in
    let count = asking_is steps in
    omega (arith, lt, count)
due_tells (lazy ∷ steps) e = elim (or_cases (pending_after steps).due (nat_lt LAZY_ACK_THRESHOLD (pending_after steps).silent) e) [
  | inl was ↦ inl (due_tells steps was)
  | inr many ↦ inr (subst (λ (m : ℕ). LAZY_ACK_THRESHOLD < m) (silent_is steps) (ltb-true LAZY_ACK_THRESHOLD (pending_after steps).silent many))
]
due_tells (told threshold reordering ∷ steps) e = due_tells steps e
due_tells (put k now ∷ steps) e = due_tells steps e
due_tells (cut k ∷ steps) e = due_tells steps e

due_from : (steps : List Step) → IsDue steps → (pending_after steps).due ≡ true
due_from [] d = absurd d
due_from (packet now n asks s ∷ steps) d = packet_from steps now n s asks (elim d [ inl was ↦ inl (due_from steps was) | inr cause ↦ inr cause ])
due_from (sent ∷ steps) d = absurd d
due_from (required ∷ steps) d = refl
due_from (expired ∷ steps) d =
    let count = asking_is steps in
    lt-ltb 0 (pending_after steps).asking (omega (arith, d, count))
due_from (lazy ∷ steps) d =
    let many = nat_lt LAZY_ACK_THRESHOLD (pending_after steps).silent in
    elim d [
      | inl was ↦ or_left (pending_after steps).due many (due_from steps was)
      | inr lt ↦ or_right (pending_after steps).due many (lt-ltb LAZY_ACK_THRESHOLD (pending_after steps).silent (subst (λ (m : ℕ). LAZY_ACK_THRESHOLD < m) (sym (silent_is steps)) lt))
    ]
due_from (told threshold reordering ∷ steps) d = due_from steps d
due_from (put k now ∷ steps) d = due_from steps d
due_from (cut k ∷ steps) d = due_from steps d

pub due_for_a_cause : (steps : List Step) → IsTrue (pending_after steps).due ↔ IsDue steps
due_for_a_cause steps = (due_tells steps, due_from steps)

-- ---- the timer

waits_since : (p : Pending) (now m : ℕ) (b : Bool) → (cond b (record p { since = Some now }) p).since ≡ Some m → (m ≡ now) ⊎ (p.since ≡ Some m)
waits_since p now m true e = inl (sym (ap (λ (o : Option ℕ). unwrap_or o 0) e))
waits_since p now m false e = inr e

packet_since : (p : Pending) (now n m : ℕ) (s : Seen) (b : Bool) → (after_packet p now n b s).since ≡ Some m → ((b ≡ true) × (m ≡ now)) ⊎ (p.since ≡ Some m)
packet_since p now n m s true e = elim (waits_since (asking_counted p n s) now m (starts_wait (asking_counted p n s)) e) [ inl is ↦ inl (refl, is) | inr was ↦ inr was ]
packet_since p now n m s false e = inr e

pub began : (steps : List Step) (m : ℕ) → (pending_after steps).since ≡ Some m → AskedSince steps m
began [] m e = cc
began (packet now n asks s ∷ steps) m e = elim (packet_since (pending_after steps) now n m s asks e) [ inl here ↦ inl here | inr was ↦ inr (began steps m was) ]
began (sent ∷ steps) m e = cc
began (required ∷ steps) m e = began steps m e
began (expired ∷ steps) m e = began steps m e
began (lazy ∷ steps) m e = began steps m e
began (told threshold reordering ∷ steps) m e = began steps m e
began (put k now ∷ steps) m e = began steps m e
began (cut k ∷ steps) m e = began steps m e

-- ---- missing numbers

-- the least that lacks is no greater than another that does
least_lost : (ns : List ℕ) (low high k reordering : ℕ) (o : Option ℕ) → MatchOption o ((j : ℕ) → low < j → j < high → Lacks ns j → ⊥) (IsLeastLacking ns low high) → low < k → k < high → reordering ≤ high - k → Lacks ns k → is_lost_by o high reordering ≡ true
least_lost ns low high k reordering None h from to le lacks = absurd (h k from to lacks)
least_lost ns low high k reordering (Some m) h from to le lacks = elim (cases_lt k m) [
  | inl lt ↦ absurd (h.3 k from lt lacks)
  | inr least ↦ le-leb reordering (high - m) (omega (arith, least, le))
]

pub lost_shows : (ns : List ℕ) (acked reordering greatest k : ℕ) → reordering ≤ acked → acked - reordering + 1 < k → k < greatest → reordering ≤ greatest - k → Lacks ns k → IsTrue (shows_loss (Some acked) reordering greatest (seen_after ns))
lost_shows ns acked reordering greatest k reached from to le lacks =
    let low = acked - reordering + 1 in
    let least = smallest_missing (seen_after ns) low greatest in
    and_from (nat_le reordering acked) (is_lost_by least greatest reordering) (le-leb reordering acked reached) (least_lost ns low greatest k reordering least (missing ns low greatest) from to le lacks)
