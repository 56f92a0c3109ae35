-- What is counted since the last acknowledgement went, and when one is due.
use Rattle.std.proofs.Common.{◌≡◌, ℕ, ◌+◌, ◌-◌, ◌^◌, ◌<◌, Bool, true, false, cond, max, min, Option, Some, None, List, [], ◌∷◌, refl, sym, ap, ◌∙◌, arith}
use Rattle.std.specs.Prelude.{nat_lt, not, ◌==◌, ◌||◌, unwrap_or, is_some, IsTrue, MatchOption}
use Rattle.std.proofs.lemmas.Bool.{lt-ltb, or_left, or_right}
use Rattle.quic_recovery_core.specs.Duplicates.{Seen, smallest_missing}
use Rattle.quic_recovery_core.specs.DuplicateRuns.{seen_after, Lacks, IsLeastLacking}
use Rattle.quic_recovery_core.proofs.DuplicateLaws.{missing}
use Rattle.quic_recovery_core.specs.PendingAcks.{Pending, count_up, greatest_before, leaves_gap, shows_loss, is_out_of_order, asking_counted, starts_wait, after_packet}
use Rattle.quic_recovery_core.specs.AckSteps.{Step, packet, sent, required, expired, lazy, told, put, cut, pending_after, count_if, asking_since, silent_since, greater_if, greatest_asking, greatest_acked, threshold_told, reordering_told, AreUsual}
use Rattle.quic_recovery_core.specs.declared.spaces.pending_acks.TheConstants.{LAZY_ACK_THRESHOLD}

-- what the steps leave
record Counts (asks silent : ℕ) (greatest acked : Option ℕ) (threshold reordering : ℕ) (p : Pending) : Type 0 where
  asking : p.asking ≡ min asks (2 ^ 64 - 1)
  silent_ones : p.silent ≡ min silent (2 ^ 64 - 1)
  greatest_is : p.greatest ≡ greatest
  acked_is : p.acked ≡ acked
  threshold_is : p.threshold ≡ threshold
  reordering_is : p.reordering ≡ reordering

-- the timer changes none of them
waits : (asks silent : ℕ) (greatest acked : Option ℕ) (threshold reordering : ℕ) (p : Pending) (now : ℕ) (b : Bool) → Counts asks silent greatest acked threshold reordering p → Counts asks silent greatest acked threshold reordering (cond b (record p { since = Some now }) p)
waits asks silent greatest acked threshold reordering p now true h = record {
  asking = h.asking;
  silent_ones = h.silent_ones;
  greatest_is = h.greatest_is;
  acked_is = h.acked_is;
  threshold_is = h.threshold_is;
  reordering_is = h.reordering_is;
}
waits asks silent greatest acked threshold reordering p now false h = h

packet_counts : (asks silent : ℕ) (greatest acked : Option ℕ) (threshold reordering : ℕ) (p : Pending) (now n : ℕ) (s : Seen) (b : Bool) → Counts asks silent greatest acked threshold reordering p
    → Counts (count_if b asks) (count_if (not b) silent) (greater_if b greatest n) acked threshold reordering (after_packet p now n b s)
packet_counts asks silent greatest acked threshold reordering p now n s true h =
    let count = h.asking in
    waits (asks + 1) silent (Some (max (unwrap_or greatest 0) n)) acked threshold reordering (asking_counted p n s) now (starts_wait (asking_counted p n s)) (record {
      asking = omega (arith, count);
      silent_ones = h.silent_ones;
      greatest_is = ap (λ (o : Option ℕ). Some (max (unwrap_or o 0) n)) h.greatest_is;
      acked_is = h.acked_is;
      threshold_is = h.threshold_is;
      reordering_is = h.reordering_is;
    })
packet_counts asks silent greatest acked threshold reordering p now n s false h =
    let count = h.silent_ones in
    record {
      asking = h.asking;
      silent_ones = omega (arith, count);
      greatest_is = h.greatest_is;
      acked_is = h.acked_is;
      threshold_is = h.threshold_is;
      reordering_is = h.reordering_is;
    }

-- a step that changes none of them
same : (p : Pending) (steps : List Step) → Counts (asking_since steps) (silent_since steps) (greatest_asking steps) (greatest_acked steps) (threshold_told steps) (reordering_told steps) (pending_after steps)
    → p.asking ≡ (pending_after steps).asking → p.silent ≡ (pending_after steps).silent → p.greatest ≡ (pending_after steps).greatest → p.acked ≡ (pending_after steps).acked → p.threshold ≡ (pending_after steps).threshold → p.reordering ≡ (pending_after steps).reordering
    → Counts (asking_since steps) (silent_since steps) (greatest_asking steps) (greatest_acked steps) (threshold_told steps) (reordering_told steps) p
same p steps h a b c d e f = record { asking = a ∙ h.asking; silent_ones = b ∙ h.silent_ones; greatest_is = c ∙ h.greatest_is; acked_is = d ∙ h.acked_is; threshold_is = e ∙ h.threshold_is; reordering_is = f ∙ h.reordering_is }

counts : (steps : List Step) → Counts (asking_since steps) (silent_since steps) (greatest_asking steps) (greatest_acked steps) (threshold_told steps) (reordering_told steps) (pending_after steps)
counts [] = record { asking = refl; silent_ones = refl; greatest_is = refl; acked_is = refl; threshold_is = refl; reordering_is = refl }
counts (packet now n asks s ∷ steps) =
    packet_counts (asking_since steps) (silent_since steps) (greatest_asking steps) (greatest_acked steps) (threshold_told steps) (reordering_told steps) (pending_after steps) now n s asks (counts steps)
counts (sent ∷ steps) =
    let h = counts steps in
    record { asking = refl; silent_ones = refl; greatest_is = h.greatest_is; acked_is = h.greatest_is; threshold_is = h.threshold_is; reordering_is = h.reordering_is }
counts (required ∷ steps) = same (pending_after (required ∷ steps)) steps (counts steps) refl refl refl refl refl refl
counts (expired ∷ steps) = same (pending_after (expired ∷ steps)) steps (counts steps) refl refl refl refl refl refl
counts (lazy ∷ steps) = same (pending_after (lazy ∷ steps)) steps (counts steps) refl refl refl refl refl refl
counts (told threshold reordering ∷ steps) =
    let h = counts steps in
    record { asking = h.asking; silent_ones = h.silent_ones; greatest_is = h.greatest_is; acked_is = h.acked_is; threshold_is = refl; reordering_is = refl }
counts (put n now ∷ steps) = same (pending_after (put n now ∷ steps)) steps (counts steps) refl refl refl refl refl refl
counts (cut n ∷ steps) = same (pending_after (cut n ∷ steps)) steps (counts steps) refl refl refl refl refl refl

-- ---- what is due

-- the timer changes nothing in what is due
due_waits : (p : Pending) (now : ℕ) (b : Bool) → p.due ≡ true → (cond b (record p { since = Some now }) p).due ≡ true
due_waits p now true e = e
due_waits p now false e = e

-- a packet more than the threshold makes one due
above_due : (p : Pending) (now n : ℕ) (s : Seen) → p.threshold < count_up p.asking → (after_packet p now n true s).due ≡ true
above_due p now n s lt =
    let late : nat_lt p.threshold (count_up p.asking) ≡ true = lt-ltb p.threshold (count_up p.asking) lt in
    let order = is_out_of_order p (greatest_before p) (max (greatest_before p) n) n s in
    due_waits (asking_counted p n s) now (starts_wait (asking_counted p n s)) (or_right p.due (nat_lt p.threshold (count_up p.asking) || order) (or_left (nat_lt p.threshold (count_up p.asking)) order late))

pub threshold_due : (steps : List Step) (now n : ℕ) (s : Seen) → threshold_told steps < asking_since steps + 1 → asking_since steps + 1 < 2 ^ 64 → IsTrue (pending_after (packet now n true s ∷ steps)).due
threshold_due steps now n s lt small =
    let h = counts steps in
    let count = h.asking in
    let threshold = h.threshold_is in
    above_due (pending_after steps) now n s (omega (arith, count, threshold, lt, small))

-- no threshold was told: it is 1
usual : (steps : List Step) → AreUsual steps → threshold_told steps ≡ 1
usual [] u = refl
usual (packet now n asks s ∷ steps) u = usual steps u
usual (sent ∷ steps) u = usual steps u
usual (required ∷ steps) u = usual steps u
usual (expired ∷ steps) u = usual steps u
usual (lazy ∷ steps) u = usual steps u
usual (told threshold reordering ∷ steps) u = absurd u
usual (put n now ∷ steps) u = usual steps u
usual (cut n ∷ steps) u = usual steps u

-- a packet that asks makes one due, where one asked before, and the others leave it so
packet_due : (steps : List Step) (now n : ℕ) (s : Seen) (b : Bool) → threshold_told steps ≡ 1 → (1 < asking_since steps → (pending_after steps).due ≡ true) → 1 < count_if b (asking_since steps) → (after_packet (pending_after steps) now n b s).due ≡ true
packet_due steps now n s true one before lt =
    let h = counts steps in
    let count = h.asking in
    let threshold = h.threshold_is in
    above_due (pending_after steps) now n s (omega (arith, count, threshold, one, lt))
packet_due steps now n s false one before lt = before lt

pub due_is : (steps : List Step) → AreUsual steps → 1 < asking_since steps → IsTrue (pending_after steps).due
due_is [] u lt = absurd (omega (arith, lt))
due_is (packet now n asks s ∷ steps) u lt = packet_due steps now n s asks (usual steps u) (due_is steps u) lt
due_is (sent ∷ steps) u lt = absurd (omega (arith, lt))
due_is (required ∷ steps) u lt = refl
due_is (expired ∷ steps) u lt = let count = (counts steps).asking in lt-ltb 0 (pending_after steps).asking (omega (arith, count, lt))
due_is (lazy ∷ steps) u lt = or_left (pending_after steps).due (nat_lt LAZY_ACK_THRESHOLD (pending_after steps).silent) (due_is steps u lt)
due_is (told threshold reordering ∷ steps) u lt = absurd u
due_is (put n now ∷ steps) u lt = due_is steps u lt
due_is (cut n ∷ steps) u lt = due_is steps u lt

-- ---- what is counted

pub asking_is : (steps : List Step) → (pending_after steps).asking ≡ min (asking_since steps) (2 ^ 64 - 1)
asking_is steps = (counts steps).asking

pub silent_is : (steps : List Step) → (pending_after steps).silent ≡ min (silent_since steps) (2 ^ 64 - 1)
silent_is steps = (counts steps).silent_ones

pub greatest_is : (steps : List Step) → (pending_after steps).greatest ≡ greatest_asking steps
greatest_is steps = (counts steps).greatest_is

pub acked_is : (steps : List Step) → (pending_after steps).acked ≡ greatest_acked steps
acked_is steps = (counts steps).acked_is

pub threshold_is : (steps : List Step) → (pending_after steps).threshold ≡ threshold_told steps
threshold_is steps = (counts steps).threshold_is

pub reordering_is : (steps : List Step) → (pending_after steps).reordering ≡ reordering_told steps
reordering_is steps = (counts steps).reordering_is

-- ---- packets out of order

-- at the threshold of the beginning a packet is out of order where it leaves a gap
out_of_order : (p : Pending) (before greatest n : ℕ) (s : Seen) → p.reordering ≡ 1 → is_out_of_order p before greatest n s ≡ leaves_gap before n s
out_of_order p before greatest n s e = ap (λ (r : ℕ). cond (r == 0) false (cond (r == 1) (leaves_gap before n s) (shows_loss p.acked r greatest s))) e

gap_due : (steps : List Step) (now n : ℕ) (s : Seen) → reordering_told steps ≡ 1 → leaves_gap (unwrap_or (greatest_asking steps) 0) n s ≡ true → IsTrue (pending_after (packet now n true s ∷ steps)).due
gap_due steps now n s one e =
    let p = pending_after steps in
    let h = counts steps in
    let before : unwrap_or (greatest_asking steps) 0 ≡ greatest_before p = ap (λ (o : Option ℕ). unwrap_or o 0) (sym h.greatest_is) in
    let greatest = max (greatest_before p) n in
    let gap : is_out_of_order p (greatest_before p) greatest n s ≡ true = out_of_order p (greatest_before p) greatest n s (h.reordering_is ∙ one) ∙ ap (λ (b : ℕ). leaves_gap b n s) (sym before) ∙ e in
    let late = nat_lt p.threshold (count_up p.asking) in
    let order = is_out_of_order p (greatest_before p) greatest n s in
    due_waits (asking_counted p n s) now (starts_wait (asking_counted p n s)) (or_right p.due (late || order) (or_right late order gap))

pub below_due : (steps : List Step) (now n : ℕ) (s : Seen) → reordering_told steps ≡ 1 → n < unwrap_or (greatest_asking steps) 0 → IsTrue (pending_after (packet now n true s ∷ steps)).due
below_due steps now n s one lt =
    let before = unwrap_or (greatest_asking steps) 0 in
    gap_due steps now n s one (or_left (nat_lt n before) (is_some (smallest_missing s before n)) (lt-ltb n before lt))

some_missing : (ns : List ℕ) (low high k : ℕ) (o : Option ℕ) → MatchOption o ((j : ℕ) → low < j → j < high → Lacks ns j → ⊥) (IsLeastLacking ns low high) → low < k → k < high → Lacks ns k → is_some o ≡ true
some_missing ns low high k None h from to lacks = absurd (h k from to lacks)
some_missing ns low high k (Some m) h from to lacks = refl

pub lacking_due : (steps : List Step) (now n k : ℕ) (ns : List ℕ) → reordering_told steps ≡ 1 → unwrap_or (greatest_asking steps) 0 < k → k < n → Lacks ns k → IsTrue (pending_after (packet now n true (seen_after ns) ∷ steps)).due
lacking_due steps now n k ns one from to lacks =
    let before = unwrap_or (greatest_asking steps) 0 in
    let s = seen_after ns in
    gap_due steps now n s one (or_right (nat_lt n before) (is_some (smallest_missing s before n)) (some_missing ns before n k (smallest_missing s before n) (missing ns before n) from to lacks))
