-- A watch finds persistent congestion exactly where the lost packets show it.
use Rattle.std.proofs.Common.{◌≡◌, ℕ, ◌+◌, ◌<◌, ◌≤◌, ◌⊎◌, ◌==◌, ◌&&◌, ◌||◌, Bool, true, false, min, List, [], ◌∷◌, ◌++◌, Option, Some, None, refl, sym, ap, subst, inl, inr, nat_lt, fold, eq-eqb, arith}
use Rattle.quic_spaces.specs.Persistent.{Loss, AreConsecutive, IsSampled, IsPersistent}
use Rattle.quic_spaces.specs.PersistentSteps.{Watch, no_losses, follows, kept_if, is_far, is_sampled, earliest, since_before, after_loss, FindsPersistent}

-- ---- what the lost packets show, from the first on

-- behind a number, each follows the one before, up to one that asks and went more than the period
-- after a moment
abbrev pub Far : ℕ → ℕ → ℕ → List Loss → Type 0
Far period n t [] = ⊥
Far period n t (m ∷ ms) = (m.number ≡ n + 1) × (((m.asks ≡ true) × (t + period < m.time_sent)) ⊎ Far period m.number t ms)

abbrev pub Shown : ℕ → Option ℕ → List Loss → Type 0
Shown period sampled [] = ⊥
Shown period sampled (l ∷ ls) = ((l.asks ≡ true) × IsSampled sampled l.number × Far period l.number l.time_sent ls) ⊎ Shown period sampled ls

-- a packet that asks went, and one far behind it is lost with each between them
record Stretch (period : ℕ) (l : Loss) (t : ℕ) (ls : List Loss) : Type 0 where
  between : List Loss
  last : Loss
  behind : List Loss
  split : ls ≡ between ++ last ∷ behind
  gapless : AreConsecutive (l ∷ between ++ last ∷ [])
  asks : last.asks ≡ true
  apart : t + period < last.time_sent

far_stretch : (period : ℕ) (l : Loss) (t : ℕ) (ls : List Loss) → Far period l.number t ls → Stretch period l t ls
far_stretch period l t [] h = absurd h
far_stretch period l t (m ∷ ms) (e, inl h) = record { between = []; last = m; behind = ms; split = refl; gapless = (e, tt); asks = h.0; apart = h.1 }
far_stretch period l t (m ∷ ms) (e, inr h) =
    let s = far_stretch period m t ms h in
    record { between = m ∷ s.between; last = s.last; behind = s.behind; split = ap (λ xs. m ∷ xs) s.split; gapless = (e, s.gapless); asks = s.asks; apart = s.apart }

stretch_far : (period : ℕ) (l : Loss) (t : ℕ) (between : List Loss) (last : Loss) (behind : List Loss)
    → AreConsecutive (l ∷ between ++ last ∷ []) → last.asks ≡ true → t + period < last.time_sent → Far period l.number t (between ++ last ∷ behind)
stretch_far period l t [] last behind g a far = (g.0, inl (a, far))
stretch_far period l t (m ∷ ms) last behind g a far = (g.0, inr (stretch_far period m t ms last behind g.1 a far))

-- what is shown is what is so
shown_is : (period : ℕ) (sampled : Option ℕ) (lost : List Loss) → Shown period sampled lost → IsPersistent period sampled lost
shown_is period sampled [] h = absurd h
shown_is period sampled (l ∷ ls) (inl h) =
    let s = far_stretch period l l.time_sent ls h.2 in
    record { front = []; first = l; between = s.between; last = s.last; behind = s.behind; split = ap (λ xs. l ∷ xs) s.split; gapless = s.gapless; first_asks = h.0; last_asks = s.asks; apart = s.apart; measured = h.1 }
shown_is period sampled (l ∷ ls) (inr h) =
    let p = shown_is period sampled ls h in
    record { front = l ∷ p.front; first = p.first; between = p.between; last = p.last; behind = p.behind; split = ap (λ xs. l ∷ xs) p.split; gapless = p.gapless; first_asks = p.first_asks; last_asks = p.last_asks; apart = p.apart; measured = p.measured }

shown_behind : (period : ℕ) (sampled : Option ℕ) (front : List Loss) (first : Loss) (between : List Loss) (last : Loss) (behind : List Loss)
    → AreConsecutive (first ∷ between ++ last ∷ []) → first.asks ≡ true → last.asks ≡ true → first.time_sent + period < last.time_sent → IsSampled sampled first.number
    → Shown period sampled (front ++ first ∷ between ++ last ∷ behind)
shown_behind period sampled [] first between last behind g a b far m = inl (a, m, stretch_far period first first.time_sent between last behind g b far)
shown_behind period sampled (x ∷ xs) first between last behind g a b far m = inr (shown_behind period sampled xs first between last behind g a b far m)

is_shown : (period : ℕ) (sampled : Option ℕ) (lost : List Loss) → IsPersistent period sampled lost → Shown period sampled lost
is_shown period sampled lost p =
    subst (Shown period sampled) (sym p.split) (shown_behind period sampled p.front p.first p.between p.last p.behind p.gapless p.first_asks p.last_asks p.apart p.measured)

-- ---- what is kept tells the same

or_true : (a b : Bool) → (a || b) ≡ true → (a ≡ true) ⊎ (b ≡ true)
or_true true b h = inl refl
or_true false b h = inr h

and_true : (a b : Bool) → (a && b) ≡ true → (a ≡ true) × (b ≡ true)
and_true true b h = (refl, h)
and_true false b h = (h, cc)

or_right : (a b : Bool) → b ≡ true → (a || b) ≡ true
or_right true b h = refl
or_right false b h = h

or_left : (a b : Bool) → a ≡ true → (a || b) ≡ true
or_left a b h = rw h refl

min_cases : (a b : ℕ) → (min a b ≡ a) ⊎ (min a b ≡ b)
min_cases a b = grind arith

-- from an earlier moment on, all the more
far_earlier : (period n s t : ℕ) (ls : List Loss) → s ≤ t → Far period n t ls → Far period n s ls
far_earlier period n s t [] le h = absurd h
far_earlier period n s t (m ∷ ms) le (e, inl h) = (e, inl (h.0, (let far : t + period < m.time_sent = h.1 in omega arith)))
far_earlier period n s t (m ∷ ms) le (e, inr h) = (e, inr (far_earlier period m.number s t ms le h))

far_min : (period n s t : ℕ) (ls : List Loss) → Far period n (min s t) ls → Far period n s ls ⊎ Far period n t ls
far_min period n s t ls h = elim (min_cases s t) [ inl e ↦ inl (subst (λ m. Far period n m ls) e h) | inr e ↦ inr (subst (λ m. Far period n m ls) e h) ]

-- what goes on from what was kept
abbrev pub From : ℕ → Option ℕ → Option ℕ → List Loss → Type 0
From period None since ls = ⊥
From period (Some n) None ls = ⊥
From period (Some n) (Some t) ls = Far period n t ls

-- what goes on with a loss from the earliest moment that is left
abbrev pub Now : ℕ → Option ℕ → Loss → List Loss → Type 0
Now period None l ls = ⊥
Now period (Some t) l ls = ((l.asks ≡ true) × (t + period < l.time_sent)) ⊎ Far period l.number t ls

now_goes : (period : ℕ) (last since : Option ℕ) (l : Loss) (ls : List Loss) → From period last since (l ∷ ls) → Now period (kept_if (follows last l.number) since) l ls
now_goes period None since l ls h = absurd h
now_goes period (Some m) None l ls h = absurd h
now_goes period (Some m) (Some t) l ls h = rw (eq-eqb l.number (m + 1) h.0) h.1

goes_at : (period m : ℕ) (since : Option ℕ) (l : Loss) (ls : List Loss) (b : Bool) → (b ≡ true → l.number ≡ m + 1) → Now period (kept_if b since) l ls → From period (Some m) since (l ∷ ls)
goes_at period m None l ls true e h = absurd h
goes_at period m None l ls false e h = absurd h
goes_at period m (Some t) l ls true e h = (e refl, h)
goes_at period m (Some t) l ls false e h = absurd h

goes_now : (period : ℕ) (last since : Option ℕ) (l : Loss) (ls : List Loss) → Now period (kept_if (follows last l.number) since) l ls → From period last since (l ∷ ls)
goes_now period None since l ls h = absurd h
goes_now period (Some m) since l ls h = goes_at period m since l ls (l.number == m + 1) (λ e. grind arith) h

-- where a moment lies far behind the earliest
now_far : (period : ℕ) (since : Option ℕ) (l : Loss) (ls : List Loss) → l.asks ≡ true → is_far period since l.time_sent ≡ true → Now period since l ls
now_far period None l ls a h = cc
now_far period (Some t) l ls a h = inl (a, grind arith)

-- the earliest moment once a loss counts or doesn't
goes_on : (period n time : ℕ) (b : Bool) (since : Option ℕ) (ls : List Loss) → From period (Some n) (earliest b time since) ls → ((b ≡ true) × Far period n time ls) ⊎ From period (Some n) since ls
goes_on period n time false since ls h = inr h
goes_on period n time true None ls h = inl (refl, h)
goes_on period n time true (Some t) ls h = elim (far_min period n time t ls h) [ inl k ↦ inl (refl, k) | inr k ↦ inr k ]

now_later : (period : ℕ) (since : Option ℕ) (l : Loss) (ls : List Loss) → From period (Some l.number) since ls → Now period since l ls
now_later period None l ls h = absurd h
now_later period (Some t) l ls h = inr h

sampled_is : (sampled : Option ℕ) (n : ℕ) → is_sampled sampled n ≡ true → IsSampled sampled n
sampled_is None n h = cc
sampled_is (Some first) n h = grind arith

is_sampled_so : (sampled : Option ℕ) (n : ℕ) → IsSampled sampled n → is_sampled sampled n ≡ true
is_sampled_so None n h = absurd h
is_sampled_so (Some first) n h = grind arith

-- what is found, or will be
abbrev pub Holds : Watch → List Loss → Type 0
Holds w ls = (w.found ≡ true) ⊎ (From w.period w.last w.since ls ⊎ Shown w.period w.sampled ls)

before_found : (w : Watch) (l : Loss) (ls : List Loss) → (w.found || (l.asks && is_far w.period (since_before w l.number) l.time_sent)) ≡ true → Holds w (l ∷ ls)
before_found w l ls h = elim (or_true _ _ h) [
  | inl k ↦ inl k
  | inr k ↦ let far = and_true _ _ k in inr (inl (goes_now w.period w.last w.since l ls (now_far w.period (since_before w l.number) l ls far.0 far.1)))
]

before_goes : (w : Watch) (l : Loss) (ls : List Loss) → From w.period (Some l.number) (after_loss w l).since ls → Holds w (l ∷ ls)
before_goes w l ls h = elim (goes_on w.period l.number l.time_sent (l.asks && is_sampled w.sampled l.number) (since_before w l.number) ls h) [
  | inl k ↦ let counts = and_true _ _ k.0 in inr (inr (inl (counts.0, sampled_is w.sampled l.number counts.1, k.1)))
  | inr k ↦ inr (inl (goes_now w.period w.last w.since l ls (now_later w.period (since_before w l.number) l ls k)))
]

before : (w : Watch) (l : Loss) (ls : List Loss) → Holds (after_loss w l) ls → Holds w (l ∷ ls)
before w l ls (inl h) = before_found w l ls h
before w l ls (inr (inl h)) = before_goes w l ls h
before w l ls (inr (inr h)) = inr (inr (inr h))

-- a loss that counts moves the earliest moment to its own, or before it
goes_counted : (period n time : ℕ) (b : Bool) (since : Option ℕ) (ls : List Loss) → b ≡ true → Far period n time ls → From period (Some n) (earliest b time since) ls
goes_counted period n time true None ls e h = h
goes_counted period n time true (Some t) ls e h = far_earlier period n (min time t) time ls (omega arith) h
goes_counted period n time false since ls e h = cc

goes_kept : (period n time : ℕ) (b : Bool) (t : ℕ) (ls : List Loss) → Far period n t ls → From period (Some n) (earliest b time (Some t)) ls
goes_kept period n time true t ls h = far_earlier period n (min time t) t ls (omega arith) h
goes_kept period n time false t ls h = h

-- what goes on with a loss is found then, or goes on from it
after_now : (period : ℕ) (found b : Bool) (since : Option ℕ) (l : Loss) (ls : List Loss) → Now period since l ls
    → ((found || (l.asks && is_far period since l.time_sent)) ≡ true) ⊎ From period (Some l.number) (earliest b l.time_sent since) ls
after_now period found b None l ls h = absurd h
after_now period found b (Some t) l ls (inl h) =
    let far : nat_lt (t + period) l.time_sent ≡ true = (let lt : t + period < l.time_sent = h.1 in grind arith) in
    inl (or_right found (l.asks && nat_lt (t + period) l.time_sent) (rw (h.0, far) refl))
after_now period found b (Some t) l ls (inr h) = inr (goes_kept period l.number l.time_sent b t ls h)

later_goes : (w : Watch) (l : Loss) (ls : List Loss) → From w.period w.last w.since (l ∷ ls) → Holds (after_loss w l) ls
later_goes w l ls h = elim (after_now w.period w.found (l.asks && is_sampled w.sampled l.number) (since_before w l.number) l ls (now_goes w.period w.last w.since l ls h)) [ inl k ↦ inl k | inr k ↦ inr (inl k) ]

later : (w : Watch) (l : Loss) (ls : List Loss) → Holds w (l ∷ ls) → Holds (after_loss w l) ls
later w l ls (inl h) = inl (or_left w.found _ h)
later w l ls (inr (inl h)) = later_goes w l ls h
later w l ls (inr (inr (inl h))) =
    let counts : (l.asks && is_sampled w.sampled l.number) ≡ true = rw (h.0, is_sampled_so w.sampled l.number h.1) refl in
    inr (inl (goes_counted w.period l.number l.time_sent (l.asks && is_sampled w.sampled l.number) (since_before w l.number) ls counts h.2))
later w l ls (inr (inr (inr h))) = inr (inr h)

-- ---- the whole list

last_found : (w : Watch) → Holds w [] → w.found ≡ true
last_found w (inl h) = h
last_found w (inr (inl h)) = absurd (elim w.last as (λ v. From w.period v w.since [] → ⊥) [ None ↦ λ k. k | Some n ↦ elim w.since as (λ v. From w.period (Some n) v [] → ⊥) [ None ↦ λ k. k | Some t ↦ λ k. k ] ] h)
last_found w (inr (inr h)) = absurd h

found_holds : (w : Watch) (ls : List Loss) → (fold after_loss w ls).found ≡ true → Holds w ls
found_holds w [] h = inl h
found_holds w (l ∷ ls) h = before w l ls (found_holds (after_loss w l) ls h)

holds_found : (w : Watch) (ls : List Loss) → Holds w ls → (fold after_loss w ls).found ≡ true
holds_found w [] h = last_found w h
holds_found w (l ∷ ls) h = holds_found (after_loss w l) ls (later w l ls h)

first_shown : (period : ℕ) (sampled : Option ℕ) (lost : List Loss) → Holds (no_losses period sampled) lost → Shown period sampled lost
first_shown period sampled lost (inl h) = cc
first_shown period sampled lost (inr (inl h)) = absurd h
first_shown period sampled lost (inr (inr h)) = h

pub finds_persistent : FindsPersistent
finds_persistent period sampled lost = (
  (λ h. shown_is period sampled lost (first_shown period sampled lost (found_holds (no_losses period sampled) lost h))),
  (λ p. holds_found (no_losses period sampled) lost (inr (inr (is_shown period sampled lost p)))),
)
