-- Lemmas on the nine timers and their moments.
use Rattle.std.proofs.Common.{◌≡◌, ◌≢◌, ℕ, zero, suc, ◌≤◌, ◌⊎◌, inl, inr, Option, Some, None, List, [], ◌∷◌, get_or, map, fold, min, refl, sym, subst, ap, ◌∙◌, arith, IfSome, IsSomeAnd}
use Rattle.std.specs.List.{Contains}
use Rattle.std.proofs.lemmas.Bool.{cases_lt}
use Rattle.quic_time.specs.Timers.{Timers, timer_at, with_timer, all_timers, each_timer, earlier, next_timer, timers_after, IsLast}
use Rattle.quic_time.specs.TimerSlots.{timers_of}
use Rattle.quic_time.specs.declared.timer.Timer.{Timer}
use Rattle.quic_time.specs.declared.timer.Timer.TheVariants.{LossDetection, Idle, Close, KeyDiscard, PathValidation, KeepAlive, Pacing, PushNewCid, MaxAckDelay}

-- the place of a timer among the nine
abbrev place : Timer → ℕ
place LossDetection = 0
place Idle = 1
place Close = 2
place KeyDiscard = 3
place PathValidation = 4
place KeepAlive = 5
place Pacing = 6
place PushNewCid = 7
place MaxAckDelay = 8

-- each timer is among the nine
pub each_in : (timer : Timer) → Contains all_timers timer
each_in LossDetection = (0, omega arith, refl)
each_in Idle = (1, omega arith, refl)
each_in Close = (2, omega arith, refl)
each_in KeyDiscard = (3, omega arith, refl)
each_in PathValidation = (4, omega arith, refl)
each_in KeepAlive = (5, omega arith, refl)
each_in Pacing = (6, omega arith, refl)
each_in PushNewCid = (7, omega arith, refl)
each_in MaxAckDelay = (8, omega arith, refl)

-- its moment stands at its place
at_place : (timer : Timer) (t : Timers) → get_or (each_timer t) (place timer) None ≡ timer_at timer t
at_place LossDetection t = refl
at_place Idle t = refl
at_place Close t = refl
at_place KeyDiscard t = refl
at_place PathValidation t = refl
at_place KeepAlive t = refl
at_place Pacing t = refl
at_place PushNewCid t = refl
at_place MaxAckDelay t = refl

-- two tables with the same moments are the same
pub same_table : (t u : Timers) → ((timer : Timer) → timer_at timer t ≡ timer_at timer u) → t ≡ u
same_table t u h =
    let loss : t.loss_detection ≡ u.loss_detection = h LossDetection in
    let idle : t.idle ≡ u.idle = h Idle in
    let close : t.close ≡ u.close = h Close in
    let keys : t.key_discard ≡ u.key_discard = h KeyDiscard in
    let path : t.path_validation ≡ u.path_validation = h PathValidation in
    let alive : t.keep_alive ≡ u.keep_alive = h KeepAlive in
    let pacing : t.pacing ≡ u.pacing = h Pacing in
    let ids : t.push_new_cid ≡ u.push_new_cid = h PushNewCid in
    let acks : t.max_ack_delay ≡ u.max_ack_delay = h MaxAckDelay in
    let each : each_timer t ≡ each_timer u = cc in
    ap timers_of each

-- what is at most a moment stays so beside another moment
keeps_one : (a x : Option ℕ) (m : ℕ) → IsSomeAnd a (λ n. n ≤ m) → IsSomeAnd (earlier a x) (λ n. n ≤ m)
keeps_one None x m h = absurd h
keeps_one (Some n) None m h = h
keeps_one (Some n) (Some k) m h = omega arith

keeps : (xs : List (Option ℕ)) (a : Option ℕ) (m : ℕ) → IsSomeAnd a (λ n. n ≤ m) → IsSomeAnd (fold earlier a xs) (λ n. n ≤ m)
keeps [] a m h = h
keeps (x ∷ xs) a m h = keeps xs (earlier a x) m (keeps_one a x m h)

-- beside a moment the earlier one is at most that moment
takes_one : (a x : Option ℕ) (m : ℕ) → x ≡ Some m → IsSomeAnd (earlier a x) (λ n. n ≤ m)
takes_one None None m e = absurd cc
takes_one None (Some k) m e = let same : k ≡ m = cc in omega arith
takes_one (Some n) None m e = absurd cc
takes_one (Some n) (Some k) m e = let same : k ≡ m = cc in omega arith

-- the earliest of a list is at most each moment in it
least_at : (xs : List (Option ℕ)) (a : Option ℕ) (k m : ℕ) → get_or xs k None ≡ Some m → IsSomeAnd (fold earlier a xs) (λ n. n ≤ m)
least_at [] a k m e = absurd cc
least_at (x ∷ xs) a zero m e = keeps xs (earlier a x) m (takes_one a x m e)
least_at (x ∷ xs) a (suc k) m e = least_at xs (earlier a x) k m e

-- no timer expires before the next timeout
pub next_is_least : (t : Timers) (timer : Timer) (moment : ℕ) → timer_at timer t ≡ Some moment → IsSomeAnd (next_timer t) (λ next. next ≤ moment)
next_is_least t timer moment e = least_at (each_timer t) None (place timer) moment (at_place timer t ∙ e)

-- the earlier of two is one of them
one_of : (a x : Option ℕ) (m : ℕ) → earlier a x ≡ Some m → (a ≡ Some m) ⊎ (x ≡ Some m)
one_of None x m e = inr e
one_of (Some n) None m e = inl e
one_of (Some n) (Some k) m e =
    let least : min n k ≡ m = cc in
    elim (cases_lt n k) [
      | inl lt ↦ (let same : n ≡ m = omega arith in inl (ap (λ (i : ℕ). Some i) same))
      | inr le ↦ (let same : k ≡ m = omega arith in inr (ap (λ (i : ℕ). Some i) same))
    ]

-- the earliest of a list is one of them
found_at : (xs : List (Option ℕ)) (a : Option ℕ) (m : ℕ) → fold earlier a xs ≡ Some m → (a ≡ Some m) ⊎ ((k : ℕ) × (get_or xs k None ≡ Some m))
found_at [] a m e = inl e
found_at (x ∷ xs) a m e =
    elim (found_at xs (earlier a x) m e) [
      | inl first ↦ elim (one_of a x m first) [
        | inl was ↦ inl was
        | inr here ↦ inr (0, here)
      ]
      | inr later ↦ inr (suc later.0, later.1)
    ]

-- a moment among those of some timers is that of one
timer_there : (timers : List Timer) (f : Timer → Option ℕ) (k m : ℕ) → get_or (map f timers) k None ≡ Some m → (timer : Timer) × (f timer ≡ Some m)
timer_there [] f k m e = absurd cc
timer_there (timer ∷ timers) f zero m e = (timer, e)
timer_there (timer ∷ timers) f (suc k) m e = timer_there timers f k m e

if_some : (o : Option ℕ) (P : ℕ → Type 0) → ((m : ℕ) → o ≡ Some m → P m) → IfSome o P
if_some None P h = tt
if_some (Some m) P h = h m refl

-- the next timeout is the moment of a timer
pub next_is_set : (t : Timers) → IfSome (next_timer t) (λ next. (timer : Timer) × (timer_at timer t ≡ Some next))
next_is_set t =
    if_some (next_timer t) (λ next. (timer : Timer) × (timer_at timer t ≡ Some next)) (λ m e.
    elim (found_at (each_timer t) None m e) [
      | inl never ↦ absurd cc
      | inr there ↦ timer_there all_timers (λ timer. timer_at timer t) there.0 m there.1
    ])

-- ---- a history

-- two timers are one, or aren't
one_timer : (timer other : Timer) → (timer ≡ other) ⊎ (timer ≢ other)
one_timer LossDetection LossDetection = inl refl
one_timer LossDetection other = inr (λ is. cc)
one_timer Idle Idle = inl refl
one_timer Idle other = inr (λ is. cc)
one_timer Close Close = inl refl
one_timer Close other = inr (λ is. cc)
one_timer KeyDiscard KeyDiscard = inl refl
one_timer KeyDiscard other = inr (λ is. cc)
one_timer PathValidation PathValidation = inl refl
one_timer PathValidation other = inr (λ is. cc)
one_timer KeepAlive KeepAlive = inl refl
one_timer KeepAlive other = inr (λ is. cc)
one_timer Pacing Pacing = inl refl
one_timer Pacing other = inr (λ is. cc)
one_timer PushNewCid PushNewCid = inl refl
one_timer PushNewCid other = inr (λ is. cc)
one_timer MaxAckDelay MaxAckDelay = inl refl
one_timer MaxAckDelay other = inr (λ is. cc)

-- a timer that isn't changed shows what it showed
apart : (timer other : Timer) (moment : Option ℕ) (t : Timers) → timer ≢ other → timer_at timer (with_timer other moment t) ≡ timer_at timer t
apart LossDetection LossDetection moment t ne = absurd (ne refl)
apart LossDetection other moment t ne = refl
apart Idle Idle moment t ne = absurd (ne refl)
apart Idle other moment t ne = refl
apart Close Close moment t ne = absurd (ne refl)
apart Close other moment t ne = refl
apart KeyDiscard KeyDiscard moment t ne = absurd (ne refl)
apart KeyDiscard other moment t ne = refl
apart PathValidation PathValidation moment t ne = absurd (ne refl)
apart PathValidation other moment t ne = refl
apart KeepAlive KeepAlive moment t ne = absurd (ne refl)
apart KeepAlive other moment t ne = refl
apart Pacing Pacing moment t ne = absurd (ne refl)
apart Pacing other moment t ne = refl
apart PushNewCid PushNewCid moment t ne = absurd (ne refl)
apart PushNewCid other moment t ne = refl
apart MaxAckDelay MaxAckDelay moment t ne = absurd (ne refl)
apart MaxAckDelay other moment t ne = refl

-- one that is changed shows the change
set_shows : (timer : Timer) (moment : Option ℕ) (t : Timers) → timer_at timer (with_timer timer moment t) ≡ moment
set_shows LossDetection moment t = refl
set_shows Idle moment t = refl
set_shows Close moment t = refl
set_shows KeyDiscard moment t = refl
set_shows PathValidation moment t = refl
set_shows KeepAlive moment t = refl
set_shows Pacing moment t = refl
set_shows PushNewCid moment t = refl
set_shows MaxAckDelay moment t = refl

pub last_change : (changes : List (Timer × Option ℕ)) (timer : Timer) → IsLast timer changes (timer_at timer (timers_after changes))
last_change [] LossDetection = refl
last_change [] Idle = refl
last_change [] Close = refl
last_change [] KeyDiscard = refl
last_change [] PathValidation = refl
last_change [] KeepAlive = refl
last_change [] Pacing = refl
last_change [] PushNewCid = refl
last_change [] MaxAckDelay = refl
last_change (change ∷ before) timer = elim (one_timer timer change.0) [
  | inl same ↦ inl (same, rw same (set_shows change.0 change.1 (timers_after before)))
  | inr other ↦ inr (other, subst (λ (o : Option ℕ). IsLast timer before o) (sym (apart timer change.0 change.1 (timers_after before) other)) (last_change before timer))
]
