-- What happens to the numbers to acknowledge, one step after another, and when an acknowledgement
-- is due.
use Rattle.std.specs.Prelude.{◌≡◌, ℕ, ◌+◌, ◌-◌, ◌^◌, ◌<◌, ◌⊎◌, Bool, true, false, max, min, not, List, [], ◌∷◌, Option, Some, None, unwrap_or, IsTrue}
use Rattle.quic_recovery_core.specs.Duplicates.{Seen}
use Rattle.quic_recovery_core.specs.PendingAcks.{lazy_threshold, Pending, none_pending, leaves_gap, shows_loss, after_packet, after_acks_sent, after_timeout, after_lazy, after_insert, after_subtract}
use Rattle.quic_recovery_core.specs.AckRuns.{Change, came, known}

-- a packet comes (when, its number, whether it asks, the numbers told apart), an acknowledgement
-- goes or is made due, the timer expires, a packet is made that goes anyway, the peer tells after
-- how many packets, and how far out of order, it wants an acknowledgement, a number is to be
-- acknowledged (which, and when it came), or the peer knows of the numbers up to one
pub data Step : Type 0 where
  packet : ℕ → ℕ → Bool → Seen → Step
  sent : Step
  required : Step
  expired : Step
  lazy : Step
  told : ℕ → ℕ → Step
  put : ℕ → ℕ → Step
  cut : ℕ → Step

-- after a step
abbrev pub after_step : Step → Pending → Pending
after_step (packet now n asks s) p = after_packet p now n asks s
after_step sent p = after_acks_sent p
after_step required p = record p { due = true }
after_step expired p = after_timeout p
after_step lazy p = after_lazy p
after_step (told threshold reordering) p = record p { threshold = threshold; reordering = reordering }
after_step (put n now) p = after_insert p n now
after_step (cut n) p = after_subtract p n

-- after steps, the latest first
abbrev pub pending_after : List Step → Pending
pending_after [] = none_pending
pending_after (step ∷ steps) = after_step step (pending_after steps)

-- one more if it counts
abbrev pub count_if : Bool → ℕ → ℕ
count_if true n = n + 1
count_if false n = n

-- how many packets came that ask since the last acknowledgement went
abbrev pub asking_since : List Step → ℕ
asking_since [] = 0
asking_since (packet now n asks s ∷ steps) = count_if asks (asking_since steps)
asking_since (sent ∷ steps) = 0
asking_since (required ∷ steps) = asking_since steps
asking_since (expired ∷ steps) = asking_since steps
asking_since (lazy ∷ steps) = asking_since steps
asking_since (told threshold reordering ∷ steps) = asking_since steps
asking_since (put k now ∷ steps) = asking_since steps
asking_since (cut k ∷ steps) = asking_since steps

-- and how many that do not
abbrev pub silent_since : List Step → ℕ
silent_since [] = 0
silent_since (packet now n asks s ∷ steps) = count_if (not asks) (silent_since steps)
silent_since (sent ∷ steps) = 0
silent_since (required ∷ steps) = silent_since steps
silent_since (expired ∷ steps) = silent_since steps
silent_since (lazy ∷ steps) = silent_since steps
silent_since (told threshold reordering ∷ steps) = silent_since steps
silent_since (put k now ∷ steps) = silent_since steps
silent_since (cut k ∷ steps) = silent_since steps

-- the greater of numbers, if it counts
abbrev pub greater_if : Bool → Option ℕ → ℕ → Option ℕ
greater_if true held n = Some (max (unwrap_or held 0) n)
greater_if false held n = held

-- the greatest number of a packet that asked
abbrev pub greatest_asking : List Step → Option ℕ
greatest_asking [] = None
greatest_asking (packet now n asks s ∷ steps) = greater_if asks (greatest_asking steps) n
greatest_asking (sent ∷ steps) = greatest_asking steps
greatest_asking (required ∷ steps) = greatest_asking steps
greatest_asking (expired ∷ steps) = greatest_asking steps
greatest_asking (lazy ∷ steps) = greatest_asking steps
greatest_asking (told threshold reordering ∷ steps) = greatest_asking steps
greatest_asking (put k now ∷ steps) = greatest_asking steps
greatest_asking (cut k ∷ steps) = greatest_asking steps

-- and what it was when the last acknowledgement went
abbrev pub greatest_acked : List Step → Option ℕ
greatest_acked [] = None
greatest_acked (packet now n asks s ∷ steps) = greatest_acked steps
greatest_acked (sent ∷ steps) = greatest_asking steps
greatest_acked (required ∷ steps) = greatest_acked steps
greatest_acked (expired ∷ steps) = greatest_acked steps
greatest_acked (lazy ∷ steps) = greatest_acked steps
greatest_acked (told threshold reordering ∷ steps) = greatest_acked steps
greatest_acked (put k now ∷ steps) = greatest_acked steps
greatest_acked (cut k ∷ steps) = greatest_acked steps

-- the threshold on packets that was told last, 1 at first
abbrev pub threshold_told : List Step → ℕ
threshold_told [] = 1
threshold_told (packet now n asks s ∷ steps) = threshold_told steps
threshold_told (sent ∷ steps) = threshold_told steps
threshold_told (required ∷ steps) = threshold_told steps
threshold_told (expired ∷ steps) = threshold_told steps
threshold_told (lazy ∷ steps) = threshold_told steps
threshold_told (told threshold reordering ∷ steps) = threshold
threshold_told (put k now ∷ steps) = threshold_told steps
threshold_told (cut k ∷ steps) = threshold_told steps

-- the threshold on reordering that was told last, 1 at first
abbrev pub reordering_told : List Step → ℕ
reordering_told [] = 1
reordering_told (packet now n asks s ∷ steps) = reordering_told steps
reordering_told (sent ∷ steps) = reordering_told steps
reordering_told (required ∷ steps) = reordering_told steps
reordering_told (expired ∷ steps) = reordering_told steps
reordering_told (lazy ∷ steps) = reordering_told steps
reordering_told (told threshold reordering ∷ steps) = reordering
reordering_told (put k now ∷ steps) = reordering_told steps
reordering_told (cut k ∷ steps) = reordering_told steps

-- no threshold was told: they are those of the beginning
abbrev pub AreUsual : List Step → Type 0
AreUsual [] = Unit {0}
AreUsual (packet now n asks s ∷ steps) = AreUsual steps
AreUsual (sent ∷ steps) = AreUsual steps
AreUsual (required ∷ steps) = AreUsual steps
AreUsual (expired ∷ steps) = AreUsual steps
AreUsual (lazy ∷ steps) = AreUsual steps
AreUsual (told threshold reordering ∷ steps) = ⊥
AreUsual (put k now ∷ steps) = AreUsual steps
AreUsual (cut k ∷ steps) = AreUsual steps

-- ---- the set

-- what happened to the set
abbrev pub changes_of : List Step → List Change
changes_of [] = []
changes_of (packet now n asks s ∷ steps) = changes_of steps
changes_of (sent ∷ steps) = changes_of steps
changes_of (required ∷ steps) = changes_of steps
changes_of (expired ∷ steps) = changes_of steps
changes_of (lazy ∷ steps) = changes_of steps
changes_of (told threshold reordering ∷ steps) = changes_of steps
changes_of (put k now ∷ steps) = came k ∷ changes_of steps
changes_of (cut k ∷ steps) = known k ∷ changes_of steps

-- the numbers that came into it, with their moments
abbrev pub arrivals_of : List Step → List (ℕ × ℕ)
arrivals_of [] = []
arrivals_of (packet now n asks s ∷ steps) = arrivals_of steps
arrivals_of (sent ∷ steps) = arrivals_of steps
arrivals_of (required ∷ steps) = arrivals_of steps
arrivals_of (expired ∷ steps) = arrivals_of steps
arrivals_of (lazy ∷ steps) = arrivals_of steps
arrivals_of (told threshold reordering ∷ steps) = arrivals_of steps
arrivals_of (put k now ∷ steps) = (k, now) ∷ arrivals_of steps
arrivals_of (cut k ∷ steps) = arrivals_of steps

-- ---- when an acknowledgement is due

-- a packet came farther out of order than it may, by the threshold on reordering that was told.
-- With 1 it came below one that asked, or a number lacks between them; with more, the next
-- acknowledgement would show a number as lost that lacks above the greatest one at the last
-- acknowledgement less the threshold, plus one; with 0 none does
abbrev pub CameOutOfOrder : List Step → ℕ → Seen → Type 0
CameOutOfOrder steps n s =
    let before = unwrap_or (greatest_asking steps) 0 in
    ((reordering_told steps ≡ 1) × IsTrue (leaves_gap before n s)) ⊎ ((1 < reordering_told steps) × IsTrue (shows_loss (greatest_acked steps) (reordering_told steps) (max before n) s))

-- since the last acknowledgement went, one was required, or the timer expired when a packet had
-- asked, or a packet came that asks and was one more than the threshold told then, or out of order,
-- or a packet was made that goes anyway with too many silent ones; what came before the timer last
-- expired doesn't count
abbrev pub IsDue : List Step → Type 0
IsDue [] = ⊥
IsDue (packet now n asks s ∷ steps) = IsDue steps ⊎ ((asks ≡ true) × ((threshold_told steps < min (asking_since steps + 1) (2 ^ 64 - 1)) ⊎ CameOutOfOrder steps n s))
IsDue (sent ∷ steps) = ⊥
IsDue (required ∷ steps) = Unit {0}
IsDue (expired ∷ steps) = 0 < asking_since steps
IsDue (lazy ∷ steps) = IsDue steps ⊎ (lazy_threshold < min (silent_since steps) (2 ^ 64 - 1))
IsDue (told threshold reordering ∷ steps) = IsDue steps
IsDue (put k now ∷ steps) = IsDue steps
IsDue (cut k ∷ steps) = IsDue steps

-- a packet that asks came at this moment since the last acknowledgement went
abbrev pub AskedSince : List Step → ℕ → Type 0
AskedSince [] m = ⊥
AskedSince (packet now n asks s ∷ steps) m = ((asks ≡ true) × (m ≡ now)) ⊎ AskedSince steps m
AskedSince (sent ∷ steps) m = ⊥
AskedSince (required ∷ steps) m = AskedSince steps m
AskedSince (expired ∷ steps) m = AskedSince steps m
AskedSince (lazy ∷ steps) m = AskedSince steps m
AskedSince (told threshold reordering ∷ steps) m = AskedSince steps m
AskedSince (put k now ∷ steps) m = AskedSince steps m
AskedSince (cut k ∷ steps) m = AskedSince steps m
