-- The nine timers of a connection, and the moments at which they expire.
use Rattle.std.specs.Prelude.{ℕ, ◌≡◌, ◌≢◌, ◌⊎◌, min, Bool, false, Option, Some, None, List, [], ◌∷◌, map, fold, nat_le}
use Rattle.quic_time.specs.declared.timer.Timer.{Timer}
use Rattle.quic_time.specs.declared.timer.Timer.TheVariants.{LossDetection, Idle, Close, KeyDiscard, PathValidation, KeepAlive, Pacing, PushNewCid, MaxAckDelay}

-- for each timer the moment at which it expires, where it is set
pub record Timers : Type 0 where
  pub loss_detection : Option ℕ
  pub idle : Option ℕ
  pub close : Option ℕ
  pub key_discard : Option ℕ
  pub path_validation : Option ℕ
  pub keep_alive : Option ℕ
  pub pacing : Option ℕ
  pub push_new_cid : Option ℕ
  pub max_ack_delay : Option ℕ

-- the moment of a timer
abbrev pub timer_at : Timer → Timers → Option ℕ
timer_at LossDetection t = t.loss_detection
timer_at Idle t = t.idle
timer_at Close t = t.close
timer_at KeyDiscard t = t.key_discard
timer_at PathValidation t = t.path_validation
timer_at KeepAlive t = t.keep_alive
timer_at Pacing t = t.pacing
timer_at PushNewCid t = t.push_new_cid
timer_at MaxAckDelay t = t.max_ack_delay

-- the moments with that of one timer changed
abbrev pub with_timer : Timer → Option ℕ → Timers → Timers
with_timer LossDetection moment t = record t { loss_detection = moment }
with_timer Idle moment t = record t { idle = moment }
with_timer Close moment t = record t { close = moment }
with_timer KeyDiscard moment t = record t { key_discard = moment }
with_timer PathValidation moment t = record t { path_validation = moment }
with_timer KeepAlive moment t = record t { keep_alive = moment }
with_timer Pacing moment t = record t { pacing = moment }
with_timer PushNewCid moment t = record t { push_new_cid = moment }
with_timer MaxAckDelay moment t = record t { max_ack_delay = moment }

-- no timer is set
abbrev pub no_timers : Timers
no_timers = record {
  loss_detection = None;
  idle = None;
  close = None;
  key_discard = None;
  path_validation = None;
  keep_alive = None;
  pacing = None;
  push_new_cid = None;
  max_ack_delay = None;
}

-- the nine, in the order in which they are looked at
abbrev pub all_timers : List Timer
all_timers = LossDetection ∷ Idle ∷ Close ∷ KeyDiscard ∷ PathValidation ∷ KeepAlive ∷ Pacing ∷ PushNewCid ∷ MaxAckDelay ∷ []

-- the moments of the nine, in that order
abbrev pub each_timer : Timers → List (Option ℕ)
each_timer t = map (λ timer. timer_at timer t) all_timers

-- the earlier of two moments, where there are two, else the one that there is
abbrev pub earlier : Option ℕ → Option ℕ → Option ℕ
earlier None other = other
earlier (Some moment) None = Some moment
earlier (Some moment) (Some other) = Some (min moment other)

-- the earliest moment at which a timer expires
abbrev pub next_timer : Timers → Option ℕ
next_timer t = fold earlier None (each_timer t)

-- whether a moment has come, where there is one
abbrev pub has_come : Option ℕ → ℕ → Bool
has_come None now = false
has_come (Some moment) now = nat_le moment now

-- ---- a history

-- the timers after some were set or stopped, the latest first
abbrev pub timers_after : List (Timer × Option ℕ) → Timers
timers_after [] = no_timers
timers_after (change ∷ before) = with_timer change.0 change.1 (timers_after before)

-- what the latest change of a timer made of it: nothing set it where there is none
abbrev pub IsLast : Timer → List (Timer × Option ℕ) → Option ℕ → Type 0
IsLast timer [] moment = moment ≡ None
IsLast timer (change ∷ before) moment = ((timer ≡ change.0) × (moment ≡ change.1)) ⊎ ((timer ≢ change.0) × IsLast timer before moment)
