-- What is kept of lost packets, one after another, to tell persistent congestion (RFC 9002, section
-- 7.6).
use Rattle.std.specs.Prelude.{◌≡◌, ℕ, ◌+◌, min, Bool, true, false, nat_lt, ◌==◌, ◌&&◌, ◌||◌, ◌↔◌, List, fold, Option, Some, None}
use Rattle.quic_spaces.specs.Persistent.{Loss, IsPersistent}

-- the period, the first number that was sent after a round trip was measured, the number lost last,
-- when the earliest went of those that ask, lie above that number and are lost with each up to the
-- last, and whether two lie more than the period apart
pub record Watch : Type 0 where
  pub period : ℕ
  pub sampled : Option ℕ
  pub last : Option ℕ
  pub since : Option ℕ
  pub found : Bool

-- nothing is lost yet
abbrev pub no_losses : ℕ → Option ℕ → Watch
no_losses period sampled = record { period = period; sampled = sampled; last = None; since = None; found = false }

-- whether a number is the next one
abbrev pub follows : Option ℕ → ℕ → Bool
follows None n = false
follows (Some last) n = n == last + 1

-- a moment where a number is the next one, else none
abbrev pub kept_if : Bool → Option ℕ → Option ℕ
kept_if true since = since
kept_if false since = None

-- whether a moment lies more than a period behind another
abbrev pub is_far : ℕ → Option ℕ → ℕ → Bool
is_far period None time = false
is_far period (Some since) time = nat_lt (since + period) time

-- whether a number lies above another, if there is one
abbrev pub is_sampled : Option ℕ → ℕ → Bool
is_sampled None n = false
is_sampled (Some first) n = nat_lt first n

-- the earlier of two moments
abbrev pub earlier : ℕ → Option ℕ → ℕ
earlier time None = time
earlier time (Some since) = min time since

-- the earliest moment, with one more that counts or doesn't
abbrev pub earliest : Bool → ℕ → Option ℕ → Option ℕ
earliest true time since = Some (earlier time since)
earliest false time since = since

-- the earliest moment before a loss
abbrev pub since_before : Watch → ℕ → Option ℕ
since_before w n = kept_if (follows w.last n) w.since

-- one more packet is lost
abbrev pub after_loss : Watch → Loss → Watch
after_loss w l = record w {
  last = Some l.number;
  since = earliest (l.asks && is_sampled w.sampled l.number) l.time_sent (since_before w l.number);
  found = w.found || (l.asks && is_far w.period (since_before w l.number) l.time_sent);
}

-- whether persistent congestion was found once these packets were lost, in this order
abbrev pub is_persistent_after : ℕ → Option ℕ → List Loss → Bool
is_persistent_after period sampled lost = (fold after_loss (no_losses period sampled) lost).found

-- it was found exactly where it is
abbrev pub FindsPersistent : Type 0
FindsPersistent = (period : ℕ) (sampled : Option ℕ) (lost : List Loss)
    → (is_persistent_after period sampled lost ≡ true) ↔ IsPersistent period sampled lost
