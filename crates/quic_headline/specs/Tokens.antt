-- The tokens of a pacer, one for each byte that may go at once, as an observer of a run's lists
-- reckons them (RFC 9002, section 7.7). A pacer has tokens, room for so many, the window and the
-- size of datagrams for which that was reckoned, and the moment when tokens last came. The section
-- names the rate alone, and lets a burst go; the numbers here are the observer's own. Moments and
-- times are in nanoseconds, and windows, sizes and tokens in bytes.
use Rattle.std.specs.Prelude.{ℕ, ◌+◌, ◌-◌, ◌*◌, ◌/◌, ◌^◌, max, min, Bool, not, ◌&&◌, ◌||◌, ◌==◌, nat_le, nat_lt, if◌then◌else◌, List, [], ◌∷◌, Option, Some, None}
use Rattle.quic_time.specs.Rtt.{Rtt}
use Rattle.quic_congestion.specs.Pacer.{Pacing, Ask}
use Rattle.quic_congestion.specs.Pacer as pacer
use Rattle.quic_headline.specs.RoundTrip.{expected_round}

-- how many tokens a pacer has room for: as many as a window has bytes for 2 ms of the round trip
-- that it lasts for, but for ten datagrams at least, and for 256 at most
abbrev pub most_tokens : (round window size : ℕ) → ℕ
most_tokens round window size = min (256 * size) (max (10 * size) (window * 2000000 / max round 1))

-- how many come in a time: five quarters of the window in each round trip
abbrev pub tokens_in : (round window time : ℕ) → ℕ
tokens_in round window time = 5 * window * time / (4 * round)

-- in what time so many come: four fifths of a round trip for each window, in whole steps of 4 ns
abbrev pub time_for : (round window tokens : ℕ) → ℕ
time_for round window tokens = 4 * (round * tokens / window / 5)

-- a full pacer
abbrev pub full_pacer : (round window size moment : ℕ) → Pacing
full_pacer round window size moment = record {
  capacity = most_tokens round window size;
  window = window;
  size = size;
  tokens = most_tokens round window size;
  refilled = moment;
}

-- the one that an end begins with: its room is that of a full one, by what is known of the round
-- trip, and it has no more tokens than that
abbrev pub begun_pacer : Rtt → Pacing → Pacing
begun_pacer r p =
    let most = most_tokens (expected_round r) p.window p.size in
    record {
      capacity = most;
      window = p.window;
      size = p.size;
      tokens = min p.tokens most;
      refilled = p.refilled;
    }

-- a pacer that is asked for another window or another size of datagrams has other room, and loses
-- the tokens for which there is none
abbrev pub fitted : Pacing → Ask → Pacing
fitted p ask =
    let most = most_tokens ask.rtt ask.window ask.size in
    if (p.window == ask.window) && (p.size == ask.size) then p
    else record {
      capacity = most;
      window = ask.window;
      size = ask.size;
      tokens = min p.tokens most;
      refilled = p.refilled;
    }

-- whether it lets go what it is asked for: it has a token for each byte, or the window has 2^32
-- bytes, or the round trip takes no time (an end asks with 1 ns at least)
abbrev pub lets_go : Pacing → Ask → Bool
lets_go p ask = nat_le ask.bytes p.tokens || nat_lt (2 ^ 32 - 1) ask.window || (ask.rtt == 0)

-- tokens come for the time since some did, as far as it has room for them
abbrev pub refilled_for : Pacing → Ask → Pacing
refilled_for p ask = record p { tokens = min (p.tokens + tokens_in ask.rtt ask.window (ask.moment - p.refilled)) p.capacity; refilled = ask.moment }

-- what it has once it was asked: tokens come where it doesn't let go without them
abbrev pub asked_for : Pacing → Ask → Pacing
asked_for p ask = let fit = fitted p ask in if lets_go fit ask then fit else refilled_for fit ask

-- when it has a token for each byte that it is asked for, or is full, whichever is later; no moment
-- is later than the greatest
abbrev pub goes_at : Pacing → Ask → ℕ
goes_at p ask = min (ask.moment + time_for ask.rtt ask.window (max ask.bytes p.capacity - p.tokens)) (2 ^ 64 - 1)

-- The moment that a pacer names where it is asked, if it is a later one: what asks for an
-- acknowledgement waits until then. It names none where it lets go.
abbrev pub names_for : Pacing → Ask → Option ℕ
names_for p ask =
    let behind = asked_for p ask in
    if not (lets_go behind ask) && nat_lt ask.moment (goes_at behind ask) then Some (goes_at behind ask) else None

-- what it has once it was asked, and once datagrams went, in turn: each takes a token for each of
-- its bytes, where there are so many
abbrev pub spent_by : List pacer.Call → Pacing → Pacing
spent_by [] p = p
spent_by (pacer.asked_with ask ∷ cs) p = spent_by cs (asked_for p ask)
spent_by (pacer.went bytes ∷ cs) p = spent_by cs (record p { tokens = p.tokens - bytes })
