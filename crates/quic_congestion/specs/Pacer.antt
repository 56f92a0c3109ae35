-- How sending is spread over time: a pacer holds tokens, one for each byte that may go at once (RFC
-- 9002, section 7.7). Times are in nanoseconds, windows and lengths in bytes.
use Rattle.std.specs.Prelude.{ℕ, ◌+◌, ◌-◌, ◌*◌, ◌/◌, ◌^◌, ◌≤◌, max, min, Bool, ◌&&◌, ◌||◌, ◌==◌, nat_le, nat_lt, List, [], ◌∷◌, Option, Some, None, if◌then◌else◌, sum}

-- in what time the window gives what a full pacer lets go, in nanoseconds. RFC 9002, section 7.7,
-- names no numbers: these are our choice
abbrev pub burst_interval : ℕ
burst_interval = 2000000

-- how many datagrams it lets go at least
abbrev pub least_burst : ℕ
least_burst = 10

-- and at most
abbrev pub most_burst : ℕ
most_burst = 256

-- the tokens of a pacer, how many it holds at most, the window and the size of datagrams for which
-- that was reckoned, and the moment when tokens last came
pub record Pacing : Type 0 where
  pub capacity : ℕ
  pub window : ℕ
  pub size : ℕ
  pub tokens : ℕ
  pub refilled : ℕ

-- what a pacer holds at most: what goes in 2 ms where the window goes in a round trip (of 1 ns at
-- least), but at least 10 datagrams and at most 256
abbrev pub capacity_of : ℕ → ℕ → ℕ → ℕ
capacity_of rtt window size = max (least_burst * size) (min (window * burst_interval / max rtt 1) (most_burst * size))

-- the tokens and the capacity of a pacer keep their bounds
pub record IsPacing (p : Pacing) : Type 0 where
  pub fits : p.tokens ≤ p.capacity
  pub least : least_burst * p.size ≤ p.capacity
  pub most : p.capacity ≤ most_burst * p.size

-- a pacer that is full
abbrev pub new_pacing : ℕ → ℕ → ℕ → ℕ → Pacing
new_pacing rtt window size moment = record {
  capacity = capacity_of rtt window size;
  window = window;
  size = size;
  tokens = capacity_of rtt window size;
  refilled = moment;
}

-- the tokens that are left when datagrams of these lengths went: a token fewer for each byte, and
-- none where they had more bytes
abbrev pub tokens_after : ℕ → List ℕ → ℕ
tokens_after tokens lengths = tokens - sum lengths

-- a datagram of this length went
abbrev pub after_datagram : Pacing → ℕ → Pacing
after_datagram p length = record p { tokens = p.tokens - length }

-- the pacer for a window and a size of datagrams. A change of one of them gives a new capacity, and
-- takes the tokens above it
abbrev pub after_resize : Pacing → ℕ → ℕ → ℕ → Pacing
after_resize p rtt window size =
    if (p.window == window) && (p.size == size) then p
    else record {
      capacity = capacity_of rtt window size;
      window = window;
      size = size;
      tokens = min p.tokens (capacity_of rtt window size);
      refilled = p.refilled;
    }

-- the tokens that come in a time: five quarters of a window in a round trip
abbrev pub gained : ℕ → ℕ → ℕ → ℕ
gained rtt window elapsed = window * 5 * elapsed / (4 * rtt)

-- the tokens for the time since the last came are there, as far as the pacer holds them. An earlier
-- moment brings none, and is yet the one from which the next are reckoned
abbrev pub after_refill : Pacing → ℕ → ℕ → ℕ → Pacing
after_refill p rtt window moment = record p {
  tokens = min (p.tokens + gained rtt window (moment - p.refilled)) p.capacity;
  refilled = moment;
}

-- whether bytes go without a further token: there's one for each, or the window is so great or the
-- round trip so short that nothing is held back
abbrev pub goes_at_once : Pacing → ℕ → ℕ → ℕ → Bool
goes_at_once p rtt bytes window = nat_le bytes p.tokens || nat_lt (2 ^ 32 - 1) window || (rtt == 0)

-- how long so many tokens take to come, in steps of 4 ns, rounded down
abbrev pub time_for : ℕ → ℕ → ℕ → ℕ
time_for rtt missing window = rtt * missing / window / 5 * 4

-- when so many bytes may go: at once where there's a token for each, else when the pacer is full,
-- and when it has a token for each where it can't hold so many. No moment is later than the
-- greatest
abbrev pub next_send : Pacing → ℕ → ℕ → ℕ → ℕ → Option ℕ
next_send p rtt bytes window moment =
    if nat_le bytes p.tokens then None
    else Some (min (moment + time_for rtt (max bytes p.capacity - p.tokens) window) (2 ^ 64 - 1))

-- a pacer for this window after it was asked at a moment whether bytes may go
abbrev pub after_asking : Pacing → ℕ → ℕ → ℕ → ℕ → Pacing
after_asking p rtt bytes window moment = if goes_at_once p rtt bytes window then p else after_refill p rtt window moment

-- what such a pacer answers
abbrev pub asked : Pacing → ℕ → ℕ → ℕ → ℕ → Option ℕ
asked p rtt bytes window moment =
    if goes_at_once p rtt bytes window then None
    else next_send (after_refill p rtt window moment) rtt bytes window moment

-- the pacer after it was asked at a moment whether bytes may go
abbrev pub after_delay : Pacing → ℕ → ℕ → ℕ → ℕ → ℕ → Pacing
after_delay p rtt bytes size window moment = after_asking (after_resize p rtt window size) rtt bytes window moment

-- the moment until which the bytes have to wait, or none where they may go
abbrev pub delay_of : Pacing → ℕ → ℕ → ℕ → ℕ → ℕ → Option ℕ
delay_of p rtt bytes size window moment = asked (after_resize p rtt window size) rtt bytes window moment

-- what a pacer is asked with: the round trip, the bytes that are to go, the size of datagrams, the
-- window, and the moment
pub record Ask : Type 0 where
  pub rtt : ℕ
  pub bytes : ℕ
  pub size : ℕ
  pub window : ℕ
  pub moment : ℕ

-- a call of a pacer: it was asked whether bytes may go, or a datagram of so many bytes went
pub data Call : Type 0 where
  asked_with : Ask → Call
  went : ℕ → Call

-- the pacer after it was asked
abbrev pub after_ask : Pacing → Ask → Pacing
after_ask p ask = after_delay p ask.rtt ask.bytes ask.size ask.window ask.moment

-- what it answers: the moment until which the bytes have to wait, or none where they may go
abbrev pub answer_of : Pacing → Ask → Option ℕ
answer_of p ask = delay_of p ask.rtt ask.bytes ask.size ask.window ask.moment

-- the pacer after calls, the earliest first
abbrev pub pacing_after : List Call → Pacing → Pacing
pacing_after [] p = p
pacing_after (asked_with ask ∷ calls) p = pacing_after calls (after_ask p ask)
pacing_after (went length ∷ calls) p = pacing_after calls (after_datagram p length)

-- the bytes of the datagrams that went with a token for each byte
abbrev pub covered_bytes : List Call → Pacing → ℕ
covered_bytes [] p = 0
covered_bytes (asked_with ask ∷ calls) p = covered_bytes calls (after_ask p ask)
covered_bytes (went length ∷ calls) p = (if nat_le length p.tokens then length else 0) + covered_bytes calls (after_datagram p length)

-- it is asked at moments that don't fall, from one up to another, each time with a round trip of at
-- least so long and a window of at most so many bytes
abbrev pub AreAsked : List Call → (rtt window from until : ℕ) → Type 0
AreAsked [] rtt window from until = from ≤ until
AreAsked (asked_with ask ∷ calls) rtt window from until = (rtt ≤ ask.rtt) × (ask.window ≤ window) × (from ≤ ask.moment) × AreAsked calls rtt window ask.moment until
AreAsked (went length ∷ calls) rtt window from until = AreAsked calls rtt window from until
