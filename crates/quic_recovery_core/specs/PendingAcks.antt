-- Which packet numbers are to be acknowledged, and when (RFC 9000, section 13.2; the ACK frequency
-- extension, section 6).
use Rattle.std.specs.Prelude.{ℕ, ◌+◌, ◌-◌, ◌^◌, ◌≤◌, ◌<◌, Bool, true, false, cond, min, max, not, nat_lt, nat_le, ◌==◌, ◌&&◌, ◌||◌, List, [], ◌∷◌, length, Option, Some, None, unwrap_or, is_some, is_none}
use Rattle.quic_sets.specs.Runs.{Run, Has, AreRuns}
use Rattle.quic_recovery_core.specs.Duplicates.{Seen, smallest_missing}

-- how many runs of numbers an ACK frame names at most (RFC 9000, section 13.2.3, which names no
-- number: this is our choice)
abbrev pub most_ack_runs : ℕ
most_ack_runs = 64

-- where more packets than this came that don't ask, an acknowledgement goes with a datagram that is
-- made anyway (RFC 9000, section 13.2.1, which names no number: this is our choice)
abbrev pub lazy_threshold : ℕ
lazy_threshold = 10

-- what is known of the packets that are to be acknowledged
pub record Pending : Type 0 where
  -- whether an acknowledgement is to go even alone
  pub due : Bool
  -- how many packets came since the last acknowledgement: those that ask for one, and the others
  pub asking : ℕ
  pub silent : ℕ
  -- with more asking packets than this an acknowledgement is due
  pub threshold : ℕ
  -- how far out of order a packet may come; 0: as far as it likes
  pub reordering : ℕ
  -- when the packet came that the timer was set for
  pub since : Option ℕ
  -- the numbers to acknowledge
  pub runs : List Run
  -- the greatest number that ever came, and when
  pub newest : Option (ℕ × ℕ)
  -- the greatest asking number, and what it was at the last acknowledgement
  pub greatest : Option ℕ
  pub acked : Option ℕ

-- at first, and until the peer asks otherwise, one asking packet may wait, and each must come in
-- order
abbrev pub none_pending : Pending
none_pending = record {
  due = false;
  asking = 0;
  silent = 0;
  threshold = 1;
  reordering = 1;
  since = None;
  runs = [];
  newest = None;
  greatest = None;
  acked = None;
}

-- ---- the set

-- the numbers from one up to another before others: where these begin at its end, both are one run
abbrev pub joined : ℕ → ℕ → List Run → List Run
joined start end [] = record { start = start; end = end } ∷ []
joined start end (r ∷ rs) = cond (end == r.start) (record { start = start; end = r.end } ∷ rs) (record { start = start; end = end } ∷ r ∷ rs)

-- a set with a number
abbrev pub with_one : List Run → ℕ → List Run
with_one [] n = record { start = n; end = n + 1 } ∷ []
with_one (r ∷ rs) n = cond (nat_lt n r.start) (joined n (n + 1) (r ∷ rs)) (cond (nat_lt n r.end) (r ∷ rs) (cond (n == r.end) (joined r.start (n + 1) rs) (r ∷ with_one rs n)))

-- all runs but that of the least number
abbrev pub but_least : List Run → List Run
but_least [] = []
but_least (r ∷ rs) = rs

-- where there are too many runs, the least goes
abbrev pub at_most : List Run → List Run
at_most rs = cond (nat_lt most_ack_runs (length rs)) (but_least rs) rs

-- the numbers from one up to another, if there are any, before others
abbrev pub if_any : ℕ → ℕ → List Run → List Run
if_any start end rs = cond (nat_lt start end) (record { start = start; end = end } ∷ rs) rs

-- the numbers above one
abbrev pub above : List Run → ℕ → List Run
above [] n = []
above (r ∷ rs) n = if_any (max r.start (n + 1)) r.end (above rs n)

-- whether there is a number
abbrev pub is_filled : List Run → Bool
is_filled [] = false
is_filled (r ∷ rs) = true

-- a set that is kept: few maximal runs of numbers below the greatest u64
pub record IsKept (rs : List Run) : Type 0 where
  pub runs : AreRuns rs
  pub few : length rs ≤ most_ack_runs
  pub small : (k : ℕ) → Has rs k → k + 1 < 2 ^ 64

-- the greatest number and its moment, after one came
abbrev pub newer : Option (ℕ × ℕ) → ℕ → ℕ → Option (ℕ × ℕ)
newer None n now = Some (n, now)
newer (Some held) n now = cond (nat_lt held.0 n) (Some (n, now)) (Some held)

-- a number is to be acknowledged
abbrev pub after_insert : Pending → ℕ → ℕ → Pending
after_insert p n now = record p { runs = at_most (with_one p.runs n); newest = newer p.newest n now }

-- the numbers up to one need no more acknowledgement
abbrev pub after_subtract : Pending → ℕ → Pending
after_subtract p n = record p { runs = above p.runs n }

-- how long ago the greatest number came
abbrev pub delay_of : Option (ℕ × ℕ) → ℕ → ℕ
delay_of None now = 0
delay_of (Some held) now = now - held.1

-- ---- when an acknowledgement is due

-- a count of packets
abbrev pub count_up : ℕ → ℕ
count_up n = min (n + 1) (2 ^ 64 - 1)

-- whether an acknowledgement goes even alone
abbrev pub can_send : Pending → Bool
can_send p = p.due && is_filled p.runs

-- whether a missing number lies so far below the greatest that the peer takes it for lost
abbrev pub is_lost_by : Option ℕ → ℕ → ℕ → Bool
is_lost_by None greatest reordering = false
is_lost_by (Some missing) greatest reordering = nat_le reordering (greatest - missing)

-- whether the next acknowledgement would show a missing number as lost: the least that is missing
-- above one less than the threshold below the greatest number that asked as the last one went. That
-- one itself is passed over, though none showed it as lost yet
abbrev pub shows_loss : Option ℕ → ℕ → ℕ → Seen → Bool
shows_loss None reordering greatest s = false
shows_loss (Some acked) reordering greatest s = nat_le reordering acked && is_lost_by (smallest_missing s (acked - reordering + 1) greatest) greatest reordering

-- whether a number comes below the greatest before it, or numbers between are missing (RFC 9000,
-- section 13.2.1)
abbrev pub leaves_gap : ℕ → ℕ → Seen → Bool
leaves_gap before n s = nat_lt n before || is_some (smallest_missing s before n)

-- whether a packet comes farther out of order than it may
abbrev pub is_out_of_order : Pending → ℕ → ℕ → ℕ → Seen → Bool
is_out_of_order p before greatest n s = cond (p.reordering == 0) false (cond (p.reordering == 1) (leaves_gap before n s) (shows_loss p.acked p.reordering greatest s))

-- the greatest asking number, 0 where none came
abbrev pub greatest_before : Pending → ℕ
greatest_before p = unwrap_or p.greatest 0

-- an asking packet counts, and may make an acknowledgement due
abbrev pub asking_counted : Pending → ℕ → Seen → Pending
asking_counted p n s =
    let greatest = max (greatest_before p) n in
    record p {
      asking = count_up p.asking;
      greatest = Some greatest;
      due = p.due || (nat_lt p.threshold (count_up p.asking) || is_out_of_order p (greatest_before p) greatest n s);
    }

-- whether the timer is to be set: it isn't yet, and no acknowledgement goes at once
abbrev pub starts_wait : Pending → Bool
starts_wait p = is_none p.since && not (can_send p)

-- the timer is set where it is to be
abbrev pub with_wait : Pending → ℕ → Pending
with_wait p now = cond (starts_wait p) (record p { since = Some now }) p

-- after a packet came
abbrev pub after_packet : Pending → ℕ → ℕ → Bool → Seen → Pending
after_packet p now n asks s = cond asks (with_wait (asking_counted p n s) now) (record p { silent = count_up p.silent })

-- whether the timer is to be set when a packet came
abbrev pub packet_starts_wait : Pending → ℕ → Bool → Seen → Bool
packet_starts_wait p n asks s = asks && starts_wait (asking_counted p n s)

-- after a frame with an acknowledgement went
abbrev pub after_acks_sent : Pending → Pending
after_acks_sent p = record p { due = false; asking = 0; silent = 0; since = None; acked = p.greatest }

-- after the timer expired
abbrev pub after_timeout : Pending → Pending
after_timeout p = record p { due = nat_lt 0 p.asking }

-- before a packet is made that goes anyway
abbrev pub after_lazy : Pending → Pending
after_lazy p = record p { due = p.due || nat_lt lazy_threshold p.silent }
