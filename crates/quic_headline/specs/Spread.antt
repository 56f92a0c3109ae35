-- How an end spreads what it sends over the round trip, as an observer of a run's lists reckons it
-- (RFC 9002, section 7.7): in which polls its pacer is asked, and with what; which tokens are taken
-- of it; and which moment it names.
use Rattle.std.specs.Prelude.{ℕ, zero, suc, ◌+◌, ◌≤◌, ◌≡◌, ◌⊎◌, max, not, ◌==◌, ◌&&◌, ◌||◌, Bool, true, false, nat_lt, if◌then◌else◌, IfSome, List, [], ◌∷◌, ◌++◌, filter, map, length, slice_get, Option, Some, None}
use Rattle.std.specs.List.{list_any}
use Rattle.quic_wire_core.specs.declared.stream_id.Side.{Side}
use Rattle.quic_congestion.specs.Pacer.{Pacing, Ask}
use Rattle.quic_congestion.specs.Pacer as pacer
use Rattle.quic_machine.specs.declared.answers.State.TheVariants as states
use Rattle.quic_machine.specs.declared.run.RunEvent.{RunEvent}
use Rattle.quic_machine.specs.declared.run.Call.{Call}
use Rattle.quic_machine.specs.declared.run.Call.TheVariants as calls
use Rattle.quic_machine.specs.declared.run.Answer.{Answer}
use Rattle.quic_machine.specs.declared.run.View.{View}
use Rattle.quic_machine.specs.End.{End}
use Rattle.quic_machine.specs.Machine.{end_at}
use Rattle.quic_headline.specs.RoundTrip.{expected_round, first_round}
use Rattle.quic_headline.specs.Tokens.{full_pacer, begun_pacer, names_for, spent_by}
use Rattle.quic_headline.specs.Runs.{Run, same_side, state_in, AreServed}
use Rattle.quic_headline.specs.Observer.{Sent, asks_of, watch, path_changes}
use Rattle.quic_headline.specs.Headline.{IsAt}
use Rattle.quic_headline.specs.Moments.{went}
use Rattle.quic_headline.specs.Polls.{seen_at, pacing_timer, bytes_flying, GaveNothing, GaveAsking, IsFull, IsLimited, IsToGo, IsSizeProbe}
use Rattle.quic_headline.specs.Queue.{waiting_messages}
use Rattle.quic_headline.specs.Waited.{is_ping, wants}

-- what went of an end at the event behind the first so many answers
abbrev pub gone_at : Run → Side → ℕ → List Sent
gone_at r side i = went (watch r side i) (watch r side (suc i))

-- ---- what a pacer is asked

-- The pacer of an end is asked in a poll whether one more datagram of the current size may go: by
-- the size and the window that are seen before the poll, and over a round trip of 1 ns at least.
-- The moment is that of the poll, or the greatest that the end took over before, where that is
-- later.
abbrev pub ask_at : Run → Side → ℕ → ℕ → Ask
ask_at r side i now =
    let w = watch r side i in
    let seen = seen_at r side i in
    record {
      rtt = max (expected_round w.flight.rtt) 1;
      bytes = seen.current_mtu;
      size = seen.current_mtu;
      window = seen.window;
      moment = max w.clock now;
    }

-- ---- when it is asked

-- whether a message waits, and the window has room for one more datagram beside those in flight: if
-- one goes then that doesn't ask, it has an ACK frame, beside which the message didn't fit
abbrev pub leaves_message : Run → Side → ℕ → Bool
leaves_message r side i = nat_lt 0 (length (waiting_messages r side i)) && nat_lt (bytes_flying r side i + (seen_at r side i).current_mtu) (seen_at r side i).window

-- Whether a datagram that has PING is a probe of a size: PING wasn't asked for; and where a probe
-- of losses may have left it waiting, the datagram is longer than the current size, as no other is.
abbrev pub probes_size : Run → Side → ℕ → Sent → Bool
probes_size r side i s = list_any is_ping s.frames && (not (wants r side i).pinged && (not (wants r side i).probed || nat_lt (seen_at r side i).current_mtu s.size))

-- Whether the pacer was asked before a datagram that asks went, or one that doesn't, where no probe
-- of losses waits: the one is no probe of a size; the other leaves a message.
abbrev pub is_paced : Bool → Run → Side → ℕ → Sent → Bool
is_paced true r side i s = not (probes_size r side i s)
is_paced false r side i s = leaves_message r side i

-- whether it was before one of these
abbrev pub one_paced : List Sent → Run → Side → ℕ → Bool
one_paced [] r side i = false
one_paced (s ∷ ss) r side i = is_paced (asks_of s) r side i s || one_paced ss r side i

-- Whether it was asked in a poll, where its timer is seen so behind the poll: the timer is set, or
-- such a datagram went. Probes of losses pass (section 7.5), and so does one of a size.
abbrev pub asks_pacer : Option (Option ℕ) → Run → Side → ℕ → Bool
asks_pacer (Some (Some moment)) r side i = true
asks_pacer timer r side i = ((watch r side i).flight.probes == 0) && one_paced (gone_at r side i) r side i

-- ---- the pacer

-- the pacer is asked with this, or isn't asked
abbrev pub asked_if : Bool → Ask → List pacer.Call
asked_if true ask = pacer.asked_with ask ∷ []
asked_if false ask = []

-- a datagram that asks takes a token for each of its bytes, be it a probe or not
abbrev pub charges : List Sent → List pacer.Call
charges ss = map (λ s. pacer.went s.size) (filter asks_of ss)

-- what becomes of a pacer by a call of its end, where this view lies behind it: only polls ask it
abbrev pub paces_by : Call → Run → Side → ℕ → View → List pacer.Call
paces_by (calls.Poll now) r side i v = asked_if (asks_pacer (pacing_timer v side) r side i) (ask_at r side i now) ++ charges (gone_at r side i)
paces_by call r side i v = []

-- by a call of its end, or of the other one, which leaves it
abbrev pub paces_in : Bool → Call → Run → Side → ℕ → View → List pacer.Call
paces_in true call r side i v = paces_by call r side i v
paces_in false call r side i v = []

-- by an event, if there is one with a view behind it
abbrev pub paces_at : Option RunEvent → Option View → Run → Side → ℕ → List pacer.Call
paces_at (Some event) (Some v) r side i = paces_in (same_side event.side side) event.call r side i v
paces_at event v r side i = []

-- that of another path, as it comes: full, by the round trip, the window, the size and the clock
-- that are seen behind the event
abbrev pub pacer_anew : Run → Side → ℕ → Pacing
pacer_anew r side i = full_pacer (expected_round (watch r side i).flight.rtt) (seen_at r side i).window (seen_at r side i).current_mtu (watch r side i).clock

-- that with which an end begins
abbrev pub first_pacer : End → Pacing
first_pacer e = begun_pacer (first_round e.transport) e.path.pacing

-- what the pacer of an end holds behind the first so many answers: at first what it did as the run
-- began, and then what each event leaves of that; where the path changes, it is made anew
abbrev pub pacer_at : Run → Side → ℕ → Pacing
pacer_at r side zero = first_pacer (end_at side r.start)
pacer_at r side (suc i) = if path_changes r side i then pacer_anew r side (suc i) else spent_by (paces_at (slice_get r.events i) (slice_get r.views i) r side i) (pacer_at r side i)

-- the moment that it names where it is asked in a poll there, if it names a later one
abbrev pub named_at : Run → Side → ℕ → ℕ → Option ℕ
named_at r side i now = names_for (pacer_at r side i) (ask_at r side i now)

-- ---- the clause

-- A poll holds to the pacer. Its timer isn't set behind the poll, or is set to the moment that the
-- pacer names. What asks goes, where no probe of losses waits, only where the pacer names none, or
-- as a probe of a size. And where nothing goes though a byte of a stream, or its end, is to go, the
-- window is full, or the pacer names a moment, to which its timer is set, or nothing more may go to
-- an address that isn't validated.
pub record HoldsToPacer (r : Run) (side : Side) (i now : ℕ) (v : View) : Type 0 where
  pub sets : (pacing_timer v side ≡ Some None) ⊎ (pacing_timer v side ≡ Some (named_at r side i now))
  pub lets : (gave : GaveAsking r side i now) → (watch r side i).flight.probes ≡ 0 → (named_at r side i now ≡ None) ⊎ IsSizeProbe r side i gave.one.sent
  pub waits : (id : ℕ) → GaveNothing r side i now v → IsToGo r side (suc i) id
      → IsFull r side (suc i) v ⊎ (((moment : ℕ) × (named_at r side i now ≡ Some moment) × (pacing_timer v side ≡ Some (Some moment))) ⊎ IsLimited r side (suc i) v)

-- any other call leaves the timer as it is seen before, or not set
abbrev pub HoldsBy : Call → Run → Side → ℕ → View → Type 0
HoldsBy (calls.Poll now) r side i v = HoldsToPacer r side i now v
HoldsBy call r side i v = (pacing_timer v side ≡ Some None) ⊎ (pacing_timer v side ≡ slice_get (seen_at r side i).timers 6)

-- An end searches in steps of three bytes at least, if it searches for a size at all: then no probe
-- of a size has exactly the current size, which any other datagram may have.
abbrev pub SearchesApart : Run → Side → Type 0
SearchesApart r side = IfSome (end_at side r.start).transport.mtu_discovery_config (λ search. 3 ≤ search.least_change)

-- so it is of each call behind which the view shows its end open
abbrev pub PacerIsOfHistory : Run → Type 0
PacerIsOfHistory r = (side : Side) (i : ℕ) (call : Call) (a : Answer) (v : View) → AreServed r (suc i) → IsAt r i side call a → slice_get r.views i ≡ Some v → state_in v side ≡ states.Open → SearchesApart r side → HoldsBy call r side i v
