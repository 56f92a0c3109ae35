-- When an end asks its peer how often to acknowledge, and for what (QUIC Acknowledgement Frequency,
-- section 4), as an observer of a run's lists reckons it. The constants are the observer's own.
use Rattle.std.specs.Prelude.{ℕ, suc, ◌⊎◌, ◌+◌, ◌-◌, ◌*◌, ◌/◌, ◌^◌, ◌≡◌, ◌==◌, ◌||◌, min, max, nat_lt, Bool, true, false, List, [], ◌∷◌, Option, Some, option_map, unwrap_or}
use Rattle.std.specs.List.{list_any}
use Rattle.quic_wire_core.specs.declared.stream_id.Side.{Side}
use Rattle.quic_wire.specs.Value.{FrameValue, AckFrequencyValue, ack_frequency}
use Rattle.quic_config.specs.Configs.{FrequencySettings}
use Rattle.quic_machine.specs.declared.run.View.{View}
use Rattle.quic_machine.specs.End.{End}
use Rattle.quic_machine.specs.Machine.{end_at}
use Rattle.quic_headline.specs.RoundTrip.{expected_round}
use Rattle.quic_headline.specs.Runs.{Run, In, AreServed}
use Rattle.quic_headline.specs.Observer.{Sent, Flight, latest, watch}
use Rattle.quic_headline.specs.InFlight.{is_ack_frequency}
use Rattle.quic_headline.specs.Polls.{GaveOne, GaveAsking, GaveNothing, IsHeldBack, IsLimited}

-- how many ACK_FREQUENCY frames stand among these
abbrev pub count_requests : List FrameValue → ℕ
count_requests [] = 0
count_requests (ack_frequency f ∷ fs) = 1 + count_requests fs
count_requests (other ∷ fs) = count_requests fs

-- and in these datagrams
abbrev pub requests_in : List Sent → ℕ
requests_in [] = 0
requests_in (s ∷ ss) = count_requests s.frames + requests_in ss

-- How an end asks: what it is configured to ask for, if it is; and the least delay that its peer
-- can be asked for, in microseconds, which the peer told if it takes ACK_FREQUENCY (section 3).
pub record Asking : Type 0 where
  pub settings : Option FrequencySettings
  pub least : Option ℕ

-- so of an end, by its settings and by what its peer told as the connection began
abbrev pub asking_of : End → Asking
asking_of e = record { settings = e.transport.ack_frequency_config; least = e.peer_params.min_ack_delay }

-- so of an end of a run
abbrev pub asking_at : Run → Side → Asking
asking_at r side = asking_of (end_at side r.start)

-- the delay that is wanted, in nanoseconds: the one that is configured, in whole microseconds, or
-- else that of the peer; no longer than a round trip, which counts as 25 ms at least; but no
-- shorter than the least that the peer can be asked for
abbrev pub wanted_delay : FrequencySettings → ℕ → Flight → ℕ
wanted_delay settings least f =
    max (min (unwrap_or (option_map (λ nanos. nanos / 1000 * 1000) settings.max_delay) f.delay) (max (expected_round f.rtt) 25000000)) (min (least * 1000) latest)

-- the delay that the peer was asked for last, or else the one to which it keeps
abbrev pub last_delay : Flight → ℕ
last_delay f = unwrap_or (option_map (λ request. request.1) f.request) f.delay

-- whether two delays lie further apart than a fifth of the second
abbrev pub are_apart : ℕ → ℕ → Bool
are_apart wanted last = nat_lt last (5 * ((wanted - last) + (last - wanted)))

-- whether an end that is configured so, whose peer told this, and that gave these datagrams asks
-- anew: it is to ask, and the peer can be asked; and it never did, or wants another delay than the
-- one that it asked for last
abbrev pub asks_by : Option FrequencySettings → Option ℕ → List Sent → Flight → Bool
asks_by (Some settings) (Some least) sents f = (requests_in sents == 0) || are_apart (wanted_delay settings least f) (last_delay f)
asks_by settings least sents f = false

-- the same of an end that asks so
abbrev pub wants_anew : Asking → List Sent → Flight → Bool
wants_anew a sents f = asks_by a.settings a.least sents f

-- a frame tells no number above this (RFC 9000, section 16)
abbrev pub told_at_most : ℕ → ℕ
told_at_most n = min n (2 ^ 62 - 1)

-- What a request says behind so many others: its number, one more than that of the one before; the
-- delay that is wanted, in microseconds; and what the end is configured to ask for.
abbrev pub request_said : FrequencySettings → ℕ → ℕ → Flight → AckFrequencyValue
request_said settings least before f = record {
  sequence = told_at_most before;
  threshold = told_at_most settings.threshold;
  delay = told_at_most (wanted_delay settings least f / 1000);
  reordering = told_at_most settings.reordering;
}

-- A datagram that a poll gave has this ACK_FREQUENCY frame: its end is configured to ask, and the
-- peer can be asked; it says so; and it is the only one there.
pub record IsRequest (r : Run) (side : Side) (i : ℕ) (s : Sent) (f : AckFrequencyValue) : Type 0 where
  pub settings : FrequencySettings
  pub configured : (asking_at r side).settings ≡ Some settings
  pub least : ℕ
  pub told : (asking_at r side).least ≡ Some least
  pub says : f ≡ request_said settings least (requests_in (watch r side i).own) (watch r side i).flight
  pub alone : count_requests s.frames ≡ 1

-- So it is of each ACK_FREQUENCY frame in each datagram that a poll gives.
abbrev pub RequestsSay : Run → Type 0
RequestsSay r = (side : Side) (i now : ℕ) (gave : GaveOne r side i now) (f : AckFrequencyValue) → In (ack_frequency f) gave.sent.frames → IsRequest r side i gave.sent f

-- Where an end asks its peer anew as it is polled: each datagram that asks for an acknowledgement
-- has ACK_FREQUENCY; and where an open end gives nothing, window or pacer hold it back, or nothing
-- more may go to an address that isn't validated.
pub record RequestsGo (r : Run) : Type 0 where
  pub along : (side : Side) (i now : ℕ) (given : GaveAsking r side i now) → wants_anew (asking_at r side) (watch r side i).own (watch r side i).flight ≡ true → list_any is_ack_frequency given.one.sent.frames ≡ true
  pub held : (side : Side) (i now : ℕ) (v : View) → AreServed r (suc i) → GaveNothing r side i now v → wants_anew (asking_at r side) (watch r side i).own (watch r side i).flight ≡ true → IsHeldBack r side (suc i) v ⊎ IsLimited r side (suc i) v
