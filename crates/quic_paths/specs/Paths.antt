-- A path to the peer. Times are in nanoseconds, sizes and windows in bytes.
use Rattle.std.specs.Prelude.{◌≡◌, ℕ, ◌+◌, ◌*◌, Bool, true, false, not, ◌&&◌, ◌==◌, nat_lt, if◌then◌else◌, List, [], ◌∷◌, Option, Some, None}
use Rattle.quic_time.specs.Clocks.{saturated}
use Rattle.quic_time.specs.Rtt.{Rtt, assumed_rtt, best_rtt}
use Rattle.quic_config.specs.Transport.{TransportSettings, first_mtu, first_estimate, first_behind_sample}
use Rattle.quic_congestion.specs.Pacer.{Pacing, new_pacing}
use Rattle.quic_congestion.specs.Search.{Discovery, first_discovery, after_reset}
use Rattle.quic_paths.specs.InFlight.{Flight, no_flight, flight_with, flight_without}

-- a path with its controller, whatever that is
pub record PathValue (C : Type 0) : Type 0 where
  -- the peer's address
  pub remote : ℕ
  -- how long a round trip takes (RFC 9002, section 5)
  pub rtt : Rtt
  -- how much may be in flight, how sending is spread, and what is in flight (section 7)
  pub congestion : C
  pub pacing : Pacing
  pub in_flight : Flight
  -- whether packets are marked (RFC 9000, section 13.4)
  pub marks : Bool
  -- the word of the latest PATH_CHALLENGE, until it is answered, and whether that waits to be sent
  -- (section 8.2)
  pub challenge : Option ℕ
  pub challenge_waits : Bool
  -- whether the peer's address is validated (section 8), and the bytes of the datagrams that came
  -- and went
  pub validated : Bool
  pub received : ℕ
  pub sent : ℕ
  -- the bytes of the greatest datagram, and how more are looked for (section 14)
  pub discovery : Discovery
  -- the number of the first packet that went after the round trip was sampled, if one did (RFC
  -- 9002, section 7.6.2)
  pub first_after_rtt : Option ℕ
  -- which path of the connection it is
  pub generation : ℕ

-- made to an address at a moment, with a controller that begins with this window; a greater size of
-- datagrams is looked for or isn't, within the peer's limit if it is known
abbrev pub new_path : {C : Type 0} → ℕ → Bool → Option ℕ → ℕ → ℕ → TransportSettings → C → ℕ → PathValue C
new_path remote searches limit generation now settings controller initial = record {
  remote = remote;
  rtt = first_estimate settings;
  congestion = controller;
  pacing = new_pacing (best_rtt (first_estimate settings)) initial (first_mtu settings) now;
  in_flight = no_flight;
  marks = true;
  challenge = None;
  challenge_waits = false;
  validated = false;
  received = 0;
  sent = 0;
  discovery = first_discovery searches limit settings;
  first_after_rtt = first_behind_sample settings;
  generation = generation;
}

-- made to an address at a moment in place of another, whose controller has this window: what was
-- measured stays (RFC 9000, section 9)
abbrev pub next_path : {C : Type 0} → ℕ → PathValue C → ℕ → ℕ → ℕ → PathValue C
next_path remote prev generation now window = record {
  remote = remote;
  rtt = prev.rtt;
  congestion = prev.congestion;
  pacing = new_pacing (best_rtt prev.rtt) window prev.discovery.size now;
  in_flight = no_flight;
  marks = true;
  challenge = None;
  challenge_waits = false;
  validated = false;
  received = 0;
  sent = 0;
  discovery = prev.discovery;
  first_after_rtt = prev.first_after_rtt;
  generation = generation;
}

-- what was measured is forgotten at a moment, with a controller that begins with this window; a
-- sample that was taken before the connection began is one of the path as it was, and counts no
-- more
abbrev pub path_after_reset : {C : Type 0}
    → PathValue C → ℕ → TransportSettings → C → ℕ → PathValue C
path_after_reset path now settings controller initial = record path {
  rtt = assumed_rtt settings.initial_rtt;
  congestion = controller;
  pacing = new_pacing settings.initial_rtt initial (first_mtu settings) now;
  discovery = after_reset (first_mtu settings) settings.min_mtu path.discovery;
}

-- a packet went on the path
abbrev pub path_with : {C : Type 0} → PathValue C → ℕ → Bool → PathValue C
path_with path size asks = record path { in_flight = flight_with path.in_flight size asks }

-- a packet that went on a path of some generation is no longer in flight
abbrev pub path_without : {C : Type 0} → PathValue C → ℕ → ℕ → Bool → PathValue C
path_without path generation size asks =
    if generation == path.generation
    then record path { in_flight = flight_without path.in_flight size asks }
    else path

-- the peer is asked to answer this word, which waits to be sent; an earlier one counts no more (RFC
-- 9000, section 8.2.1)
abbrev pub path_challenged : {C : Type 0} → PathValue C → ℕ → PathValue C
path_challenged path token = record path { challenge = Some token; challenge_waits = true }

-- the word that waits to be sent, if one waits
abbrev pub challenge_to_send : {C : Type 0} → PathValue C → Option ℕ
challenge_to_send path = if path.challenge_waits then path.challenge else None

-- that word went, if one waited
abbrev pub path_after_challenge : {C : Type 0} → Option ℕ → PathValue C → PathValue C
path_after_challenge None path = path
path_after_challenge (Some token) path = record path { challenge_waits = false }

-- whether a word is that of a challenge, if there is one
abbrev pub is_asked : Option ℕ → ℕ → Bool
is_asked None token = false
is_asked (Some asked) token = asked == token

-- whether a word that came answers the latest challenge (section 8.2.3)
abbrev pub answers : {C : Type 0} → PathValue C → ℕ → Bool
answers path token = is_asked path.challenge token

-- a word came in answer: that of the latest challenge validates the peer's address, any other
-- changes nothing
abbrev pub path_answered : {C : Type 0} → PathValue C → ℕ → PathValue C
path_answered path token = if answers path token
    then record path { challenge = None; challenge_waits = false; validated = true }
    else path

-- a datagram of so many bytes came; 64 bits hold the sum
abbrev pub path_after_received : {C : Type 0} → PathValue C → ℕ → PathValue C
path_after_received path bytes = record path { received = saturated (path.received + bytes) }

-- and one went
abbrev pub path_after_sent : {C : Type 0} → PathValue C → ℕ → PathValue C
path_after_sent path bytes = record path { sent = saturated (path.sent + bytes) }

-- whether so many bytes have to wait: the peer's address isn't validated, and with them more would
-- have gone than three times what came (RFC 9000, section 8.1), or more than 64 bits count
abbrev pub is_blocked : {C : Type 0} → PathValue C → ℕ → Bool
is_blocked path bytes =
    not path.validated && nat_lt (saturated (3 * path.received)) (path.sent + bytes)

-- a datagram of so many bytes came, or went
pub data Datagram : Type 0 where
  came : ℕ → Datagram
  went : ℕ → Datagram

-- the bytes of those that came
abbrev pub bytes_came : List Datagram → ℕ
bytes_came [] = 0
bytes_came (came bytes ∷ later) = bytes + bytes_came later
bytes_came (went bytes ∷ later) = bytes_came later

-- and of those that went
abbrev pub bytes_went : List Datagram → ℕ
bytes_went [] = 0
bytes_went (came bytes ∷ later) = bytes_went later
bytes_went (went bytes ∷ later) = bytes + bytes_went later

-- of these datagrams, the earliest first, none went that had to wait
abbrev pub AreAllowed : {C : Type 0} → List Datagram → PathValue C → Type 0
AreAllowed [] path = Unit {0}
AreAllowed (came bytes ∷ later) path = AreAllowed later (path_after_received path bytes)
AreAllowed (went bytes ∷ later) path =
    (is_blocked path bytes ≡ false) × AreAllowed later (path_after_sent path bytes)
