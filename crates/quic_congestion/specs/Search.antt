-- The search for the greatest size of a datagram that a path carries (RFC 8899, section 5.3).
use Rattle.std.specs.Prelude.{ℕ, ◌+◌, ◌-◌, ◌/◌, ◌^◌, ◌==◌, ltb, leb, min, max, Bool, true, false, cond, List, [], ◌∷◌, Option, Some, None}
use Rattle.std.specs.Option.{is_some, option_map, option_and_then}
use Rattle.std.specs.Int.{abs_diff}
use Rattle.quic_config.specs.Configs.{SearchSettings}
use Rattle.quic_config.specs.Transport.{TransportSettings, first_mtu}
use Rattle.quic_congestion.specs.Bursts.{Bursts, no_bursts, is_black_hole, after_told, after_lost, after_acknowledged, after_probe}

-- ---- one search

-- the bounds of the sizes that are looked at; the size probed last, at first the low bound; the
-- number of the probe that is open; and how often that size was lost, up to three times
pub record Search : Type 0 where
  pub low : ℕ
  pub high : ℕ
  pub last : ℕ
  pub probe : Option ℕ
  pub lost : ℕ

-- a size cut to the peer's limit
abbrev pub within : Option ℕ → ℕ → ℕ
within None size = size
within (Some limit) size = min size limit

-- a search from a size on, up to a bound
abbrev pub begun : ℕ → Option ℕ → ℕ → Search
begun size limit bound =
    let low = within limit size in
    record { low = low; high = max low (within limit bound); last = low; probe = None; lost = 0 }

-- what the last probe says of the bounds: it came through, or was lost for the third time
abbrev pub narrowed : Search → Search
narrowed s =
    cond (s.lost == 0) (record s { low = s.last })
    (cond (ltb s.lost 3) s (record s { high = s.last - 1; lost = 0 }))

-- the size in the middle of the bounds
abbrev pub middle : Search → ℕ
middle s = (s.low + s.high) / 2

-- the middle, or else the high bound, where it differs enough from the last size
abbrev pub halved : ℕ → Search → Option ℕ
halved least_change s =
    cond (leb least_change (abs_diff (middle s) s.last)) (Some (middle s))
    (cond (leb least_change (s.high - s.last)) (Some s.high) None)

-- the next size: a lost one again, or else between the bounds, and none at the end of the search
abbrev pub next_size : ℕ → Search → Option ℕ
next_size least_change s = cond (s.lost == 0) (halved least_change s) (Some s.last)

-- a probe of a size goes under a number
abbrev pub probing : ℕ → ℕ → Search → Search
probing size number s = record s { last = size; probe = Some number }

-- the open probe was acknowledged
abbrev pub succeeded : Search → Search
succeeded s = record s { probe = None; lost = 0 }

-- the open probe, if there is one, was lost
abbrev pub failed_if : Option ℕ → Search → Search
failed_if None s = s
failed_if (Some number) s = record s { probe = None; lost = min (s.lost + 1) 3 }

-- the open probe was lost
abbrev pub failed : Search → Search
failed s = failed_if s.probe s

-- ---- one search after another

-- the configuration; the search that is under way; and the moment from which on the next begins,
-- where none is
pub record Plan : Type 0 where
  pub settings : SearchSettings
  pub current : Option Search
  pub next : ℕ

-- nothing was searched: the first poll begins, whatever its moment
abbrev pub first_plan : SearchSettings → Plan
first_plan settings = record { settings = settings; current = None; next = 0 }

-- a moment and a length of time later, or the greatest moment
abbrev pub later : ℕ → ℕ → ℕ
later now length = min (now + length) (2 ^ 64 - 1)

-- no search is under way for some time
abbrev pub resting : ℕ → ℕ → Plan → Plan
resting now length plan = record plan { current = None; next = later now length }

-- the search under way, or one that begins now
abbrev pub due_if : Option Search → ℕ → ℕ → Option ℕ → Plan → Option Search
due_if None now size limit plan = cond (ltb now plan.next) None (Some (begun size limit plan.settings.upper_bound))
due_if (Some s) now size limit plan = Some s

-- the same, by what a plan has
abbrev pub due : ℕ → ℕ → Option ℕ → Plan → Option Search
due now size limit plan = due_if plan.current now size limit plan

-- none while a probe is open
abbrev pub size_unless : Option ℕ → ℕ → Search → Option ℕ
size_unless None least_change s = next_size least_change (narrowed s)
size_unless (Some number) least_change s = None

-- the same, of a search if there is one
abbrev pub size_if : Option Search → ℕ → Option ℕ
size_if None least_change = None
size_if (Some s) least_change = size_unless s.probe least_change s

-- the size that a poll names
abbrev pub plan_names : ℕ → ℕ → Option ℕ → Plan → Option ℕ
plan_names now size limit plan = size_if (due now size limit plan) plan.settings.least_change

-- a probe of that size goes under the number; or the search has ended
abbrev pub probed_if : Option ℕ → Search → ℕ → ℕ → Plan → Plan
probed_if None s now number plan = resting now plan.settings.interval plan
probed_if (Some size) s now number plan = record plan { current = Some (probing size number s) }

-- nothing more goes while a probe is open
abbrev pub polled_unless : Option ℕ → Search → ℕ → ℕ → Plan → Plan
polled_unless None s now number plan =
    probed_if (next_size plan.settings.least_change (narrowed s)) (narrowed s) now number plan
polled_unless (Some open_number) s now number plan = plan

-- the same, of a search if there is one
abbrev pub polled_if : Option Search → ℕ → ℕ → Plan → Plan
polled_if None now number plan = plan
polled_if (Some s) now number plan = polled_unless s.probe s now number plan

-- after a poll
abbrev pub plan_polled : ℕ → ℕ → ℕ → Option ℕ → Plan → Plan
plan_polled now number size limit plan = polled_if (due now size limit plan) now number plan

-- the search under way learns that its open probe was acknowledged
abbrev pub plan_succeeded : Plan → Plan
plan_succeeded plan = record plan { current = option_map succeeded plan.current }

-- or lost
abbrev pub plan_failed : Plan → Plan
plan_failed plan = record plan { current = option_map failed plan.current }

-- a plan with its configuration alone
abbrev pub plan_anew : Plan → Plan
plan_anew plan = first_plan plan.settings

-- no search for the time after a black hole
abbrev pub plan_cooled : ℕ → Plan → Plan
plan_cooled now plan = resting now plan.settings.cooldown plan

-- the search under way
abbrev pub search_in : Plan → Option Search
search_in plan = plan.current

-- the number of the open probe
abbrev pub open_of : Option Search → Option ℕ
open_of None = None
open_of (Some s) = s.probe

-- whether this is the number of the open probe
abbrev pub is_number : ℕ → Option ℕ → Bool
is_number number None = false
is_number number (Some n) = n == number

-- the size of the open probe, if this is its number
abbrev pub probed_by : ℕ → Option Search → Option ℕ
probed_by number None = None
probed_by number (Some s) = cond (is_number number s.probe) (Some s.last) None

-- ---- with the current size and the losses

-- the current size; the peer's limit; the searches, unless they are disabled; and the losses
pub record Discovery : Type 0 where
  pub size : ℕ
  pub limit : Option ℕ
  pub plan : Option Plan
  pub bursts : Bursts

-- a search over a size, within the peer's limit
abbrev pub new_discovery : ℕ → ℕ → Option ℕ → SearchSettings → Discovery
new_discovery size least limit settings =
    record { size = within limit size; limit = limit; plan = Some (first_plan settings); bursts = no_bursts least }

-- a size without a search
abbrev pub disabled_discovery : ℕ → ℕ → Discovery
disabled_discovery size least = record { size = size; limit = None; plan = None; bursts = no_bursts least }

-- with a search, where one is configured
abbrev pub discovery_by : Option SearchSettings → ℕ → ℕ → Option ℕ → Discovery
discovery_by None size least limit = disabled_discovery size least
discovery_by (Some settings) size least limit = new_discovery size least limit settings

-- a search that is configured, where it is allowed
abbrev pub allowed_search : Bool → Option SearchSettings → Option SearchSettings
allowed_search true settings = settings
allowed_search false settings = None

-- on a path that is made by the settings of a transport
abbrev pub first_discovery : Bool → Option ℕ → TransportSettings → Discovery
first_discovery allowed limit t = discovery_by (allowed_search allowed t.mtu_discovery_config) (first_mtu t) t.min_mtu limit

-- everything begins anew, but for the configuration and the peer's limit
abbrev pub after_reset : ℕ → ℕ → Discovery → Discovery
after_reset size least d = record {
  size = within d.limit size;
  limit = d.limit;
  plan = option_map plan_anew d.plan;
  bursts = no_bursts least;
}

-- the search under way, if any
abbrev pub search_of : Discovery → Option Search
search_of d = option_and_then search_in d.plan

-- whether a search is under way
abbrev pub is_searching : Discovery → Bool
is_searching d = is_some (search_of d)

-- the number of the open probe
abbrev pub open_probe : Discovery → Option ℕ
open_probe d = open_of (search_of d)

-- the peer's limit cuts the size
abbrev pub after_limit : ℕ → Discovery → Discovery
after_limit limit d = record d { size = min d.size limit; limit = Some limit }

-- the greatest size that is looked at, where the search isn't disabled
abbrev pub search_bound : Discovery → Option ℕ
search_bound d = option_map (λ plan. within d.limit plan.settings.upper_bound) d.plan

-- the size that a poll names, and none where the search is disabled
abbrev pub poll_names : ℕ → Discovery → Option ℕ
poll_names now d = option_and_then (plan_names now d.size d.limit) d.plan

-- after a poll
abbrev pub after_poll : ℕ → ℕ → Discovery → Discovery
after_poll now number d = record d { plan = option_map (plan_polled now number d.size d.limit) d.plan }

-- the size of the open probe, if this is its number
abbrev pub acknowledged_probe : ℕ → Discovery → Option ℕ
acknowledged_probe number d = probed_by number (search_of d)

-- the probe's size is the size from now on
abbrev pub probe_acknowledged : ℕ → ℕ → ℕ → Discovery → Discovery
probe_acknowledged size number length d =
    record d { size = size; plan = option_map plan_succeeded d.plan; bursts = after_probe number length d.bursts }

-- any other packet only counts for the losses
abbrev pub packet_acknowledged : ℕ → ℕ → Discovery → Discovery
packet_acknowledged number length d = record d { bursts = after_acknowledged number length d.bursts }

-- the probe of a size was acknowledged, or else another packet
abbrev pub acknowledged_if : Option ℕ → ℕ → ℕ → Discovery → Discovery
acknowledged_if None number length d = packet_acknowledged number length d
acknowledged_if (Some size) number length d = probe_acknowledged size number length d

-- after a packet of a number and a length was acknowledged
abbrev pub after_ack : ℕ → ℕ → Discovery → Discovery
after_ack number length d = acknowledged_if (acknowledged_probe number d) number length d

-- after the open probe was lost
abbrev pub after_probe_lost : Discovery → Discovery
after_probe_lost d = record d { plan = option_map plan_failed d.plan }

-- after another packet was lost
abbrev pub after_packet_lost : ℕ → ℕ → Discovery → Discovery
after_packet_lost number length d = record d { bursts = after_lost number length d.bursts }

-- whether the path carries less than before
abbrev pub finds_black_hole : Discovery → Bool
finds_black_hole d = is_black_hole d.bursts

-- a black hole leaves the size that every path carries, and the next search waits
abbrev pub after_question : ℕ → Discovery → Discovery
after_question now d =
    cond (finds_black_hole d)
    (record d { size = d.bursts.least; plan = option_map (plan_cooled now) d.plan; bursts = after_told d.bursts })
    (record d { bursts = after_told d.bursts })

-- ---- histories

-- the calls, with what was handed in
pub data SearchCall : Type 0 where
  Reset : ℕ → ℕ → SearchCall
  Polled : ℕ → ℕ → SearchCall
  Limited : ℕ → SearchCall
  Acknowledged : ℕ → ℕ → SearchCall
  ProbeLost : SearchCall
  PacketLost : ℕ → ℕ → SearchCall
  Asked : ℕ → SearchCall

-- the search after a call
abbrev pub search_after : SearchCall → Discovery → Discovery
search_after (Reset size least) d = after_reset size least d
search_after (Polled now number) d = after_poll now number d
search_after (Limited limit) d = after_limit limit d
search_after (Acknowledged number length) d = after_ack number length d
search_after ProbeLost d = after_probe_lost d
search_after (PacketLost number length) d = after_packet_lost number length d
search_after (Asked now) d = after_question now d

-- after a history, the latest call first
abbrev pub search_over : Discovery → List SearchCall → Discovery
search_over d [] = d
search_over d (call ∷ earlier) = search_after call (search_over d earlier)
