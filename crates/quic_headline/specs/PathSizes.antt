-- How many bytes the datagrams of an end have, by what its lists say of probes that were
-- acknowledged and of datagrams that were lost; and when its search for a larger size rests (RFC
-- 8899, sections 4.3 and 5.3; RFC 9000, sections 14.3 and 14.4). The rules by which a path is taken
-- to carry less are quinn-proto's, as RFC 8899 leaves them to who searches.
use Rattle.std.specs.Prelude.{ℕ, suc, ◌+◌, ◌-◌, ◌/◌, ◌≤◌, ◌≡◌, max, min, not, ◌&&◌, ◌==◌, Bool, true, false, nat_le, nat_lt, if◌then◌else◌, List, [], ◌∷◌, filter, length, slice_get, Option, Some, None}
use Rattle.std.specs.List.{list_any}
use Rattle.std.specs.Int.{abs_diff}
use Rattle.quic_wire_core.specs.declared.stream_id.Side.{Side}
use Rattle.quic_wire.specs.Value.{FrameValue, AckValue, ack, ping, padding}
use Rattle.quic_config.specs.Configs.{SearchSettings}
use Rattle.quic_config.specs.Transport.{TransportSettings}
use Rattle.quic_machine.specs.declared.answers.State.TheVariants as states
use Rattle.quic_machine.specs.declared.run.View.{View}
use Rattle.quic_machine.specs.Machine.{end_at}
use Rattle.quic_headline.specs.Runs.{Run, Told, Packet, names, given_of, and_told, until, state_in, state_at, AreServed}
use Rattle.quic_headline.specs.Observer.{Sent, asks_of, Terms, Flight, latest, after_ack, after_packets, loss_due, is_past, Watch, news, has_opened, moment_of, clock_behind, Lens, is_timely, watch_told, lens_of, watch_from}
use Rattle.quic_headline.specs.Moments.{went}
use Rattle.quic_headline.specs.Telling.{lost_at, acked_flight}
use Rattle.quic_headline.specs.Polls.{mtu_in, seen_of, GaveOne}
use Rattle.quic_headline.specs.Spread.{SearchesApart}

-- ---- bursts of losses

-- Datagrams that were lost at once, with numbers one behind another: the first of these and the
-- last, and the least size.
pub record Burst : Type 0 where
  pub first : ℕ
  pub last : ℕ
  pub size : ℕ

-- how many bytes of a datagram count: none of one that doesn't ask (RFC 9002, section 2)
abbrev pub counted : Sent → ℕ
counted s = if asks_of s then s.size else 0

-- a datagram by itself
abbrev pub burst_of : Sent → Burst
burst_of s = record { first = s.number; last = s.number; size = counted s }

-- a burst before others, of which the first is one with it where its numbers go on
abbrev pub burst_before : Burst → List Burst → List Burst
burst_before b [] = b ∷ []
burst_before b (c ∷ cs) = if c.first == b.last + 1 then record { first = b.first; last = c.last; size = min b.size c.size } ∷ cs else b ∷ c ∷ cs

-- the bursts of datagrams in the order of their numbers
abbrev pub bursts_of : List Sent → List Burst
bursts_of [] = []
bursts_of (s ∷ ss) = burst_before (burst_of s) (bursts_of ss)

-- ---- what is known of an end's path

-- The search for a larger size: the number of the probe that is neither acknowledged nor lost, if
-- there is one, the size of the last one, how often in a row that was lost, the greatest size that
-- may still be carried, whether a search is under way, and before which moment none begins.
pub record Seeking : Type 0 where
  pub probe : Option ℕ
  pub last : ℕ
  pub lost : ℕ
  pub high : ℕ
  pub under_way : Bool
  pub rests : ℕ

-- The size of an end's datagrams; of what arrives on its path the greatest size that is known to,
-- and the number of the newest datagram that showed it; the sizes of bursts that are suspicious;
-- and the search.
pub record Sizing : Type 0 where
  pub size : ℕ
  pub arrives : ℕ
  pub newest : ℕ
  pub suspicious : List ℕ
  pub seeks : Seeking

-- nothing was sought
abbrev pub nothing_sought : Seeking
nothing_sought = record { probe = None; last = 0; lost = 0; high = 0; under_way = false; rests = 0 }

-- nothing was sent on a path that begins with this size: the least one is known to arrive
abbrev pub first_sizing : ℕ → TransportSettings → Sizing
first_sizing size c = record { size = size; arrives = c.min_mtu; newest = 0; suspicious = []; seeks = nothing_sought }

-- whether a number is that of a probe, if there is one
abbrev pub is_of : ℕ → Option ℕ → Bool
is_of number None = false
is_of number (Some probe) = probe == number

-- ---- the search (RFC 8899, section 5.3)

-- a moment and a length of time later, or the greatest moment
abbrev pub later_by : ℕ → ℕ → ℕ
later_by clock length = min (clock + length) latest

-- how long a search rests behind its end, and behind a size that fell
abbrev pub interval_of : Option SearchSettings → ℕ
interval_of None = 0
interval_of (Some c) = c.interval

abbrev pub cooldown_of : Option SearchSettings → ℕ
cooldown_of None = 0
cooldown_of (Some c) = c.cooldown

-- the size in the middle between the current one and the greatest that may be carried, or else the
-- latter, where it differs enough from that of the last probe
abbrev pub size_between : ℕ → ℕ → ℕ → ℕ → Option ℕ
size_between change size high last =
    let middle = (size + high) / 2 in
    if nat_le change (abs_diff middle last) then Some middle else (if nat_le change (high - last) then Some high else None)

-- the size that a search which is under way looks for next, from the current size on: one that was
-- lost once or twice again, or else one between; where there is none, the search is over
abbrev pub sought : SearchSettings → ℕ → Seeking → Option ℕ
sought c size k = if k.under_way then (if k.lost == 0 then size_between c.least_change size k.high k.last else Some k.last) else None

-- a search begins from the current size, up to the configured one, or to what a datagram has at
-- most (RFC 9000, section 18.2)
abbrev pub search_begun : SearchSettings → ℕ → Seeking → Seeking
search_begun c size k = record k { last = size; lost = 0; high = max size (min c.upper_bound 65527); under_way = true }

-- one goes on where it looks for a size, and begins where it doesn't
abbrev pub search_goes : Option ℕ → SearchSettings → ℕ → Seeking → Seeking
search_goes None c size k = search_begun c size k
search_goes (Some next) c size k = k

-- a probe of a number and a size goes
abbrev pub probe_gone : SearchSettings → ℕ → ℕ → ℕ → Seeking → Seeking
probe_gone c size number length k = record (search_goes (sought c size k) c size k) { probe = Some number; last = length }

-- so it does of an end that is configured to search
abbrev pub with_probe : Option SearchSettings → Sent → Sizing → Sizing
with_probe None s z = z
with_probe (Some c) s z = record z { seeks = probe_gone c z.size s.number s.size z.seeks }

-- whether a frame is PADDING, and frames are PING and such alone
abbrev pub is_padding : FrameValue → Bool
is_padding padding = true
is_padding other = false

abbrev pub is_ping_alone : List FrameValue → Bool
is_ping_alone (ping ∷ fs) = not (list_any (λ f. not (is_padding f)) fs)
is_ping_alone fs = false

-- whether a datagram is a probe of a size (RFC 9000, section 14.4): it is such, and larger than the
-- current size
abbrev pub is_probe : ℕ → Sent → Bool
is_probe size s = is_ping_alone s.frames && nat_lt size s.size

-- a datagram goes
abbrev pub with_gone : TransportSettings → Sent → Sizing → Sizing
with_gone c s z = if is_probe z.size s then with_probe c.mtu_discovery_config s z else z

-- datagrams go
abbrev pub with_all_gone : TransportSettings → List Sent → Sizing → Sizing
with_all_gone c [] z = z
with_all_gone c (s ∷ ss) z = with_all_gone c ss (with_gone c s z)

-- ---- acknowledgements

-- the open probe is acknowledged: if the search is over by that, it rests
abbrev pub probe_ended : TransportSettings → ℕ → Seeking → Seeking
probe_ended c clock k = record k { probe = None; lost = 0; rests = later_by clock (interval_of c.mtu_discovery_config) }

-- the size is that of the probe from now on, and arrives; and nothing that was lost before is
-- suspicious
abbrev pub probe_arrived : TransportSettings → ℕ → Sent → Sizing → Sizing
probe_arrived c clock s z = record { size = z.seeks.last; arrives = counted s; newest = s.number; suspicious = []; seeks = probe_ended c clock z.seeks }

-- another datagram is acknowledged: a smaller one than is known to arrive says nothing, one as
-- large that it still does, and a larger one that what was lost of its size was lost for another
-- cause
abbrev pub arrived : Sent → Sizing → Sizing
arrived s z =
    if nat_lt (counted s) z.arrives then z
    else (if counted s == z.arrives then record z { newest = max z.newest s.number }
    else record z { arrives = counted s; newest = s.number; suspicious = filter (λ n. nat_lt (counted s) n) z.suspicious })

-- one of these
abbrev pub acked_if : Bool → TransportSettings → ℕ → Sent → Sizing → Sizing
acked_if true c clock s z = probe_arrived c clock s z
acked_if false c clock s z = arrived s z

abbrev pub with_acked : TransportSettings → ℕ → Sent → Sizing → Sizing
with_acked c clock s z = acked_if (is_of s.number z.seeks.probe) c clock s z

-- datagrams are acknowledged, in the order of their numbers
abbrev pub with_all_acked : TransportSettings → ℕ → List Sent → Sizing → Sizing
with_all_acked c clock [] z = z
with_all_acked c clock (s ∷ ss) z = with_all_acked c clock ss (with_acked c clock s z)

-- ---- losses

-- whether a burst is suspicious: its size is more than the least, and the newest datagram that
-- showed which size arrives doesn't lie behind it, or is smaller
abbrev pub is_suspicious : ℕ → Sizing → Burst → Bool
is_suspicious least z b = nat_lt least b.size && not (nat_lt b.last z.newest && nat_le b.size z.arrives)

-- a suspicious one counts; and behind all that showed which size arrives, it makes that doubtful
abbrev pub with_burst : ℕ → Burst → Sizing → Sizing
with_burst least b z = if is_suspicious least z b then record z { arrives = if nat_lt z.newest b.last then least else z.arrives; suspicious = b.size ∷ z.suspicious } else z

abbrev pub with_bursts : ℕ → List Burst → Sizing → Sizing
with_bursts least [] z = z
with_bursts least (b ∷ bs) z = with_bursts least bs (with_burst least b z)

-- the open probe is lost: at the third time in a row its size is too large
abbrev pub lost_again : Bool → Seeking → Seeking
lost_again true k = record k { lost = k.lost + 1 }
lost_again false k = record k { lost = 0; high = k.last - 1 }

-- and if the search is over by that, it rests
abbrev pub probe_lost : TransportSettings → ℕ → Seeking → Seeking
probe_lost c clock k = record (lost_again (nat_lt k.lost 2) k) { probe = None; rests = later_by clock (interval_of c.mtu_discovery_config) }

-- it is lost, or isn't
abbrev pub probe_lost_if : Bool → TransportSettings → ℕ → Seeking → Seeking
probe_lost_if true c clock k = probe_lost c clock k
probe_lost_if false c clock k = k

-- no search goes on, nor begins for a while
abbrev pub search_over : TransportSettings → ℕ → Seeking → Seeking
search_over c clock k = record k { probe = None; under_way = false; rests = later_by clock (cooldown_of c.mtu_discovery_config) }

-- where more than three bursts are suspicious, the path is taken to carry the least size alone
abbrev pub fallen_if : Bool → TransportSettings → ℕ → Sizing → Sizing
fallen_if true c clock z = record z { size = c.min_mtu; suspicious = []; seeks = search_over c clock z.seeks }
fallen_if false c clock z = z

-- once losses were told
abbrev pub with_told : TransportSettings → ℕ → Sizing → Sizing
with_told c clock z = fallen_if (nat_lt 3 (length z.suspicious)) c clock z

-- datagrams are lost at once, in the order of their numbers; that of a probe is no loss of the
-- path's (RFC 9000, section 14.4)
abbrev pub with_lost : TransportSettings → ℕ → List Sent → Sizing → Sizing
with_lost c clock ss z =
    let probe = z.seeks.probe in
    with_told c clock (with_bursts c.min_mtu (bursts_of (filter (λ s. not (is_of s.number probe)) ss)) (record z { seeks = probe_lost_if (list_any (λ s. is_of s.number probe) ss) c clock z.seeks }))

-- ---- a call

-- an ACK frame names these in flight and leaves the others: these are acknowledged, and then others
-- are lost
abbrev pub sizing_named : TransportSettings → Terms → ℕ → AckValue → List Sent → List Sent → Flight → Sizing → Sizing
sizing_named c t clock a [] others f z = z
sizing_named c t clock a (s ∷ ss) others f z = with_lost c clock (lost_at t clock (acked_flight t clock a (s ∷ ss) others f)) (with_all_acked c clock (s ∷ ss) z)

abbrev pub sizing_ack : TransportSettings → Terms → ℕ → AckValue → Flight → Sizing → Sizing
sizing_ack c t clock a f z = sizing_named c t clock a (filter (λ s. names a s.number) f.flying) (filter (λ s. not (names a s.number)) f.flying) f z

-- behind frames that come at a moment, one behind another
abbrev pub sizing_frames : TransportSettings → Terms → ℕ → List FrameValue → Flight → Sizing → Sizing
sizing_frames c t clock [] f z = z
sizing_frames c t clock (ack a ∷ fs) f z = sizing_frames c t clock fs (after_ack t clock a f) (sizing_ack c t clock a f z)
sizing_frames c t clock (other ∷ fs) f z = sizing_frames c t clock fs f z

-- behind packets; the latest stands first
abbrev pub sizing_packets : TransportSettings → Terms → ℕ → List Packet → Flight → Sizing → Sizing
sizing_packets c t clock [] f z = z
sizing_packets c t clock (p ∷ ps) f z = sizing_frames c t clock p.frames (after_packets t clock ps f) (sizing_packets c t clock ps f z)

-- the timer of losses expired: where it was set for one that may be lost by time, what is lost is
abbrev pub sizing_expired : Option ℕ → TransportSettings → Terms → ℕ → Flight → Sizing → Sizing
sizing_expired None c t clock f z = z
sizing_expired (Some moment) c t clock f z = with_lost c clock (lost_at t clock f) z

abbrev pub sizing_moment : Bool → TransportSettings → Terms → ℕ → Flight → Sizing → Sizing
sizing_moment true c t clock f z = sizing_expired f.loss_time c t clock f z
sizing_moment false c t clock f z = z

-- what came is taken, and the timer of losses may expire
abbrev pub sizing_heard : TransportSettings → Lens → Told → Watch → Sizing → Sizing
sizing_heard c l t w z =
    let after = and_told l.own l.peer_gave t w.intake in
    let clock = clock_behind w.clock (moment_of t.state (has_opened w.intake after) t.call) in
    let f = after_packets l.terms clock (news w.intake after) w.flight in
    sizing_moment (is_timely t.state t.call && is_past (loss_due f) clock) c l.terms clock f (sizing_packets c l.terms clock (news w.intake after) w.flight z)

-- one call more at an end, of which the observer knew this. Another path of the peer's changes
-- nothing: the search goes on there
abbrev pub sizing_told : TransportSettings → Lens → Told → Watch → Sizing → Sizing
sizing_told c l t w z = with_all_gone c (went w (watch_told l t w)) (sizing_heard c l t w z)

-- calls, one behind another
abbrev pub sizing_behind : TransportSettings → Lens → List Told → Watch → Sizing → Sizing
sizing_behind c l [] w z = z
sizing_behind c l (t ∷ ts) w z = sizing_behind c l ts (watch_told l t w) (sizing_told c l t w z)

-- so it is of an end behind the first so many answers
abbrev pub sizing : Run → Side → ℕ → Sizing
sizing r side i =
    let c = (end_at side r.start).transport in
    sizing_behind c (lens_of r side) (until r side i) (watch_from (end_at side r.start) (given_of r side)) (first_sizing (seen_of side r.start).current_mtu c)

-- ---- the clauses

-- the size that a view shows of an open end is the one that acknowledged probes gave it, or the
-- least one, where more than three bursts of losses were suspicious
abbrev pub SizesFollow : Run → Type 0
SizesFollow r = (side : Side) (i : ℕ) (v : View) → AreServed r (suc i) → SearchesApart r side → slice_get r.views i ≡ Some v → state_in v side ≡ states.Open → mtu_in v side ≡ (sizing r side (suc i)).size

-- where a probe goes: with the size that the search under way looks for; and where none is under
-- way, or the last one is over, no sooner than one may begin, and with the size for which one that
-- begins looks first
abbrev pub GoesInTurn : SearchSettings → ℕ → Seeking → Option ℕ → Sent → Type 0
GoesInTurn c size k (Some next) s = s.size ≡ next
GoesInTurn c size k None s = (k.rests ≤ s.moment) × (sought c size (search_begun c size k) ≡ Some s.size)

-- An end that is configured to search gives a probe so, while none is open.
pub record IsInTurn (o : Option SearchSettings) (z : Sizing) (s : Sent) : Type 0 where
  pub settings : SearchSettings
  pub configured : o ≡ Some settings
  pub none_open : z.seeks.probe ≡ None
  pub turn : GoesInTurn settings z.size z.seeks (sought settings z.size z.seeks) s

-- so it is of each probe that goes of an end which is open behind it
abbrev pub SearchesRest : Run → Type 0
SearchesRest r = (side : Side) (i now : ℕ) (gave : GaveOne r side i now) → SearchesApart r side → state_at r side (suc i) ≡ states.Open → is_probe (sizing r side i).size gave.sent ≡ true
    → IsInTurn (end_at side r.start).transport.mtu_discovery_config (sizing r side i) gave.sent
