-- What an observer of a run's lists knows of an end: what came to it, what it gave, and what of
-- that is in flight or acknowledged (RFC 9002, sections 2, 5, 6.1, 6.2 and A.1). It reads what an
-- end gave with the keys of its peer.
use Rattle.std.specs.Prelude.{ℕ, suc, ◌+◌, ◌-◌, ◌*◌, ◌/◌, ◌^◌, ◌<◌, ◌≤◌, ◌≡◌, min, max, not, ◌==◌, ◌&&◌, ◌||◌, Bool, true, false, nat_le, nat_lt, if◌then◌else◌, List, [], ◌∷◌, ◌++◌, filter, length, map, take, Option, Some, None, unwrap_or}
use Rattle.std.specs.List.{list_any}
use Rattle.std.specs.Option.{option_to_list}
use Rattle.quic_wire_core.specs.declared.stream_id.Side.{Side}
use Rattle.quic_wire_core.specs.declared.stream_id.Side.TheVariants.{Client, Server}
use Rattle.quic_wire_core.specs.StreamId.{other_side}
use Rattle.quic_wire.specs.Value.{FrameValue, StreamValue, AckValue, ack, stream, connection_close, application_close, ack_frequency, asks}
use Rattle.quic_wire.specs.Items.{items}
use Rattle.quic_packet.specs.Number.{window}
use Rattle.quic_packet.specs.Keys.{width_in}
use Rattle.quic_packet.specs.Datagram.{Opening, opened_packet}
use Rattle.quic_time.specs.Rtt.{Rtt}
use Rattle.quic_spaces.specs.Numbers.{greatest_of}
use Rattle.quic_machine.specs.declared.answers.State.{State}
use Rattle.quic_machine.specs.declared.answers.State.TheVariants as states
use Rattle.quic_machine.specs.declared.run.Call.{Call}
use Rattle.quic_machine.specs.declared.run.Call.TheVariants as calls
use Rattle.quic_machine.specs.Policy.{Policy}
use Rattle.quic_machine.specs.Opens.{own_id_length}
use Rattle.quic_machine.specs.Migration.{is_probing}
use Rattle.quic_machine.specs.End.{End}
use Rattle.quic_machine.specs.Machine.{policy_at, end_at, gave}
use Rattle.quic_headline.specs.RoundTrip.{round_with, expected_round, longest_round, first_round}
use Rattle.quic_headline.specs.Runs.{Run, Told, Packet, Intake, In, nothing_came, destination, frames_of, names, acknowledged, expected_behind, and_told, folded, until, given_of}

-- ---- what was sent

-- A datagram as it was sent: the id to which it went, its number, what that was cut against (RFC
-- 9000, A.2), its frames, when it went, in nanoseconds, how many bytes it has, and on which path it
-- went, by how many paths its end had before. Of one that
-- closes its connection no moment is kept, since no acknowledgement of it is waited for; and as it
-- may go behind a packet of which a part was taken, and the lists don't say which, its number's
-- reference is the least with which it has so many bytes.
pub record Sent : Type 0 where
  pub id : List ℕ
  pub number : ℕ
  pub reference : ℕ
  pub frames : List FrameValue
  pub moment : ℕ
  pub size : ℕ
  pub generation : ℕ

-- whether it asks for an acknowledgement (RFC 9002, section 2: is ack-eliciting)
abbrev pub asks_of : Sent → Bool
asks_of s = list_any asks s.frames

-- An offset of a stream stands in one of these (RFC 9000, section 19.8).
pub record HoldsOffset (sents : List Sent) (id offset : ℕ) : Type 0 where
  pub sent : Sent
  pub among : In sent sents
  pub frame : StreamValue
  pub carried : In (stream frame) sent.frames
  pub of_stream : frame.id ≡ id
  pub from : frame.offset ≤ offset
  pub below : offset < frame.offset + length frame.bytes

-- The end of a stream stands in one of these.
pub record HoldsEnd (sents : List Sent) (id : ℕ) : Type 0 where
  pub sent : Sent
  pub among : In sent sents
  pub frame : StreamValue
  pub carried : In (stream frame) sent.frames
  pub of_stream : frame.id ≡ id
  pub fin : frame.fin ≡ true

-- ---- what is in flight

-- By what losses are judged at an end: how far below the greatest number that was acknowledged a
-- datagram counts as lost (RFC 9002, section 6.1.1), after what part of a round trip (section
-- 6.1.2); and by how many bits the delays in the peer's ACK frames are shifted, as it told (RFC
-- 9000, section 18.2). And after how long without a packet PING goes, if it is configured to
-- (section 10.1.2).
pub record Terms : Type 0 where
  pub threshold : ℕ
  pub part : ℕ × ℕ
  pub exponent : ℕ
  pub keep_alive : Option ℕ

-- those of an end, by its settings and by what its peer told as the connection began
abbrev pub terms_of : End → Terms
terms_of e = record {
  threshold = e.transport.packet_threshold;
  part = e.transport.time_threshold;
  exponent = e.peer_params.ack_delay_exponent;
  keep_alive = e.transport.keep_alive_interval;
}

-- the greatest number that was acknowledged so far, if one was; the datagrams that are neither
-- acknowledged nor lost, nor forgotten; those that were acknowledged in flight; the last that went
-- and asks; how long a round trip takes; how long the peer holds an acknowledgement back, in
-- nanoseconds, and the number of the last datagram that asks it for another delay, with that, until
-- it is acknowledged (QUIC Acknowledgement Frequency, section 4); when one below the greatest
-- acknowledged is lost by time, if one may be; how often the timer of losses expired for no such
-- one since an acknowledgement came; and how many probes of losses wait since then
pub record Flight : Type 0 where
  pub named : Option ℕ
  pub flying : List Sent
  pub acked : List Sent
  pub asked : Option Sent
  pub rtt : Rtt
  pub delay : ℕ
  pub request : Option (ℕ × ℕ)
  pub loss_time : Option ℕ
  pub expiries : ℕ
  pub probes : ℕ

-- nothing was sent, this is known of the round trip, and the peer holds an acknowledgement back for
-- so long
abbrev pub no_flight : Rtt → ℕ → Flight
no_flight first_rtt delay = record { named = None; flying = []; acked = []; asked = None; rtt = first_rtt; delay = delay; request = None; loss_time = None; expiries = 0; probes = 0 }

-- no moment and no time lies above this
abbrev pub latest : ℕ
latest = 2 ^ 64 - 1

-- ---- losses (RFC 9002, section 6.1)

-- how long after it went a datagram is lost, once a later one is acknowledged: that part of the
-- round trip, no less than a millisecond
abbrev pub late_by : Terms → Rtt → ℕ
late_by t rtt = min (max (t.part.0 * longest_round rtt / t.part.1) 1000000) latest

-- whether one that went at this moment went so long ago
abbrev pub is_late : ℕ → ℕ → ℕ → Bool
is_late delay clock moment = nat_le (moment + delay) clock

-- whether a datagram that wasn't acknowledged is lost, by the greatest number that was
abbrev pub is_lost : Terms → ℕ → ℕ → ℕ → Sent → Bool
is_lost t delay clock greatest s = nat_lt s.number greatest && (nat_le (s.number + t.threshold) greatest || is_late delay clock s.moment)

-- the lesser of two numbers, where there is a second
abbrev pub lesser : ℕ → Option ℕ → ℕ
lesser n None = n
lesser n (Some k) = min n k

-- when the first of these is lost by time that ask and lie below the greatest acknowledged
abbrev pub first_late : ℕ → ℕ → List Sent → Option ℕ
first_late delay greatest [] = None
first_late delay greatest (s ∷ ss) =
    if nat_lt s.number greatest && asks_of s then Some (lesser (min (s.moment + delay) latest) (first_late delay greatest ss)) else first_late delay greatest ss

-- what stays of these
abbrev pub staying : Terms → ℕ → ℕ → ℕ → List Sent → List Sent
staying t delay clock greatest ss = filter (λ s. not (is_lost t delay clock greatest s)) ss

-- what is lost at a moment is no longer in flight
abbrev pub after_losses : Terms → ℕ → Flight → Flight
after_losses t clock f =
    let delay = late_by t f.rtt in
    let greatest = unwrap_or f.named 0 in
    record f { flying = staying t delay clock greatest f.flying; loss_time = first_late delay greatest (staying t delay clock greatest f.flying) }

-- ---- the delay of the peer (QUIC Acknowledgement Frequency, sections 4 and 7)

-- whether the datagram of a request is among these
abbrev pub is_answered : ℕ × ℕ → List Sent → Bool
is_answered request ss = list_any (λ s. s.number == request.0) ss

-- how long it does once these are acknowledged: as it was asked, where that is among them
abbrev pub kept_delay : Option (ℕ × ℕ) → List Sent → ℕ → ℕ
kept_delay None ss delay = delay
kept_delay (Some request) ss delay = if is_answered request ss then request.1 else delay

-- and whether it is still to acknowledge that
abbrev pub open_request : Option (ℕ × ℕ) → List Sent → Option (ℕ × ℕ)
open_request None ss = None
open_request (Some request) ss = if is_answered request ss then None else Some request

-- the delay for which the first ACK_FREQUENCY frame asks, in nanoseconds, if there is one
abbrev pub delay_asked : List FrameValue → Option ℕ
delay_asked [] = None
delay_asked (ack_frequency f ∷ fs) = Some (min (f.delay * 1000) latest)
delay_asked (other ∷ fs) = delay_asked fs

-- the request that is still to be acknowledged, once a datagram of this number went, which asks for
-- this delay or for none
abbrev pub request_behind : Option ℕ → ℕ → Option (ℕ × ℕ) → Option (ℕ × ℕ)
request_behind None number request = request
request_behind (Some delay) number request = Some (number, delay)

-- the delay for which it asks, if there is one
abbrev pub delay_in : Option (ℕ × ℕ) → ℕ
delay_in None = 0
delay_in (Some request) = request.1

-- the longest that the peer may hold one back: as it did, or as it was asked to
abbrev pub longest : Flight → ℕ
longest f = max f.delay (delay_in f.request)

-- ---- acknowledgements (RFC 9002, section 5)

-- whether a number lies above all that were acknowledged
abbrev pub is_greatest : Option ℕ → ℕ → Bool
is_greatest None n = true
is_greatest (Some m) n = nat_lt m n

-- the one with this number
abbrev pub of_number : ℕ → List Sent → Option Sent
of_number n [] = None
of_number n (s ∷ ss) = if n == s.number then Some s else of_number n ss

-- the datagram whose round trip an ACK frame measures, where it measures one: that of the greatest
-- number that it names, where no greater one was acknowledged before, it is among those that are
-- acknowledged now, and one of these asks
abbrev pub measures : Option ℕ → AckValue → List Sent → Option Sent
measures named a acked = if is_greatest named a.largest && list_any asks_of acked then of_number a.largest acked else None

-- the round trip with one more measured at a moment, less the delay that the peer tells, which is
-- no longer than this (section 5.3)
abbrev pub rtt_behind : Terms → ℕ → ℕ → AckValue → Option Sent → Rtt → Rtt
rtt_behind t delay clock a None rtt = rtt
rtt_behind t delay clock a (Some s) rtt = round_with rtt (min (min (a.delay * 2 ^ t.exponent * 1000) latest) delay) (clock - s.moment)

-- An ACK frame that names datagrams in flight, which are these: they are acknowledged, the others
-- stay but for those that are lost, and no probe waits. One that names none leaves all in flight.
abbrev pub settled_by : Terms → ℕ → AckValue → List Sent → List Sent → Flight → Flight
settled_by t clock a [] others f = record f { named = Some (greatest_of f.named a.largest) }
settled_by t clock a (s ∷ ss) others f = after_losses t clock (record f {
  named = Some (greatest_of f.named a.largest);
  flying = others;
  acked = f.acked ++ s ∷ ss;
  rtt = rtt_behind t (kept_delay f.request (s ∷ ss) f.delay) clock a (measures f.named a (s ∷ ss)) f.rtt;
  delay = kept_delay f.request (s ∷ ss) f.delay;
  request = open_request f.request (s ∷ ss);
  expiries = 0;
  probes = 0;
})

-- what an ACK frame that comes at a moment leaves in flight
abbrev pub after_ack : Terms → ℕ → AckValue → Flight → Flight
after_ack t clock a f = settled_by t clock a (filter (λ s. names a s.number) f.flying) (filter (λ s. not (names a s.number)) f.flying) f

-- what frames leave in flight, one behind another
abbrev pub after_frames : Terms → ℕ → List FrameValue → Flight → Flight
after_frames t clock [] f = f
after_frames t clock (ack a ∷ fs) f = after_frames t clock fs (after_ack t clock a f)
after_frames t clock (other ∷ fs) f = after_frames t clock fs f

-- what packets that came leave in flight; the latest stands first
abbrev pub after_packets : Terms → ℕ → List Packet → Flight → Flight
after_packets t clock [] f = f
after_packets t clock (p ∷ ps) f = after_frames t clock p.frames (after_packets t clock ps f)

-- ---- a datagram goes

-- whether a number lies above that of the last that asks
abbrev pub is_behind_asked : Option Sent → ℕ → Bool
is_behind_asked None n = true
is_behind_asked (Some s) n = nat_lt s.number n

-- those that went since one asked: nothing promises that they are ever acknowledged, and of more
-- than 1000 the oldest is forgotten where one more goes that doesn't ask
abbrev pub unasked : Flight → List Sent
unasked f = filter (λ s. is_behind_asked f.asked s.number) f.flying

-- these without the first of this number
abbrev pub without_number : ℕ → List Sent → List Sent
without_number n [] = []
without_number n (s ∷ ss) = if n == s.number then ss else s ∷ without_number n ss

-- these without the first of others, if there is one
abbrev pub without_oldest : List Sent → List Sent → List Sent
without_oldest [] ss = ss
without_oldest (oldest ∷ others) ss = without_number oldest.number ss

-- those that stay in flight where one more goes, which asks or doesn't
abbrev pub kept_flying : Bool → Flight → List Sent
kept_flying asks f = if not asks && nat_lt 1000 (length (unasked f)) then without_oldest (unasked f) f.flying else f.flying

-- a datagram is in flight from when it goes; one that asks takes away a probe that waits, and one
-- with ACK_FREQUENCY takes the place of a request that isn't acknowledged
abbrev pub and_flying : Sent → Flight → Flight
and_flying s f = record f {
  flying = kept_flying (asks_of s) f ++ s ∷ [];
  asked = if asks_of s then Some s else f.asked;
  request = request_behind (delay_asked s.frames) s.number f.request;
  probes = if asks_of s then f.probes - 1 else f.probes;
}

-- whether a frame is a close (RFC 9000, section 19.19)
abbrev pub is_close : FrameValue → Bool
is_close (connection_close c) = true
is_close (application_close c) = true
is_close f = false

-- whether a datagram closes its connection
abbrev pub closes_of : Sent → Bool
closes_of s = list_any is_close s.frames

-- one that closes its connection isn't in flight: no acknowledgement of it is waited for (RFC 9000,
-- section 10.2.1)
abbrev pub and_sent : Sent → Flight → Flight
and_sent s f = if closes_of s then f else and_flying s f

-- ---- the timer of losses (RFC 9002, section 6.2.1)

-- how long an acknowledgement is waited for, once the timer expired so often: the estimate, four
-- times its variation or a millisecond, and the peer's delay; doubled at each expiry, up to 16
-- times
abbrev pub waited : Flight → ℕ → ℕ
waited f expiries = min (min (min (expected_round f.rtt + max (4 * f.rtt.var) 1000000) latest + longest f) latest * 2 ^ min expiries 16) latest

-- when the last that asks is to be acknowledged, at the latest
abbrev pub probe_due : Flight → Option Sent → Option ℕ
probe_due f None = None
probe_due f (Some s) = if list_any asks_of f.flying then Some (min (s.moment + waited f f.expiries) latest) else None

-- the first of two moments, if it is there, or else the second
abbrev pub due_or : Option ℕ → Option ℕ → Option ℕ
due_or None other = other
due_or (Some moment) other = Some moment

-- when the timer is to expire: when the first is lost by time, or else that; it waits for nothing
-- where none in flight asks
abbrev pub loss_due : Flight → Option ℕ
loss_due f = due_or f.loss_time (probe_due f f.asked)

-- whether there is a moment that the clock has come to
abbrev pub is_past : Option ℕ → ℕ → Bool
is_past None clock = false
is_past (Some moment) clock = nat_le moment clock

-- as many probes as are counted wait at most
abbrev pub most_probes : ℕ
most_probes = 2 ^ 64 - 1

-- the timer expires: for one that may be lost by time, or once more for none, and two more probes
-- wait then (section 6.2.4, which lets one or two go)
abbrev pub expired_for : Option ℕ → Terms → ℕ → Flight → Flight
expired_for None t clock f = record f { expiries = f.expiries + 1; probes = min (f.probes + 2) most_probes }
expired_for (Some moment) t clock f = after_losses t clock f

-- the clock of an end comes to a moment
abbrev pub after_moment : Terms → ℕ → Flight → Flight
after_moment t clock f = if is_past (loss_due f) clock then expired_for f.loss_time t clock f else f

-- ---- where the peer is (RFC 9000, section 9)

-- at which address an end takes its peer to be, and how often that changed
pub record Route : Type 0 where
  pub address : ℕ
  pub generation : ℕ

-- Whether a packet that was taken tells that the peer is where it came from, behind these that were
-- taken before: its number lies above all of theirs, and it has a frame that isn't only for probing
-- a path (sections 9.1 and 9.3). One that closes the connection tells nothing any more.
abbrev pub tells_address : List Packet → Packet → Bool
tells_address before p = nat_le (expected_behind before) p.number && (list_any (λ f. not (is_probing f)) p.frames && not (list_any is_close p.frames))

-- whether it tells another address than this one, from which it came
abbrev pub tells_other : List Packet → Packet → ℕ → Route → Bool
tells_other before p remote r = not (remote == r.address) && tells_address before p

-- the peer is at another address
abbrev pub moved_to : ℕ → Route → Route
moved_to remote r = record { address = remote; generation = r.generation + 1 }

-- where the peer of a server, or of a client, is behind a call by which these packets were taken,
-- one at most, behind those before: a client's peer stays where it is
abbrev pub route_behind : Bool → List Packet → List Packet → Call → Route → Route
route_behind true before (p ∷ ps) (calls.Deliver delivery) r = if tells_other before p delivery.remote r then moved_to delivery.remote r else r
route_behind serves before came call r = r

-- ---- the observer

-- what came to the end; the greatest moment that it took over, in nanoseconds; where it takes its
-- peer to be; the datagrams that it gives from here on; those that it gave so far, as they were
-- sent, and what of these is in flight or acknowledged
pub record Watch : Type 0 where
  pub intake : Intake
  pub clock : ℕ
  pub route : Route
  pub left : List (List ℕ)
  pub own : List Sent
  pub flight : Flight

-- nothing happened to an end that gives these datagrams in all, was made at this moment for a peer
-- at this address, knows this of the round trip, and was told that its peer holds
-- acknowledgements back for so long
abbrev pub first_watch : List (List ℕ) → ℕ → ℕ → Rtt → ℕ → Watch
first_watch gives moment remote first_rtt delay = record { intake = nothing_came; clock = moment; route = record { address = remote; generation = 0 }; left = gives; own = []; flight = no_flight first_rtt delay }

-- the packets that came between two intakes
abbrev pub news : Intake → Intake → List Packet
news before after = take (length after.took - length before.took) after.took

-- whether a packet that is no duplicate opened between them
abbrev pub has_opened : Intake → Intake → Bool
has_opened before after = nat_lt (length before.opened) (length after.opened)

-- the moment at which a call is made that an open end takes over; that of a delivery counts where
-- its packet opened and is no duplicate
abbrev pub moment_of : State → Bool → Call → Option ℕ
moment_of states.Open opened (calls.Poll now) = Some now
moment_of states.Open opened (calls.Timeout now) = Some now
moment_of states.Open true (calls.Deliver delivery) = Some delivery.now
moment_of state opened call = None

-- the greatest moment, where a moment is taken over or none is
abbrev pub clock_behind : ℕ → Option ℕ → ℕ
clock_behind clock None = clock
clock_behind clock (Some now) = max clock now

-- the frames of a packet, where it opens
abbrev pub frames_opened : Option Opening → List FrameValue
frames_opened None = []
frames_opened (Some o) = frames_of (items o.payload)

-- the farthest that a number lies above its reference where it is cut to so many bytes (RFC 9000,
-- section 17.1)
abbrev pub farthest : ℕ → ℕ
farthest width = window width / 2 - 1

-- what a number was cut against, in a datagram that closes its connection or doesn't, where it has
-- so many bytes
abbrev pub reference_for : Bool → ℕ → ℕ → ℕ → ℕ
reference_for closes number width reference = if closes then number - farthest width else reference

-- when it went
abbrev pub moment_for : Bool → ℕ → ℕ
moment_for closes moment = if closes then 0 else moment

-- what a datagram that opens so was sent as at a moment, cut against this reference where it
-- doesn't close, on this path; one that doesn't open is none
abbrev pub sent_as : Option Opening → ℕ → ℕ → ℕ → List ℕ → List Sent
sent_as None reference moment generation d = []
sent_as (Some o) reference moment generation d =
    let frames = frames_of (items o.payload) in
    record { id = destination d; number = o.number; reference = reference_for (list_any is_close frames) o.number (width_in o.first) reference; frames = frames; moment = moment_for (list_any is_close frames) moment; size = length d; generation = generation } ∷ []

-- what is in flight once these are sent
abbrev pub and_all_sent : List Sent → Flight → Flight
and_all_sent [] f = f
and_all_sent (s ∷ ss) f = and_all_sent ss (and_sent s f)

-- the number that goes next, where these were sent: one above the greatest of theirs, or 0 (RFC
-- 9000, section 12.3)
abbrev pub next_number : List Sent → ℕ
next_number [] = 0
next_number (s ∷ sents) = max (s.number + 1) (next_number sents)

-- the next datagram goes: the keys of the peer open it where its number is expected, which is cut
-- against the greatest that the peer acknowledged
abbrev pub watch_sent : Policy → List (List ℕ) → Watch → Watch
watch_sent taker [] w = w
watch_sent taker (d ∷ ds) w =
    let sent = sent_as (opened_packet taker.header taker.packet (own_id_length + 1) (next_number w.own) d) (acknowledged w.intake.took) w.clock w.route.generation d in
    record w { left = ds; own = w.own ++ sent; flight = and_all_sent sent w.flight }

-- how the lists of a run are read for one end: whether it is the server, the keys of its peer, its
-- own, all datagrams of its peer, and by what losses are judged
pub record Lens : Type 0 where
  pub serves : Bool
  pub taker : Policy
  pub own : Policy
  pub peer_gave : List (List ℕ)
  pub terms : Terms

-- a call at the end gave the next datagram, or gave none
abbrev pub watch_given : Bool → Lens → Watch → Watch
watch_given true l w = watch_sent l.taker w.left w
watch_given false l w = w

-- whether a call says to an open end that a moment has come
abbrev pub is_timely : State → Call → Bool
is_timely states.Open (calls.Timeout now) = true
is_timely state call = false

-- where it does, the timer of losses may expire
abbrev pub watch_moment : Bool → Terms → Watch → Watch
watch_moment true t w = record w { flight = after_moment t w.clock w.flight }
watch_moment false t w = w

-- what came between is taken
abbrev pub watch_came : Terms → Intake → ℕ → Watch → Watch
watch_came t after clock w = record w { intake = after; clock = clock; flight = after_packets t clock (news w.intake after) w.flight }

-- and the peer may be elsewhere since
abbrev pub watch_moved : Bool → Intake → Call → Watch → Watch
watch_moved serves after call w = record w { route = route_behind serves w.intake.took (news w.intake after) call w.route }

-- one call more at the end
abbrev pub watch_told : Lens → Told → Watch → Watch
watch_told l t w =
    let after = and_told l.own l.peer_gave t w.intake in
    watch_given (gave t.answer) l (watch_moment (is_timely t.state t.call) l.terms (watch_came l.terms after (clock_behind w.clock (moment_of t.state (has_opened w.intake after) t.call)) (watch_moved l.serves after t.call w)))

-- whether the path of an end changed between two of these
abbrev pub has_changed : Watch → Watch → Bool
has_changed before after = not (after.route.generation == before.route.generation)

-- ---- over a run

-- whether a side is the server's
abbrev pub serves : Side → Bool
serves Client = false
serves Server = true

-- how the lists of a run are read for one of its ends
abbrev pub lens_of : Run → Side → Lens
lens_of r side = record { serves = serves side; taker = policy_at (other_side side) r.keys; own = policy_at side r.keys; peer_gave = given_of r (other_side side); terms = terms_of (end_at side r.start) }

-- nothing happened yet to an end that gives these datagrams in all
abbrev pub watch_from : End → List (List ℕ) → Watch
watch_from e gives = first_watch gives e.closing.clock e.path.remote (first_round e.transport) (e.peer_params.max_ack_delay * 1000000)

-- what the observer of an end knows by the first so many answers
abbrev pub watch : Run → Side → ℕ → Watch
watch r side i = folded (watch_told (lens_of r side)) (until r side i) (watch_from (end_at side r.start) (given_of r side))

-- the packets that an end took, the latest first
abbrev pub took : Run → Side → ℕ → List Packet
took r side i = (watch r side i).intake.took

-- what came in to an end, the latest first: the packets that it took, and before them one that it
-- refused, if it did, of which the frames before the one at fault keep their effect
abbrev pub came_in : Run → Side → ℕ → List Packet
came_in r side i = option_to_list (watch r side i).intake.part ++ took r side i

-- the datagrams that an end gave, as they were sent
abbrev pub sents_until : Run → Side → ℕ → List Sent
sents_until r side i = (watch r side i).own

-- what the number of each of them was cut against
abbrev pub references_until : Run → Side → ℕ → List ℕ
references_until r side i = map (λ s. s.reference) (sents_until r side i)

-- those that were acknowledged in flight
abbrev pub acked_until : Run → Side → ℕ → List Sent
acked_until r side i = (watch r side i).flight.acked

-- the address at which an end takes its peer to be
abbrev pub peer_address : Run → Side → ℕ → ℕ
peer_address r side i = (watch r side i).route.address

-- the path of an end, by how many it had before
abbrev pub generation_at : Run → Side → ℕ → ℕ
generation_at r side i = (watch r side i).route.generation

-- whether it changed by the event behind the first so many answers
abbrev pub path_changes : Run → Side → ℕ → Bool
path_changes r side i = has_changed (watch r side i) (watch r side (suc i))
