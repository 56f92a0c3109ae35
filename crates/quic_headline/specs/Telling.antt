-- What the congestion controller of an end is told, read off a run's lists by what the observer of
-- the end knows (RFC 9002, sections 6, 7, 7.3 and 7.6; RFC 9000, sections 13.4.2 and 14.4; RFC
-- 8899, section 4.3): which datagrams go, are acknowledged and are lost. Some of what is told the
-- lists don't say here. It is left open:
--  * in what is told of acknowledgements, whether the end had nothing more to send (`app_limited`),
--    where its last poll doesn't tell (`MayCount`): either, but the same in one packet;
--  * whether the peer has a challenge to answer as they come (`challenged`; RFC 9000, section 8.2),
--    so that the controller isn't told of them: it may have one where its address isn't seen to be
--    validated before the call;
--  * which of the datagrams that may be probes of a size is one (`probe`), whether such a one gives
--    its size to later ones (`grows`), and whether that size falls as datagrams are lost (`falls`):
--    either, but the last size that is told is that which the view shows.
use Rattle.std.specs.Prelude.{ℕ, suc, ◌*◌, ◌≤◌, ◌≡◌, ◌↔◌, min, not, ◌&&◌, Bool, true, false, List, [], ◌∷◌, ◌++◌, filter, map, replicate, sum_by, slice_get, Option, Some, None, unwrap_or, if◌then◌else◌, length}
use Rattle.std.specs.List.{list_any}
use Rattle.quic_wire_core.specs.declared.stream_id.Side.{Side}
use Rattle.quic_wire.specs.Value.{FrameValue, AckValue, ack, ping, padding}
use Rattle.quic_time.specs.Rtt.{Rtt}
use Rattle.quic_config.specs.Transport.{TransportSettings, first_behind_sample}
use Rattle.quic_congestion.specs.Congestion as congestion
use Rattle.quic_congestion.specs.Search.{is_number}
use Rattle.quic_spaces.specs.Numbers.{greatest_of}
use Rattle.quic_spaces.specs.Persistent.{Loss, IsPersistent}
use Rattle.quic_machine.specs.declared.answers.State.TheVariants as states
use Rattle.quic_machine.specs.declared.run.RunEvent.{RunEvent}
use Rattle.quic_machine.specs.declared.run.View.{View}
use Rattle.quic_machine.specs.Machine.{end_at, control_at}
use Rattle.quic_headline.specs.Runs.{Run, Told, Packet, Intake, In, same_side, given_of, names, is_refused, and_told, until, AreServed}
use Rattle.quic_headline.specs.Observer.{Sent, asks_of, Terms, Flight, latest, late_by, is_lost, measures, kept_delay, open_request, rtt_behind, after_ack, after_packets, waited, loss_due, is_past, Watch, news, has_opened, moment_of, clock_behind, Lens, is_timely, watch_came, watch_told, lens_of, watch_from, next_number}
use Rattle.quic_headline.specs.Polls.{window_in, mtu_in, end_in, search_at, counts_on, bytes_on}
use Rattle.quic_headline.specs.AppLimited.{CountsAt}
use Rattle.quic_headline.specs.Marking.{Marking, first_marking, has_grown, marking_ack, marking_packets, marking_told}

-- what a controller is told, one thing behind another
abbrev pub Tellings : Type 0
Tellings = List congestion.Told

-- one more, or none
abbrev pub told_if : Bool → congestion.Told → Tellings
told_if true told = told ∷ []
told_if false told = []

-- By what acknowledgements and losses are judged at an end (sections 6.1, 7.6 and 7.8): its terms
-- and settings, whether the address of its peer is seen to be validated before the call, the
-- number that goes next, the one that did as a round trip was first measured, if one was, and
-- whether the end counts as having nothing more to send.
pub record Judging : Type 0 where
  pub terms : Terms
  pub settings : TransportSettings
  pub validated : Bool
  pub generation : ℕ
  pub next : ℕ
  pub first : Option ℕ
  pub limited : Bool

-- the number that went next as a round trip was first measured: this one, or, where one is measured
-- by now, the one that goes next now
abbrev pub measured_first : Option ℕ → ℕ → Option ℕ → Option ℕ
measured_first (Some first) next smoothed = Some first
measured_first None next None = None
measured_first None next (Some smoothed) = Some next

-- ---- datagrams that go

-- the controller is told of each that asks: when it went, how many bytes it has, and its number
abbrev pub told_gone : List Sent → Tellings
told_gone ss = map (λ s. congestion.Sent s.moment s.size s.number) (filter asks_of ss)

-- ---- datagrams that are lost (RFC 9002, sections 6.1, 7.3.2 and 7.6)

-- PING and zeros, alone
pub record IsPinged (s : Sent) : Type 0 where
  pub zeros : ℕ
  pub alone : s.frames ≡ ping ∷ replicate zeros padding

-- A datagram may be a probe of a size (RFC 9000, section 14.4): it is such, and has no less than
-- the least size that is configured.
pub record MayProbe (least : ℕ) (s : Sent) : Type 0 where
  pub pinged : IsPinged s
  pub sized : least ≤ s.size

-- those in flight that are lost at a moment
abbrev pub lost_at : Terms → ℕ → Flight → List Sent
lost_at t clock f = filter (λ s. is_lost t (late_by t f.rtt) clock (unwrap_or f.named 0) s) f.flying

-- those but for the open probe of a size, whose loss shows no congestion
abbrev pub but_for_probe : Option ℕ → List Sent → List Sent
but_for_probe probe ss = filter (λ s. not (is_number s.number probe)) ss

-- the bytes of those that ask
abbrev pub bytes_asking : List Sent → ℕ
bytes_asking ss = sum_by (λ s. s.size) (filter asks_of ss)

-- when the last of them went
abbrev pub last_moment : List Sent → ℕ
last_moment [] = 0
last_moment (s ∷ []) = s.moment
last_moment (s ∷ t ∷ ss) = last_moment (t ∷ ss)

-- how far apart two datagrams have to have gone whose loss shows that congestion persists: so many
-- times as long as an acknowledgement is waited for (section 7.6.1)
abbrev pub lasting : TransportSettings → Flight → ℕ
lasting c f = min (c.persistent_congestion_threshold * waited f 0) latest

-- what shows it of a datagram that is lost
abbrev pub loss_as : Option ℕ → Sent → Loss
loss_as probe s = record { number = s.number; time_sent = s.moment; asks = asks_of s && not (is_number s.number probe) }

-- The controller of an end is told this where datagrams are lost at a moment, by an acknowledgement
-- or by time: the size that later ones have, where it falls to the least that is configured; and,
-- where one asks that is no probe, that the path is congested, when the last of them went, whether
-- congestion persists, and how many bytes are lost. Congestion persists where two that ask are lost
-- that went so far apart, with all between them, by an acknowledgement, and a round trip was
-- measured before the first of them went.
pub record TellsLosses (j : Judging) (clock : ℕ) (by_ack : Bool) (f : Flight) (told : Tellings) : Type 0 where
  pub probe : Option ℕ
  pub pinged : (s : Sent) → In s (lost_at j.terms clock f) → is_number s.number probe ≡ true → MayProbe j.settings.min_mtu s
  pub falls : Bool
  pub persists : Bool
  pub persistent : (persists ≡ true) ↔ ((by_ack ≡ true) × IsPersistent (lasting j.settings f) (measured_first j.first j.next f.rtt.smoothed) (map (loss_as probe) (lost_at j.terms clock f)))
  pub is : told ≡ told_if falls (congestion.Resized j.settings.min_mtu)
      ++ (let others = but_for_probe probe (lost_at j.terms clock f) in told_if (list_any (counts_on j.generation) others) (congestion.Congested clock (last_moment others) persists (min (bytes_asking others) latest)))

-- ---- datagrams that are acknowledged (RFC 9002, section 7.3)

-- each that asks counts, unless a challenge is open: when it went, its bytes, and how long a round
-- trip took before; one that may be a probe may give its size to later ones
abbrev pub TellsAcked : ℕ → ℕ → Bool → Bool → Rtt → List Sent → Tellings → Type 0
TellsAcked least clock challenged app_limited rtt [] told = told ≡ []
TellsAcked least clock challenged app_limited rtt (s ∷ ss) told = (grows : Bool) × (grows ≡ true → MayProbe least s) × (later : Tellings) × TellsAcked least clock challenged app_limited rtt ss later
    × (told ≡ told_if (asks_of s && not challenged) (congestion.Acked clock s.moment s.size app_limited rtt) ++ told_if grows (congestion.Resized s.size) ++ later)

-- what is in flight where an ACK frame acknowledges these and leaves the others, before any is lost
abbrev pub acked_flight : Terms → ℕ → AckValue → List Sent → List Sent → Flight → Flight
acked_flight t clock a acked others f = record f {
  named = Some (greatest_of f.named a.largest);
  flying = others;
  acked = f.acked ++ acked;
  rtt = rtt_behind t (kept_delay f.request acked f.delay) clock a (measures f.named a acked) f.rtt;
  delay = kept_delay f.request acked f.delay;
  request = open_request f.request acked;
  expiries = 0;
  probes = 0;
}

-- The controller is told this of an ACK frame that acknowledges these and leaves the others: each
-- of these; that they end, how many bytes are in flight then, and the greatest number that was
-- named; what is lost then; and, where the count of CE grew, that the path is congested, when the last
-- of these went, and of no bytes.
pub record TellsSettled (j : Judging) (clock : ℕ) (a : AckValue) (acked others : List Sent) (f : Flight) (k : Marking) (told : Tellings) : Type 0 where
  pub challenged : Bool
  pub unvalidated : challenged ≡ true → j.validated ≡ false
  pub each : Tellings
  pub acks : TellsAcked j.settings.min_mtu clock challenged j.limited f.rtt acked each
  pub lost : Tellings
  pub losses : TellsLosses j clock true (acked_flight j.terms clock a acked others f) lost
  pub is : told ≡ each ++ congestion.AcksEnded clock (min (bytes_on j.generation others) latest) j.limited (Some (greatest_of f.named a.largest)) ∷ lost ++ told_if (has_grown f.named a (length acked) k) (congestion.Congested clock (last_moment acked) false 0)

-- an ACK frame that names none in flight tells nothing
abbrev pub TellsNamed : Judging → ℕ → AckValue → List Sent → List Sent → Flight → Marking → Tellings → Type 0
TellsNamed j clock a [] others f k told = told ≡ []
TellsNamed j clock a (s ∷ ss) others f k told = TellsSettled j clock a (s ∷ ss) others f k told

-- an ACK frame that comes at a moment
abbrev pub TellsAck : Judging → ℕ → AckValue → Flight → Marking → Tellings → Type 0
TellsAck j clock a f k told = TellsNamed j clock a (filter (λ s. names a s.number) f.flying) (filter (λ s. not (names a s.number)) f.flying) f k told

-- frames, one behind another
abbrev pub TellsFrames : Judging → ℕ → List FrameValue → Flight → Marking → Tellings → Type 0
TellsFrames j clock [] f k told = told ≡ []
TellsFrames j clock (ack a ∷ fs) f k told = (now later : Tellings) × TellsAck j clock a f k now × TellsFrames j clock fs (after_ack j.terms clock a f) (marking_ack a f k) later × (told ≡ now ++ later)
TellsFrames j clock (other ∷ fs) f k told = TellsFrames j clock fs f k told

-- packets that were taken; the latest stands first
abbrev pub TellsPackets : Judging → ℕ → List Packet → Flight → Marking → Tellings → Type 0
TellsPackets j clock [] f k told = told ≡ []
TellsPackets j clock (p ∷ ps) f k told = (before now : Tellings) × TellsPackets j clock ps f k before × TellsFrames j clock p.frames (after_packets j.terms clock ps f) (marking_packets j.terms clock ps f k) now × (told ≡ before ++ now)

-- a packet that was refused, at which the end closed: some of its frames, from the first on
abbrev pub TellsPart : Judging → ℕ → Bool → Option Packet → Flight → Marking → Tellings → Type 0
TellsPart j clock true (Some p) f k told = (front behind : List FrameValue) × (p.frames ≡ front ++ behind) × TellsFrames j clock front f k told
TellsPart j clock refused part f k told = told ≡ []

-- ---- a moment (RFC 9002, section 6.2)

-- the timer of losses expired: where it was set for one that may be lost by time, what is lost
abbrev pub TellsExpired : Option ℕ → Judging → ℕ → Flight → Tellings → Type 0
TellsExpired None j clock f told = told ≡ []
TellsExpired (Some moment) j clock f told = TellsLosses j clock false f told

-- it expired or not
abbrev pub TellsMoment : Bool → Judging → ℕ → Flight → Tellings → Type 0
TellsMoment true j clock f told = TellsExpired f.loss_time j clock f told
TellsMoment false j clock f told = told ≡ []

-- ---- a call

-- by what they are judged where the observer knows this
abbrev pub judging : Lens → TransportSettings → Bool → Option ℕ → Bool → Watch → Judging
judging l c validated first limited w = record { terms = l.terms; settings = c; validated = validated; generation = w.route.generation; next = next_number w.own; first = first; limited = limited }

-- the number that went next as a round trip was first measured, by what the observer knows behind a
-- call
abbrev pub first_behind : Option ℕ → Watch → Option ℕ
first_behind first w = measured_first first (next_number w.own) w.flight.rtt.smoothed

-- The controller of an end is told this by a call at the end, which counts as having nothing more
-- to send or doesn't, and of which the observer knows this before: of the packets that it took, or
-- of one that it refused; of what is lost by time; and of what went.
pub record TellsCall (l : Lens) (c : TransportSettings) (validated : Bool) (first : Option ℕ) (limited : Bool) (w : Watch) (k : Marking) (t : Told) (told : Tellings) : Type 0 where
  pub after : Intake
  pub came : after ≡ and_told l.own l.peer_gave t w.intake
  pub clock : ℕ
  pub moment : clock ≡ clock_behind w.clock (moment_of t.state (has_opened w.intake after) t.call)
  pub taken : Tellings
  pub takes : TellsPackets (judging l c validated first limited w) clock (news w.intake after) w.flight k taken
  pub refused : Tellings
  pub refuses : TellsPart (judging l c validated first limited w) clock (has_opened w.intake after && is_refused t.answer) after.part w.flight k refused
  pub late : Tellings
  pub expires : let f = (watch_came l.terms after clock w).flight in TellsMoment (is_timely t.state t.call && is_past (loss_due f) clock) (judging l c validated first limited w) clock f late
  pub went : List Sent
  pub gave : (watch_told l t w).own ≡ w.own ++ went
  pub is : told ≡ taken ++ refused ++ late ++ told_gone went

-- calls at the end, one behind another, of which the first stands behind so many others: before
-- each the address of the peer is seen to be validated or isn't, and at each that finds the end
-- open, the end may count so
abbrev pub TellsCalls : Lens → TransportSettings → (ℕ → Bool) → (ℕ → Bool → Type 0) → ℕ → Option ℕ → Watch → Marking → List Told → Tellings → Type 0
TellsCalls l c validated may n first w k [] told = told ≡ []
TellsCalls l c validated may n first w k (t ∷ ts) told =
    (limited : Bool) × (now later : Tellings) × (t.state ≡ states.Open → may n limited) × TellsCall l c (validated n) first limited w k t now × TellsCalls l c validated may (suc n) (first_behind first (watch_told l t w)) (watch_told l t w) (marking_told l t w k) ts later × (told ≡ now ++ later)

-- ---- over a run

-- whether views show the address of the peer of an end as validated before each of its calls; it
-- began so
abbrev pub validated_before : Side → Bool → List RunEvent → List View → List Bool
validated_before side shown [] views = []
validated_before side shown (event ∷ events) [] = []
validated_before side shown (event ∷ events) (v ∷ views) = (if same_side event.side side then shown ∷ [] else []) ++ validated_before side (end_in v side).validated events views

-- whether it is so before its call behind so many others
abbrev pub shows_validated : Run → Side → ℕ → Bool
shows_validated r side n = unwrap_or (slice_get (validated_before side (end_at side r.start).path.validated r.events r.views) n) true

-- the controller of an end may have been told this by the first so many answers; where a sample was
-- taken before the connection began, a round trip was measured before the first datagram went
abbrev pub MayTell : Run → Side → ℕ → Tellings → Type 0
MayTell r side i told = TellsCalls (lens_of r side) (end_at side r.start).transport (shows_validated r side) (CountsAt r side) 0 (first_behind_sample (end_at side r.start).transport) (watch_from (end_at side r.start) (given_of r side)) first_marking (until r side i) told

-- the window that a view shows is that which the controller, as it was when the run began, shows
-- once it was told of what went, was acknowledged and was lost up to there; and the size of
-- datagrams that the view shows is the last that it was told, or that with which the path began
abbrev pub ControllersAreTold : Run → Type 0
ControllersAreTold r = (side : Side) (i : ℕ) (v : View) → AreServed r (suc i) → slice_get r.views i ≡ Some v
    → (told : Tellings) × MayTell r side (suc i) told × (window_in v side ≡ control_at side r.start told) × (mtu_in v side ≡ congestion.last_size (search_at side r.start).size told)
