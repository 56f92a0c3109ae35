-- What polls give, and what they hold back (RFC 9002, sections 7, 7.5 and 7.7): an open end gives
-- what waits, unless the congestion window or the pacer holds it back; and the controller shows the
-- window that comes of what it was told.
use Rattle.std.specs.Prelude.{ℕ, zero, suc, ◌+◌, ◌<◌, ◌≤◌, ◌≡◌, ◌⊎◌, ◌==◌, ◌&&◌, Bool, true, false, List, [], ◌∷◌, ◌++◌, filter, length, replicate, sum_by, slice_get, take, Option, Some, None, Ok, if◌then◌else◌, ◌*◌}
use Rattle.quic_wire_core.specs.declared.stream_id.Side.{Side}
use Rattle.quic_wire_core.specs.declared.stream_id.Side.TheVariants.{Client, Server}
use Rattle.quic_wire_core.specs.StreamId.{other_side}
use Rattle.quic_wire.specs.Value.{ping, padding}
use Rattle.quic_time.specs.Clocks.{saturated}
use Rattle.quic_congestion.specs.Congestion as congestion
use Rattle.quic_congestion.specs.Search.{Discovery, search_bound, open_probe, poll_names}
use Rattle.quic_machine.specs.declared.answers.Transmit.{Transmit}
use Rattle.quic_machine.specs.declared.answers.State.TheVariants as states
use Rattle.quic_machine.specs.declared.run.RunEvent.{RunEvent}
use Rattle.quic_machine.specs.declared.run.Call.{Call}
use Rattle.quic_machine.specs.declared.run.Call.TheVariants as calls
use Rattle.quic_machine.specs.declared.run.Answer.{Answer}
use Rattle.quic_machine.specs.declared.run.Answer.TheVariants as answers
use Rattle.quic_machine.specs.declared.run.EndView.{EndView}
use Rattle.quic_machine.specs.declared.run.View.{View}
use Rattle.quic_machine.specs.Closing.{ticked}
use Rattle.quic_machine.specs.End.{End, with_closing, with_window}
use Rattle.quic_machine.specs.Control.{paced_until, with_pacing_timer}
use Rattle.quic_machine.specs.Poll.{probed, request_queued, waits}
use Rattle.quic_machine.specs.Machine.{World, Policies, IsStep, policy_at, end_at, end_met, control_at, given_by, tells, end_view}
use Rattle.quic_headline.specs.Runs.{Run, In, same_side, state_in, until, AreServed, LeadsTo, written, ended, reset}
use Rattle.quic_headline.specs.Observer.{Sent, HoldsOffset, HoldsEnd, asks_of, watch, generation_at, sents_until, acked_until}
use Rattle.quic_headline.specs.Allowance.{bytes_handed, bytes_given}
use Rattle.quic_headline.specs.Headline.{IsAt}
use Rattle.quic_headline.specs.Moments.{timers_in}

-- ---- what is seen of an end

-- the congestion window of an end in a view
abbrev pub window_in : View → Side → ℕ
window_in v Client = v.client.window
window_in v Server = v.server.window

-- how many bytes a datagram of an end has at most, in a view
abbrev pub mtu_in : View → Side → ℕ
mtu_in v Client = v.client.current_mtu
mtu_in v Server = v.server.current_mtu

-- one of the ends in a view
abbrev pub end_in : View → Side → EndView
end_in v Client = v.client
end_in v Server = v.server

-- what is to be seen of an end
abbrev pub seen_of : Side → World → EndView
seen_of side w = end_view (control_at side w) (end_at side w)

-- what is seen of an end behind so many views; it began so
abbrev pub seen_behind : Side → EndView → ℕ → List View → EndView
seen_behind side seen zero views = seen
seen_behind side seen (suc i) [] = seen
seen_behind side seen (suc i) (v ∷ views) = seen_behind side (end_in v side) i views

-- what is seen of an end behind the first so many events
abbrev pub seen_at : Run → Side → ℕ → EndView
seen_at r side i = seen_behind side (seen_of side r.start) i r.views

-- the timer of the pacer in a view: the seventh of the nine
abbrev pub pacing_timer : View → Side → Option (Option ℕ)
pacing_timer v side = slice_get (timers_in v side) 6

-- A poll at a moment gave nothing and left its end open, as the view behind it shows.
pub record GaveNothing (r : Run) (side : Side) (i now : ℕ) (v : View) : Type 0 where
  pub poll : IsAt r i side (calls.Poll now) (answers.Poll (Ok None))
  pub shown : slice_get r.views i ≡ Some v
  pub opened : state_in v side ≡ states.Open

-- ---- what holds back

-- those of an end's datagrams that are in flight behind the first so many answers: they are neither
-- acknowledged nor lost (RFC 9002, section 2)
abbrev pub flying : Run → Side → ℕ → List Sent
flying r side i = (watch r side i).flight.flying

-- whether a datagram counts against the congestion window of a path: it went on that path, and asks
-- for an acknowledgement
abbrev pub counts_on : ℕ → Sent → Bool
counts_on generation s = asks_of s && (s.generation == generation)

-- the bytes of those that do
abbrev pub bytes_on : ℕ → List Sent → ℕ
bytes_on generation ss = sum_by (λ s. s.size) (filter (counts_on generation) ss)

-- their bytes, of those that count against the window of the path that the end has there
abbrev pub bytes_flying : Run → Side → ℕ → ℕ
bytes_flying r side i = bytes_on (generation_at r side i) (flying r side i)

-- the window that a view shows has no room for one more datagram beside those in flight
abbrev pub IsFull : Run → Side → ℕ → View → Type 0
IsFull r side i v = window_in v side ≤ bytes_flying r side i + mtu_in v side

-- A view shows the timer of the pacer set to a moment that is later than each that the end took
-- over.
pub record IsPaced (r : Run) (side : Side) (i : ℕ) (v : View) : Type 0 where
  pub moment : ℕ
  pub shown : pacing_timer v side ≡ Some (Some moment)
  pub later : (watch r side i).clock < moment

-- window or pacer hold back what asks for an acknowledgement
abbrev pub IsHeldBack : Run → Side → ℕ → View → Type 0
IsHeldBack r side i v = IsFull r side i v ⊎ IsPaced r side i v

-- Nothing more may go to an address that isn't validated (RFC 9000, section 8.1): with one more
-- datagram of the current size more bytes would have gone on the path than three times those that
-- came on it, of which 64 bits hold three times as many.
pub record IsLimited (r : Run) (side : Side) (i : ℕ) (v : View) : Type 0 where
  pub unvalidated : (end_in v side).validated ≡ false
  pub full : saturated (3 * bytes_handed r side i) < bytes_given r side i + mtu_in v side

-- ---- what waits is given

-- A byte was written on a stream that wasn't reset, and is neither in flight nor acknowledged.
pub record IsByteToGo (r : Run) (side : Side) (i id offset : ℕ) : Type 0 where
  pub written : offset < length (written id (until r side i))
  pub kept : reset id (until r side i) ≡ None
  pub not_flying : HoldsOffset (flying r side i) id offset → ⊥
  pub not_acked : HoldsOffset (acked_until r side i) id offset → ⊥

-- So it is of the end of a stream.
pub record IsEndToGo (r : Run) (side : Side) (i id : ℕ) : Type 0 where
  pub ended : ended id (until r side i) ≡ true
  pub kept : reset id (until r side i) ≡ None
  pub not_flying : HoldsEnd (flying r side i) id → ⊥
  pub not_acked : HoldsEnd (acked_until r side i) id → ⊥

-- a byte of a stream, or its end, is to go
abbrev pub IsToGo : Run → Side → ℕ → ℕ → Type 0
IsToGo r side i id = ((offset : ℕ) × IsByteToGo r side i id offset) ⊎ IsEndToGo r side i id

-- where a poll of an open end gives nothing though a byte of a stream, or its end, is to go, window
-- or pacer hold it back, or nothing more may go to an address that isn't validated
abbrev pub PollsSendWhatWaits : Run → Type 0
PollsSendWhatWaits r = (side : Side) (i now id : ℕ) (v : View) → AreServed r (suc i) → GaveNothing r side i now v → IsToGo r side (suc i) id → IsHeldBack r side (suc i) v ⊎ IsLimited r side (suc i) v

-- so it is where a message waits (RFC 9221, section 5.4)
abbrev pub PollsSendMessages : Run → Type 0
PollsSendMessages r = (side : Side) (i now : ℕ) (message : List ℕ) (v : View) (w : World) → AreServed r (suc i) → GaveNothing r side i now v → LeadsTo r (suc i) w → In message (end_at side w).messages.queues.outgoing → IsHeldBack r side (suc i) v ⊎ IsLimited r side (suc i) v

-- ---- step by step

-- A call of a run, what it was answered, and the ends before and behind it; memory served.
pub record IsMade (r : Run) (i : ℕ) (side : Side) (call : Call) (a : Answer) (w next : World) : Type 0 where
  pub at : IsAt r i side call a
  pub leads : LeadsTo r i w
  pub step : IsStep r.keys w (record { side = side; call = call }) a next
  pub served : AreServed r (suc i)

-- an end as a poll asks its pacer: at the moment of the poll, with the window that its controller
-- shows; the timer of the pacer is stopped, something waits for each probe to carry, and
-- ACK_FREQUENCY does, where the peer is to be asked
abbrev pub polled_end : Side → World → ℕ → End
polled_end side w now = let e = with_window (end_at side w) (control_at side w []) in request_queued (probed (with_pacing_timer (with_closing e (ticked e.closing now)) None))

-- the moment that the pacer of an end names in a poll, if it names a later one
abbrev pub pacer_names : Side → World → ℕ → Option ℕ
pacer_names side w now = paced_until (polled_end side w now)

-- whether the timer of the pacer of an end is set, and to which moment
abbrev pub pacing_at : Side → World → Option ℕ
pacing_at side w = (end_at side w).timers.pacing

-- a poll of an open end leaves the timer of its pacer set to the moment that the pacer named, or
-- not set; any other call leaves it as it was, or not set
abbrev pub PacingBehind : Side → Call → World → World → Type 0
PacingBehind side (calls.Poll now) w next = (pacing_at side next ≡ None) ⊎ (pacing_at side next ≡ pacer_names side w now)
PacingBehind side call w next = (pacing_at side next ≡ None) ⊎ (pacing_at side next ≡ pacing_at side w)

-- so the timer of the pacer is set only to the moment that the pacer named in the last poll
abbrev pub PacerSetsItsTimer : Run → Type 0
PacerSetsItsTimer r = (i : ℕ) (side : Side) (call : Call) (a : Answer) (w next : World) → IsMade r i side call a w next → (end_at side w).closing.state ≡ states.Open → PacingBehind side call w next

-- A poll that was served gave a datagram.
pub record GaveOne (r : Run) (side : Side) (i now : ℕ) : Type 0 where
  pub transmit : Transmit
  pub poll : IsAt r i side (calls.Poll now) (answers.Poll (Ok (Some transmit)))
  pub served : AreServed r (suc i)
  pub sent : Sent
  pub went : sents_until r side (suc i) ≡ sents_until r side i ++ sent ∷ []

-- It asks for an acknowledgement.
pub record GaveAsking (r : Run) (side : Side) (i now : ℕ) : Type 0 where
  pub one : GaveOne r side i now
  pub asks : asks_of one.sent ≡ true

-- the search for the size of datagrams at an end
abbrev pub search_at : Side → World → Discovery
search_at side w = (end_at side w).path.discovery

-- A datagram is what the search of its end looks for: it has exactly the size that the search names
-- at the moment of the poll, under the number that is open behind it, where none was. It has no
-- more than the greatest size that is looked at, for which the window had room, and it went where
-- nothing waited.
pub record IsSearched (r : Run) (side : Side) (i : ℕ) (w next : World) (s : Sent) : Type 0 where
  pub named : poll_names (watch r side (suc i)).clock (search_at side w) ≡ Some s.size
  pub none_open : open_probe (search_at side w) ≡ None
  pub opened : open_probe (search_at side next) ≡ Some s.number
  pub bound : ℕ
  pub is_bound : search_bound (search_at side w) ≡ Some bound
  pub below : s.size ≤ bound
  pub idle : waits (end_at side w) ≡ false
  pub room : bytes_flying r side i + bound < control_at side w []

-- A datagram is a probe of a size (RFC 8899, section 5.3; RFC 9000, section 14.4): PING and zeros,
-- alone, no less than the current size, to a validated address, where the window has room for it
-- beside those in flight; and it is what the search of its end looks for.
pub record IsSizeProbe (r : Run) (side : Side) (i : ℕ) (s : Sent) : Type 0 where
  pub zeros : ℕ
  pub alone : s.frames ≡ ping ∷ replicate zeros padding
  pub above : (seen_at r side i).current_mtu ≤ s.size
  pub validated : (seen_at r side i).validated ≡ true
  pub room : bytes_flying r side i + s.size < (seen_at r side i).window
  pub searched : (w next : World) → LeadsTo r i w → LeadsTo r (suc i) next → IsSearched r side i w next s

-- Window and pacer let a poll give what asks: the window has room for one more datagram beside
-- those in flight, both as they are seen before the poll; and the pacer names no later moment.
pub record AreLetting (r : Run) (side : Side) (i now : ℕ) : Type 0 where
  pub room : bytes_flying r side i + (seen_at r side i).current_mtu < (seen_at r side i).window
  pub unpaced : (w : World) → LeadsTo r i w → pacer_names side w now ≡ None

-- what asks goes, where no probe of losses waits, only where window and pacer let it, or as a probe
-- of a size
abbrev pub AskingGoesWhereLet : Run → Type 0
AskingGoesWhereLet r = (side : Side) (i now : ℕ) (gave : GaveAsking r side i now) → (watch r side i).flight.probes ≡ 0 → AreLetting r side i now ⊎ IsSizeProbe r side i gave.one.sent

-- where a probe waits, a poll that leaves its end open gives a datagram that asks, whatever window
-- and pacer say, and one probe fewer waits then (section 7.5); unless nothing more may go to an
-- address that isn't validated
abbrev pub ProbesPass : Run → Type 0
ProbesPass r = (side : Side) (i now : ℕ) (a : Answer) (v : View) → AreServed r (suc i) → IsAt r i side (calls.Poll now) a → slice_get r.views i ≡ Some v → state_in v side ≡ states.Open → 0 < (watch r side i).flight.probes
    → (GaveAsking r side i now × ((watch r side (suc i)).flight.probes + 1 ≡ (watch r side i).flight.probes)) ⊎ IsLimited r side (suc i) v

-- ---- the window

-- what a step tells the controller of an end: what its call tells, if it is a call at this end
abbrev pub told_by_step : Side → Policies → World → RunEvent → List congestion.Told
told_by_step side k w event = if same_side event.side side then tells (policy_at event.side k) (end_met w event) (given_by (other_side event.side) w) event.call else []

-- The controller of an end was told this by the first of these events, in turn: by each of them
-- that was answered.
abbrev pub WasTold : Side → Policies → World → List RunEvent → List Answer → World → List congestion.Told → Type 0
WasTold side k w events [] end told = (end ≡ w) × (told ≡ [])
WasTold side k w [] (a ∷ answers) end told = ⊥
WasTold side k w (event ∷ events) (a ∷ answers) end told = (next : World) × (rest : List congestion.Told) × IsStep k w event a next × (told ≡ told_by_step side k w event ++ rest) × WasTold side k next events answers end rest

-- Behind the first so many answers the controller of an end was told this.
abbrev pub IsHistory : Run → Side → ℕ → World → List congestion.Told → Type 0
IsHistory r side i w told = WasTold side r.keys r.start (take i r.events) (take i r.answers) w told

-- the window that a view shows is that which the controller, as it was when the run began, shows
-- once it was told what the calls up to there tell
abbrev pub WindowIsOfHistory : Run → Type 0
WindowIsOfHistory r = (side : Side) (i : ℕ) (v : View) → AreServed r (suc i) → slice_get r.views i ≡ Some v → (w : World) × (told : List congestion.Told) × IsHistory r side (suc i) w told × (window_in v side ≡ control_at side r.start told)
