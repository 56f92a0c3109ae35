-- That each datagram carries something that waited to go (RFC 9000, sections 12.2, 13.2 and 13.3),
-- and that the timer of acknowledgements is set while no ACK frame is wanted (section 13.2.1), as
-- an observer of a run's lists reckons it.
use Rattle.std.specs.Prelude.{ℕ, suc, ◌+◌, ◌<◌, ◌≤◌, ◌≡◌, ◌⊎◌, not, nat_lt, ◌||◌, ◌&&◌, Bool, true, false, if◌then◌else◌, List, [], ◌∷◌, ◌++◌, length, replicate, slice_get, Option, Some, None, option_map}
use Rattle.std.specs.List.{list_any, count_by}
use Rattle.quic_wire_core.specs.declared.stream_id.Side.{Side}
use Rattle.quic_time.specs.Clocks.{saturated}
use Rattle.quic_wire.specs.Value.{FrameValue, StreamValue, ping, handshake_done, immediate_ack, stream, max_data, max_streams, data_blocked, path_challenge, path_response, ack_frequency, padding, asks}
use Rattle.quic_machine.specs.declared.answers.State.TheVariants as states
use Rattle.quic_machine.specs.declared.run.Call.{Call}
use Rattle.quic_machine.specs.declared.run.Call.TheVariants as calls
use Rattle.quic_machine.specs.declared.run.View.{View}
use Rattle.quic_machine.specs.CallCases.{is_poll}
use Rattle.quic_machine.specs.Machine.{end_at}
use Rattle.quic_headline.specs.Runs.{Run, Told, Packet, In, state_in, AreServed, folded, until, given_of, says_done}
use Rattle.quic_headline.specs.Observer.{Sent, HoldsOffset, asks_of, is_close, Watch, watch_from, watch, news, is_past, is_timely, Lens, watch_told, lens_of}
use Rattle.quic_headline.specs.InFlight.{is_handshake_done, is_max_data, is_data_blocked, is_max_streams, is_ack_frequency}
use Rattle.quic_headline.specs.Moments.{ack_timer, acknowledges, went, debt, first_deadline}
use Rattle.quic_headline.specs.Polls.{GaveOne, IsSizeProbe}
use Rattle.quic_headline.specs.AcksDue.{takes_urged, is_due}
use Rattle.quic_headline.specs.Requests.{Asking, asking_at, wants_anew}

-- ---- what is wanted of an end

-- how many of these packets don't ask for an acknowledgement
abbrev pub count_silent : List Packet → ℕ
count_silent ps = count_by (λ p. not (list_any asks p.frames)) ps

-- so many packets that don't ask may come before an ACK frame goes for them (RFC 9000, section
-- 13.2.1, which names no number: this is our choice)
abbrev pub may_come : ℕ
may_come = 10

-- whether a frame that passes a test stands in one of these datagrams
abbrev pub stands : (FrameValue → Bool) → List Sent → Bool
stands test ss = list_any (λ s. list_any test s.frames) ss

-- whether a frame is PING
abbrev pub is_ping : FrameValue → Bool
is_ping ping = true
is_ping other = false

-- whether a frame is PATH_CHALLENGE
abbrev pub is_path_challenge : FrameValue → Bool
is_path_challenge (path_challenge token) = true
is_path_challenge other = false

-- or PATH_RESPONSE
abbrev pub is_path_response : FrameValue → Bool
is_path_response (path_response token) = true
is_path_response other = false

-- whether a call asks for PING
abbrev pub asks_ping : Call → Bool
asks_ping calls.Ping = true
asks_ping call = false

-- What is wanted of an end, beside what an observer knows of it: the packets that came since it
-- gave an ACK frame, the latest first; whether one of them was urged by its mark; whether
-- PING was asked for since one went, or the time without a packet was over; when that is over, if
-- it is kept (RFC 9000, section 10.1.2); whether a probe of losses waited at a poll that gave
-- nothing, since a datagram went that asks: it may be PING or IMMEDIATE_ACK, and wait (section
-- 8.1); whether its application said that the handshake is done (section 19.20); and the datagrams
-- that it gave since it last was called otherwise than to be polled, or a probe of losses waited.
pub record Wants : Type 0 where
  pub watch : Watch
  pub packets : List Packet
  pub marked : Bool
  pub pinged : Bool
  pub alive : Option ℕ
  pub probed : Bool
  pub done : Bool
  pub since : List Sent

-- what went since then, behind a call at which these go: a probe of losses may say again what flies
-- (RFC 9002, section 6.2.4), and any call but a poll may make something wait
abbrev pub since_behind : Call → Wants → List Sent → List Sent
since_behind call w sents = if is_poll call then (if nat_lt 0 w.watch.flight.probes then [] else w.since) ++ sents else []

-- whether the time without a packet is over at a moment that comes to an open end, up to which its
-- clock goes
abbrev pub wakes : Told → ℕ → Option ℕ → Bool
wakes t clock alive = is_timely t.state t.call && is_past alive clock

-- when it is over, where so long a time begins at a moment
abbrev pub alive_from : Option ℕ → ℕ → Option ℕ
alive_from interval clock = option_map (λ time. saturated (clock + time)) interval

-- it begins anew with a packet that comes, and with a datagram that goes, and is over once
abbrev pub alive_behind : Option ℕ → Told → List Sent → List Packet → ℕ → Option ℕ → Option ℕ
alive_behind interval t sents came clock alive =
    if nat_lt 0 (length sents) || nat_lt 0 (length came) then alive_from interval clock else (if wakes t clock alive then None else alive)

-- whether a probe of losses waited at a poll that gave nothing, as these went: so it is only where
-- nothing more may go to an address that isn't validated
abbrev pub probes_in_vain : Call → List Sent → Watch → Bool
probes_in_vain call sents before = is_poll call && (nat_lt 0 before.flight.probes && not (nat_lt 0 (length sents)))

-- what is wanted behind a call at which these go, and these packets come: an ACK frame that goes
-- ends what is to be acknowledged, and PING what was asked for
abbrev pub wants_behind : Option ℕ → Told → List Sent → List Packet → Watch → Wants → Wants
wants_behind interval t sents came after w = record {
  watch = after;
  packets = (if acknowledges sents then [] else came ++ w.packets);
  marked = (if acknowledges sents then false else takes_urged t w.watch after || w.marked);
  pinged = (if stands is_ping sents then false else asks_ping t.call || (wakes t after.clock w.alive || w.pinged));
  alive = alive_behind interval t sents came after.clock w.alive;
  probed = (if list_any asks_of sents then false else probes_in_vain t.call sents w.watch || w.probed);
  done = says_done t.call t.answer || w.done;
  since = since_behind t.call w sents;
}

-- one call more at the end
abbrev pub wants_told : Lens → Told → Wants → Wants
wants_told l t w = let after = watch_told l t w.watch in wants_behind l.terms.keep_alive t (went w.watch after) (news w.watch.intake after.intake) after w

-- nothing is wanted before the first call, and no such time has begun
abbrev pub no_wants : Watch → Wants
no_wants w = record { watch = w; packets = []; marked = false; pinged = false; alive = None; probed = false; done = false; since = [] }

-- what is wanted of an end behind the first so many answers
abbrev pub wants : Run → Side → ℕ → Wants
wants r side i = folded (wants_told (lens_of r side)) (until r side i) (no_wants (watch_from (end_at side r.start) (given_of r side)))

-- whether an ACK frame is wanted at an end behind the first so many answers: one is due for packets
-- that ask (RFC 9000, section 13.2.1; QUIC Acknowledgement Frequency, sections 4 to 6); or since
-- one went a packet was urged by its mark, or more than so many came that don't ask
abbrev pub wants_ack : Run → Side → ℕ → Bool
wants_ack r side i = is_due r side i || ((wants r side i).marked || nat_lt may_come (count_silent (wants r side i).packets))

-- behind each event before which, and at which, no delivery, no poll and no timeout met want of
-- memory: where no ACK frame is wanted of an open end, the view shows that its timer of
-- acknowledgements is set to the deadline of the first packet that asks, and that was taken since
-- the end gave an ACK frame; and that it isn't set where none was
abbrev pub AckTimersAreSet : Run → Type 0
AckTimersAreSet r = (side : Side) (i : ℕ) (v : View) → AreServed r (suc i) → slice_get r.views i ≡ Some v → state_in v side ≡ states.Open → wants_ack r side (suc i) ≡ false → ack_timer v side ≡ Some (first_deadline (debt r side (suc i)).deadlines)

-- ---- what a datagram carries

-- No byte of a STREAM frame stands in one of these.
abbrev pub HoldsNone : List Sent → StreamValue → Type 0
HoldsNone sents f = (offset : ℕ) → f.offset ≤ offset → offset < f.offset + length f.bytes → HoldsOffset sents f.id offset → ⊥

-- A frame waited where this is wanted: PING was asked for since one went, or the time without a
-- packet was over, or it may be a probe that waited in vain, as IMMEDIATE_ACK is; a STREAM frame
-- brings a byte, or the end of its stream, and no byte that was acknowledged in flight; and none of
-- the datagrams that went since something else than a poll could make it wait had MAX_DATA,
-- MAX_STREAMS of these streams, DATA_BLOCKED, PATH_CHALLENGE or PATH_RESPONSE; nor HANDSHAKE_DONE,
-- of which the application said before that it is so; nor ACK_FREQUENCY, unless the peer is to be
-- asked anew. Of the other frames that ask for an acknowledgement it isn't said what made them
-- wait; ACK frames and PADDING go along.
abbrev pub FrameWaited : Asking → Wants → FrameValue → Type 0
FrameWaited a w ping = w.pinged || w.probed ≡ true
FrameWaited a w immediate_ack = w.probed ≡ true
FrameWaited a w (stream f) = ((0 < length f.bytes) ⊎ (f.fin ≡ true)) × HoldsNone w.watch.flight.acked f
FrameWaited a w handshake_done = (w.done ≡ true) × (stands is_handshake_done w.since ≡ false)
FrameWaited a w (max_data limit) = stands is_max_data w.since ≡ false
FrameWaited a w (max_streams f) = stands (is_max_streams f.one_way) w.since ≡ false
FrameWaited a w (data_blocked limit) = stands is_data_blocked w.since ≡ false
FrameWaited a w (path_challenge token) = stands is_path_challenge w.since ≡ false
FrameWaited a w (path_response token) = stands is_path_response w.since ≡ false
FrameWaited a w (ack_frequency f) = (stands is_ack_frequency w.since ≡ false) ⊎ (wants_anew a w.watch.own w.watch.flight ≡ true)
FrameWaited a w f = Unit {0}

-- A datagram closes the connection, and carries nothing else but PADDING (RFC 9000, sections 10.2.1
-- and 19.19).
pub record IsCloseAlone (s : Sent) : Type 0 where
  pub close : FrameValue
  pub is : is_close close ≡ true
  pub zeros : ℕ
  pub alone : s.frames ≡ close ∷ replicate zeros padding

-- A datagram carries something that waited: it is a probe of a size; a probe of losses waited; it
-- doesn't ask for an acknowledgement, and has an ACK frame that is wanted; it asks, and each of its
-- frames waited; or it closes the connection, with nothing beside the close.
pub data HasWaited (r : Run) (side : Side) (i : ℕ) (s : Sent) : Type 0 where
  as_size_probe : IsSizeProbe r side i s → HasWaited r side i s
  as_loss_probe : 0 < (watch r side i).flight.probes → HasWaited r side i s
  as_ack : asks_of s ≡ false → acknowledges (s ∷ []) ≡ true → wants_ack r side i ≡ true → HasWaited r side i s
  as_frames : asks_of s ≡ true → ((f : FrameValue) → In f s.frames → FrameWaited (asking_at r side) (wants r side i) f) → HasWaited r side i s
  as_close : IsCloseAlone s → HasWaited r side i s

-- so does each datagram that a poll gives
abbrev pub EachWaited : Run → Type 0
EachWaited r = (side : Side) (i now : ℕ) (gave : GaveOne r side i now) → HasWaited r side i gave.sent
