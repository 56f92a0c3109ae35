-- What makes something wait at an end to go (RFC 9000, sections 2.4, 3.1, 3.5, 4.1, 4.2, 4.6,
-- 13.2.1 and 13.3; RFC 9002, sections 6.1 and 6.2.4; RFC 9221, section 5). What waits, the end says
-- itself; the causes are read off a run's lists.
use Rattle.std.specs.Prelude.{ℕ, suc, ◌+◌, ◌/◌, ◌<◌, ◌≤◌, ◌≡◌, ◌⊎◌, ◌==◌, ◌&&◌, ◌||◌, min, max, if◌then◌else◌, not, nat_lt, nat_le, Bool, true, false, List, [], ◌∷◌, ◌++◌, length, Option, Some, unwrap_or, Ok, Err}
use Rattle.std.specs.List.{list_any}
use Rattle.std.specs.Option.{is_some, is_none}
use Rattle.quic_wire_core.specs.declared.stream_id.Side.{Side}
use Rattle.quic_wire_core.specs.StreamId.{other_side}
use Rattle.quic_parameters.specs.Parameters.{ParameterValues}
use Rattle.quic_wire.specs.Value.{FrameValue, ack, stream, reset_stream, stop_sending, max_stream_data, data_blocked, stream_data_blocked, new_connection_id, retire_connection_id}
use Rattle.quic_wire.specs.FrameView.{is_one_way}
use Rattle.quic_send_buffer.specs.Buffered.{is_lost, is_unsent}
use Rattle.quic_streams_parts.specs.declared.answers.WriteError.TheVariants as write_errors
use Rattle.quic_streams_parts.specs.Table.{at}
use Rattle.quic_streams_parts.specs.SendHalf.{SendHalf}
use Rattle.quic_retransmits.specs.Retransmits.{Retransmits, has_id}
use Rattle.quic_machine.specs.declared.answers.State.TheVariants as states
use Rattle.quic_machine.specs.declared.run.Call.{Call}
use Rattle.quic_machine.specs.declared.run.Call.TheVariants as calls
use Rattle.quic_machine.specs.declared.run.Answer.{Answer}
use Rattle.quic_machine.specs.declared.run.Answer.TheVariants as answers
use Rattle.quic_machine.specs.CallCases.{is_poll}
use Rattle.quic_machine.specs.End.{End}
use Rattle.quic_machine.specs.Machine.{World, end_at}
use Rattle.quic_headline.specs.Runs.{Run, Told, Packet, In, until, state_at, AreServed, LeadsTo, written, reads, bytes_of, ended_by, reset_by, says_done}
use Rattle.quic_headline.specs.Observer.{Sent, HoldsOffset, HoldsEnd, Watch, watch, news, loss_due, is_past, is_timely, has_changed, generation_at, sents_until}
use Rattle.quic_headline.specs.Headline.{IsAt}
use Rattle.quic_headline.specs.Amounts.{greatest_in, data_limit_in, stream_limit_in, data_limit, stream_limit}
use Rattle.quic_headline.specs.Credit.{all_consumed}
use Rattle.quic_headline.specs.InUse.{brought, next_of, in_use, TellsStays}
use Rattle.quic_headline.specs.InFlight.{is_handshake_done, is_max_data, is_max_streams, is_data_blocked, is_ack_frequency}
use Rattle.quic_headline.specs.Duties.{Limited, AllData, StreamData, StreamCount, has_reset, has_stop, limit_waits, on_half}
use Rattle.quic_headline.specs.Moments.{acknowledges, went}
use Rattle.quic_headline.specs.AcksDue.{is_immediate_ack, is_due, acked_between}
use Rattle.quic_headline.specs.Unread.{stopped_by}
use Rattle.quic_headline.specs.Messages.{sent_by}
use Rattle.quic_headline.specs.Requests.{Asking, asking_at, wants_anew}
use Rattle.quic_headline.specs.Polls as polls
use Rattle.quic_headline.specs.Expiring.{Questions, asks_anew, questions}
use Rattle.quic_headline.specs.Waited.{count_silent, may_come, stands, is_ping, is_path_challenge, is_path_response, asks_ping, wakes, probes_in_vain, wants}

-- ---- what may wait

-- a control frame: the reset of a stream, that the peer is to stop sending on one, a limit, that a
-- write found all data, or one stream, used up, an own id that the peer is told under a number,
-- that the peer's id of a number is retired, ACK_FREQUENCY, and HANDSHAKE_DONE
pub data Control : Type 0 where
  ResetOf : (id : ℕ) → Control
  StopOf : (id : ℕ) → Control
  LimitOf : (what : Limited) → Control
  Blocked : Control
  BlockedOn : (id : ℕ) → Control
  NewId : (number : ℕ) → Control
  Retirement : (number : ℕ) → Control
  Request : Control
  Done : Control

-- an ACK frame that is due; PING; IMMEDIATE_ACK; PATH_CHALLENGE and PATH_RESPONSE; a probe of
-- losses; a message; an offset of a stream, and its end; and a control frame
pub data Thing : Type 0 where
  Ack : Thing
  Ping : Thing
  Immediate : Thing
  Challenge : Thing
  Response : Thing
  Probe : Thing
  Message : (message : List ℕ) → Thing
  Byte : (id : ℕ) (offset : ℕ) → Thing
  Fin : (id : ℕ) → Thing
  Frame : (control : Control) → Thing

-- whether a control frame is among what waits
abbrev pub control_waits : Retransmits → Control → Bool
control_waits p (ResetOf id) = has_reset id p.reset_stream
control_waits p (StopOf id) = has_stop id p.stop_sending
control_waits p (LimitOf what) = limit_waits p what
control_waits p Blocked = p.data_blocked
control_waits p (BlockedOn id) = has_id id p.stream_data_blocked
control_waits p (NewId number) = list_any (λ c. c.sequence == number) p.new_cids
control_waits p (Retirement number) = list_any (λ n. n == number) p.retire_cids
control_waits p Request = p.ack_frequency
control_waits p Done = p.handshake_done

-- whether an offset of a half that wasn't reset is to go: it is lost, or was never sent
abbrev pub byte_waits : ℕ → SendHalf → Bool
byte_waits offset h = is_none h.reset && (is_lost h.buffer offset || is_unsent h.buffer offset)

-- whether its end is
abbrev pub fin_waits : SendHalf → Bool
fin_waits h = is_none h.reset && h.end_waits

-- something waits at an end
abbrev pub IsPending : End → Thing → Type 0
IsPending e Ack = e.acknowledging.due ≡ true
IsPending e Ping = e.waiting.signals.ping ≡ true
IsPending e Immediate = e.waiting.signals.immediate ≡ true
IsPending e Challenge = is_some e.waiting.signals.challenge ≡ true
IsPending e Response = is_some e.waiting.signals.response ≡ true
IsPending e Probe = 0 < e.tracking.probes
IsPending e (Message message) = In message e.messages.queues.outgoing
IsPending e (Byte id offset) = on_half (byte_waits offset) (at e.streams.sending.halves.live id) ≡ true
IsPending e (Fin id) = on_half fin_waits (at e.streams.sending.halves.live id) ≡ true
IsPending e (Frame control) = control_waits e.waiting.frames control ≡ true

-- ---- what a frame says

-- whether a frame is this control frame
abbrev pub says : Control → FrameValue → Bool
says (ResetOf id) (reset_stream f) = f.id == id
says (StopOf id) (stop_sending f) = f.id == id
says (LimitOf AllData) f = is_max_data f
says (LimitOf (StreamData id)) (max_stream_data f) = f.id == id
says (LimitOf (StreamCount dir)) f = is_max_streams (is_one_way dir) f
says Blocked f = is_data_blocked f
says (BlockedOn id) (stream_data_blocked f) = f.id == id
says (NewId number) (new_connection_id f) = f.sequence == number
says (Retirement number) (retire_connection_id n) = n == number
says Request f = is_ack_frequency f
says Done f = is_handshake_done f
says control f = false

-- A datagram bears it: a STREAM frame with the offset, or with the end, or the frame.
abbrev pub Bears : Sent → Thing → Type 0
Bears s (Byte id offset) = HoldsOffset (s ∷ []) id offset
Bears s (Fin id) = HoldsEnd (s ∷ []) id
Bears s (Frame control) = list_any (says control) s.frames ≡ true
Bears s q = ⊥

-- It went with one of these datagrams: an ACK frame, PING, IMMEDIATE_ACK, PATH_CHALLENGE,
-- PATH_RESPONSE, an offset or the end of a stream, or a frame that names no stream, as MAX_DATA,
-- MAX_STREAMS, DATA_BLOCKED, ACK_FREQUENCY and HANDSHAKE_DONE. Of the others it isn't said.
abbrev pub HasGone : List Sent → Thing → Type 0
HasGone ss Ack = acknowledges ss ≡ true
HasGone ss Ping = stands is_ping ss ≡ true
HasGone ss Immediate = stands is_immediate_ack ss ≡ true
HasGone ss Challenge = stands is_path_challenge ss ≡ true
HasGone ss Response = stands is_path_response ss ≡ true
HasGone ss (Byte id offset) = HoldsOffset ss id offset
HasGone ss (Fin id) = HoldsEnd ss id
HasGone ss (Frame (LimitOf AllData)) = stands is_max_data ss ≡ true
HasGone ss (Frame (LimitOf (StreamCount dir))) = stands (is_max_streams (is_one_way dir)) ss ≡ true
HasGone ss (Frame Blocked) = stands is_data_blocked ss ≡ true
HasGone ss (Frame Request) = stands is_ack_frequency ss ≡ true
HasGone ss (Frame Done) = stands is_handshake_done ss ≡ true
HasGone ss q = ⊥

-- ---- what is seen of a call

-- What an observer of an end knows of a call: what was told before, the call, what is known before
-- and behind it, the packets that came before it since the end gave an ACK frame, whether one is
-- due behind it for packets that ask, and whether one was urged by its mark since one went,
-- when the time without a packet is over, if it is kept, how the end asks its peer to acknowledge,
-- the number of the peer's id that it uses before the call, and whether that stays where its path
-- changes by the call; how it asks before the call whether its peer receives, and whether the
-- peer's address is seen to be validated then; and its side, the peer's parameters, how many bytes
-- it lets come on all streams past those that were consumed, how many on a stream past those that
-- were read, and the datagrams that it gave before the call.
pub record Seen : Type 0 where
  pub told : List Told
  pub now : Told
  pub before : Watch
  pub behind : Watch
  pub unanswered : List Packet
  pub due : Bool
  pub marked : Bool
  pub alive : Option ℕ
  pub asking : Asking
  pub using : ℕ
  pub stays : Bool
  pub questions : Questions
  pub validated : Bool
  pub side : Side
  pub params : ParameterValues
  pub window : ℕ
  pub stream_window : ℕ
  pub gave : List Sent

-- the packets that came by it
abbrev pub came : Seen → List Packet
came s = news s.before.intake s.behind.intake

-- whether a frame that passes a test came by it
abbrev pub brings : (FrameValue → Bool) → Seen → Bool
brings test s = list_any (λ p. list_any test p.frames) (came s)

-- the datagrams that were acknowledged by it in flight
abbrev pub acknowledged_by : Seen → List Sent
acknowledged_by s = acked_between s.before s.behind

-- A datagram that bore it is lost (RFC 9002, section 6.1): it was in flight, and behind the call it
-- neither is, nor was acknowledged by it. What it bore goes again (RFC 9000, section 13.3).
pub record WasLost (s : Seen) (q : Thing) : Type 0 where
  pub sent : Sent
  pub flew : In sent s.before.flight.flying
  pub gone : In sent s.behind.flight.flying → ⊥
  pub unnamed : In sent (acknowledged_by s) → ⊥
  pub bore : Bears sent q

-- A probe of losses waited at a poll, which may say again what a datagram in flight bears (RFC
-- 9002, section 6.2.4).
pub record IsProbed (s : Seen) (q : Thing) : Type 0 where
  pub polls : is_poll s.now.call ≡ true
  pub waited : 0 < s.before.flight.probes
  pub sent : Sent
  pub flies : In sent s.before.flight.flying
  pub bears : Bears sent q

-- whether the timer of losses expires at it, and no datagram may be lost by time (RFC 9002, section
-- 6.2.1)
abbrev pub makes_probes : Seen → Bool
makes_probes s = is_timely s.now.state s.now.call && (is_none s.before.flight.loss_time && is_past (loss_due s.before.flight) s.behind.clock)

-- whether it is a poll at which a probe of losses waits in vain
abbrev pub fails_to_probe : Seen → Bool
fails_to_probe s = probes_in_vain s.now.call (went s.before s.behind) s.before

-- whether it asks for PING, or the time without a packet is over at it (RFC 9000, section 10.1.2),
-- or it is a poll at which a probe of losses waits in vain (section 8.1)
abbrev pub makes_ping : Seen → Bool
makes_ping s = asks_ping s.now.call || (wakes s.now s.behind.clock s.alive || fails_to_probe s)

-- ---- calls of the application, and frames that come

-- whether a call uses up what came of a stream: it reads it, stops it, or is told of its reset (RFC
-- 9000, sections 2.4 and 4.1)
abbrev pub uses_up : Call → Answer → Bool
uses_up (calls.Read read) (answers.Read (Ok said)) = true
uses_up (calls.Stop id code) (answers.Stop (Ok done)) = true
uses_up (calls.ReceivedReset id) (answers.ReceivedReset (Ok (Some code))) = true
uses_up call a = false

-- whether it reads this stream
abbrev pub reads_on : ℕ → Call → Answer → Bool
reads_on id (calls.Read read) (answers.Read (Ok said)) = read.id == id
reads_on id call a = false

-- whether it writes on a stream that passes a test, and is blocked
abbrev pub finds_blocked : (ℕ → Bool) → Call → Answer → Bool
finds_blocked test (calls.Write id bytes) (answers.Write (Err write_errors.Blocked)) = test id
finds_blocked test (calls.WriteChunks id chunks) (answers.WriteChunks (Err write_errors.Blocked)) = test id
finds_blocked test call a = false

-- whether a frame brings what is used up at once where its stream was stopped, or with its reset
-- (RFC 9000, sections 3.5 and 4.5)
abbrev pub brings_data : FrameValue → Bool
brings_data (stream f) = true
brings_data (reset_stream f) = true
brings_data f = false

-- whether a frame retires an own id, for which another may be issued (RFC 9000, section 5.1.1)
abbrev pub is_retirement : FrameValue → Bool
is_retirement (retire_connection_id n) = true
is_retirement f = false

-- a number before others, unless it is one of them
abbrev pub and_number : ℕ → List ℕ → List ℕ
and_number n ns = if list_any (λ m. m == n) ns then ns else n ∷ ns

-- the numbers of own ids that frames retire, before others, each once
abbrev pub retired_in : List FrameValue → List ℕ → List ℕ
retired_in [] ns = ns
retired_in (retire_connection_id n ∷ fs) ns = and_number n (retired_in fs ns)
retired_in (f ∷ fs) ns = retired_in fs ns

-- and those that packets retire
abbrev pub retired_numbers : List Packet → List ℕ
retired_numbers [] = []
retired_numbers (p ∷ ps) = retired_in p.frames (retired_numbers ps)

-- whether it may retire the peer's id of a number where one is in use: it brings that one, which
-- comes late, below the one in use (section 19.15). Where it asks for some to be retired, which no
-- honest peer does here, it isn't said which
abbrev pub retires : ℕ → ℕ → FrameValue → Bool
retires used number (new_connection_id f) = (f.sequence == number && nat_lt number used) || nat_lt 0 f.retire_prior_to
retires used number f = false

-- whether a call uses the next id of the peer (section 5.1.2)
abbrev pub uses_next : Call → Answer → Bool
uses_next calls.UseNextId (answers.UseNextId (Ok done)) = true
uses_next call a = false

-- whether a number lies at that of the id in use, or above, but below that of the next one
abbrev pub is_passed : ℕ → ℕ → Option ℕ → Bool
is_passed number used next = nat_le used number && nat_lt number (unwrap_or next used)

-- whether the peer's id of a number is retired by a call, which uses the next one
abbrev pub uses_past : Seen → ℕ → Bool
uses_past s number = uses_next s.now.call s.now.answer && is_passed number s.using (next_of s.using (brought s.before.intake.took))

-- or by a change of the path, which does unless the id stays (section 9.5)
abbrev pub moves_past : Seen → ℕ → Bool
moves_past s number = has_changed s.before s.behind && (not s.stays && is_passed number s.using (next_of s.using (brought s.behind.intake.took)))

-- whether it is by either
abbrev pub passes_over : Seen → ℕ → Bool
passes_over s number = uses_past s number || moves_past s number

-- whether a stream may be done by it: what this end sent on it is acknowledged, or what the peer
-- sent on it is over (RFC 9000, section 4.6)
abbrev pub may_end : FrameValue → Bool
may_end (ack a) = true
may_end f = brings_data f

-- whether a frame says that this limit on all streams is used up
abbrev pub says_blocked : ℕ → FrameValue → Bool
says_blocked limit (data_blocked said) = said == limit
says_blocked limit f = false

-- whether a frame says that this limit on a stream is used up
abbrev pub says_blocked_on : ℕ → ℕ → FrameValue → Bool
says_blocked_on id limit (stream_data_blocked f) = f.id == id && f.limit == limit
says_blocked_on id limit f = false

-- whether DATA_BLOCKED said the limit that the peer advertised last
abbrev pub has_said : Seen → Bool
has_said s = stands (says_blocked (data_limit s.params s.before.intake.took)) s.gave

-- whether STREAM_DATA_BLOCKED said the limit that it advertised last on a stream
abbrev pub has_said_on : ℕ → Seen → Bool
has_said_on id s = stands (says_blocked_on id (stream_limit s.params s.side s.before.intake.took id)) s.gave

-- whether the peer was told of an own id under a number before
abbrev pub was_told : ℕ → Seen → Bool
was_told number s = stands (says (NewId number)) s.gave

-- below which number own ids are issued by then: as many may live as the peer takes, by its
-- active_connection_id_limit (section 18.2), though 8 at most, a number of our own, and one more is
-- issued for each that it retired (section 5.1.1)
abbrev pub issued_below : Seen → ℕ
issued_below s = min s.params.active_connection_id_limit 8 + length (retired_numbers s.behind.intake.took)

-- the greatest number that frames of these datagrams say, by what each says, or 0
abbrev pub most_said : (FrameValue → ℕ) → List Sent → ℕ
most_said says [] = 0
most_said says (s ∷ ss) = max (greatest_in says s.frames) (most_said says ss)

-- whether a limit that lies this window past what is used up lies so far above the greatest that
-- the peer was told, by datagrams or, as the window alone, as the connection began, that it is told
-- anew: by an eighth of the window, or by one, if that is more (sections 4.1 and 4.2)
abbrev pub is_far : (window used said : ℕ) → Bool
is_far window used said = nat_le (max window said + max (window / 8) 1) (window + used)

-- whether the limit on a stream does by a call: what is used up of it are the bytes that were read
abbrev pub is_far_on : ℕ → Seen → Bool
is_far_on id s = is_far s.stream_window (length (bytes_of (reads id (s.told ++ s.now ∷ [])))) (most_said (stream_limit_in id) s.gave)

-- whether the limit on the data of all streams does: what is used up is what was consumed of all
abbrev pub is_far_in_all : Seen → Bool
is_far_in_all s = is_far s.window (all_consumed s.behind.intake.took (s.told ++ s.now ∷ [])) (most_said data_limit_in s.gave)

-- Whether a call, or a frame that comes by it, asks for a control frame: a reset and a stop are
-- called for (RFC 9000, sections 3.1 and 3.5); MAX_DATA goes where more was used up, and
-- MAX_STREAM_DATA where the stream was read, and so much more that the limit lies far above what
-- was said (sections 4.1 and 4.2), and MAX_STREAMS where a stream may be done (section 4.6); and
-- the frames that say that a limit is used up where a write is blocked, unless one said that limit
-- before (sections 19.12 and 19.13). The peer is told of an own id where a frame retires one, under
-- a number that it wasn't told, below the one that `issued_below` gives. An id of the peer is
-- retired where the next one is used and its number lies below that, or where it comes late. A poll
-- asks the peer by ACK_FREQUENCY where it is to be asked anew (QUIC Acknowledgement Frequency,
-- section 4). And HANDSHAKE_DONE goes where the application says that the handshake is done
-- (section 19.20).
abbrev pub asks_for : Seen → Control → Bool
asks_for s (ResetOf id) = is_some (reset_by id s.now.call s.now.answer)
asks_for s (StopOf id) = stopped_by id s.now.call s.now.answer
asks_for s (LimitOf AllData) = (uses_up s.now.call s.now.answer || brings brings_data s) && is_far_in_all s
asks_for s (LimitOf (StreamData id)) = reads_on id s.now.call s.now.answer && is_far_on id s
asks_for s (LimitOf (StreamCount dir)) = uses_up s.now.call s.now.answer || brings may_end s
asks_for s Blocked = finds_blocked (λ id. true) s.now.call s.now.answer && not (has_said s)
asks_for s (BlockedOn id) = finds_blocked (λ j. j == id) s.now.call s.now.answer && not (has_said_on id s)
asks_for s (NewId number) = brings is_retirement s && (not (was_told number s) && nat_lt number (issued_below s))
asks_for s (Retirement number) = passes_over s number || brings (retires s.using number) s
asks_for s Request = is_poll s.now.call && wants_anew s.asking s.before.own s.before.flight
asks_for s Done = says_done s.now.call s.now.answer

-- ---- the causes

-- whether an ACK frame may become due by a call: behind it one is due for packets that ask; or a
-- packet was urged by its mark; or a datagram may go, and many came that don't ask (RFC 9000,
-- section 13.2.1)
abbrev pub may_hasten : Seen → Bool
may_hasten s = s.due || (s.marked || (is_poll s.now.call && nat_lt may_come (count_silent s.unanswered)))

-- What makes it wait: an ACK frame becomes due; PING is asked for, or the time without a packet is
-- over, or a probe waits in vain, by which IMMEDIATE_ACK may wait; probes wait where the timer of
-- losses expires; a message is sent; bytes are written, or an end is told; a control frame is
-- called for; what a datagram bore is lost; or a probe says it again. PATH_CHALLENGE waits only
-- where the path changes (section 9.3), or the moment comes at which the end asks anew an address
-- that isn't validated (section 8.2.4), and PATH_RESPONSE only where PATH_CHALLENGE comes (section
-- 8.2).
abbrev pub HasCause : Seen → Thing → Type 0
HasCause s Ack = may_hasten s ≡ true
HasCause s Ping = makes_ping s ≡ true
HasCause s Immediate = fails_to_probe s ≡ true
HasCause s Challenge = asks_anew s.validated s.now s.behind s.questions ≡ true
HasCause s Response = brings is_path_challenge s ≡ true
HasCause s Probe = makes_probes s ≡ true
HasCause s (Message message) = In message (sent_by s.now.call s.now.answer)
HasCause s (Byte id offset) = ((length (written id s.told) ≤ offset) × (offset < length (written id (s.told ++ s.now ∷ [])))) ⊎ WasLost s (Byte id offset)
HasCause s (Fin id) = (ended_by id s.now.call s.now.answer ≡ true) ⊎ WasLost s (Fin id)
HasCause s (Frame control) = (asks_for s control ≡ true) ⊎ (WasLost s (Frame control) ⊎ IsProbed s (Frame control))

-- ---- the clause

-- what an observer of an end sees of a call at it, behind the first so many answers
abbrev pub seen_at : Run → (ℕ → Bool) → Side → ℕ → Call → Answer → Seen
seen_at r stays side i call a = record {
  told = until r side i;
  now = record { call = call; answer = a; state = state_at r side i };
  before = watch r side i;
  behind = watch r side (suc i);
  unanswered = (wants r side i).packets;
  due = is_due r side (suc i);
  marked = (wants r side (suc i)).marked;
  alive = (wants r side i).alive;
  asking = asking_at r side;
  using = in_use r stays side i;
  stays = stays (generation_at r side (suc i));
  questions = questions r side i;
  validated = (polls.seen_at r side i).validated;
  side = side;
  params = (end_at side r.start).peer_params;
  window = (end_at side r.start).streams.receiving.window;
  stream_window = (end_at side r.start).streams.receiving.stream_window;
  gave = sents_until r side i;
}

-- It waited before, and didn't go by the call; or it has a cause.
pub data StillOrNew (s : Seen) (before : End) (q : Thing) : Type 0 where
  still : IsPending before q → (HasGone (went s.before s.behind) q → ⊥) → StillOrNew s before q
  begins : HasCause s q → StillOrNew s before q

-- so it is of all that waits behind a call
abbrev pub BeginsAt : Seen → End → End → Type 0
BeginsAt s before behind = (q : Thing) → IsPending behind q → StillOrNew s before q

-- So it is of each call at an end that is open behind it, and at the other end nothing begins to
-- wait. It is one before which, and at which, no delivery, no poll and no timeout met want of
-- memory.
abbrev pub WaitingBegins : Run → Type 0
WaitingBegins r = (side : Side) (stays : ℕ → Bool) (i : ℕ) (call : Call) (a : Answer) (w v : World) → TellsStays r side stays → AreServed r (suc i) → IsAt r i side call a → LeadsTo r i w → LeadsTo r (suc i) v
    → ((end_at side v).closing.state ≡ states.Open → BeginsAt (seen_at r stays side i call a) (end_at side w) (end_at side v))
    × ((q : Thing) → IsPending (end_at (other_side side) v) q → IsPending (end_at (other_side side) w) q)
