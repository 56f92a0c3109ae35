-- One end of a connection (RFC 9000, section 5): a record of parts, one for each concern, and
-- beside it the keys, the random source, the congestion controller, and what was counted.
use Rattle.std.specs.Prelude.{◌≡◌, ℕ, ◌+◌, ◌-◌, ◌*◌, Bool, true, ◌==◌, ◌||◌, not, nat_lt, if◌then◌else◌, List, length, false, Option, Some, None, Result, Ok, Err}
use Rattle.quic_wire_core.specs.declared.stream_id.Side.{Side}
use Rattle.quic_packet.specs.Keys.{Protection, Aead}
use Rattle.quic_packet.specs.declared.crypto.Keys.{Keys}
use Rattle.quic_parameters.specs.Parameters.{ParameterValues}
use Rattle.quic_parameters.specs.ParametersRead.{parameters_at}
use Rattle.quic_machine.specs.declared.answers.State.TheVariants as states
use Rattle.quic_machine.specs.declared.answers.ConfigError.{ConfigError}
use Rattle.quic_machine.specs.declared.answers.ConfigError.TheVariants as config_errors
use Rattle.quic_config.specs.declared.first_sample.FirstSample.{FirstSample}
use Rattle.quic_config.specs.Transport.{Settings, TransportSettings, transport_of, first_mtu}
use Rattle.quic_recovery_core.specs.PendingAcks.{Pending, none_pending}
use Rattle.quic_recovery_core.specs.AckFrequency.{Frequency, initial_frequency, longest_delay}
use Rattle.quic_time.specs.Clocks.{saturated}
use Rattle.quic_time.specs.Rtt as rtt
use Rattle.quic_time.specs.Timers.{Timers, no_timers}
use Rattle.quic_machine.specs.declared.answers.LostReason.{LostReason}
use Rattle.quic_wire.specs.Value.{FrameValue}
use Rattle.quic_machine.specs.Reasons.{error_close}
use Rattle.quic_machine.specs.Closing.{Closing, closing_for, drained_for}
use Rattle.quic_machine.specs.Ids.{Ids, first_ids, most_ids, drawn_ids, later_numbers, words_behind, words_of_id}
use Rattle.quic_spaces.specs.Numbers.{Numbers, no_numbers, number_given}
use Rattle.quic_spaces.specs.Filter.{Filter, first_filter, allocated, after_allocated}
use Rattle.quic_machine.specs.Tracking.{Tracking, nothing_tracked, loss_moment}
use Rattle.quic_machine.specs.Heard.{Heard}
use Rattle.quic_streams_state.specs.declared.state.StreamsState.{StreamsState}
use Rattle.quic_streams_state.specs.State.{Streams, streams_of, new_streams, after_set_params}
use Rattle.quic_congestion.specs.Search.{Discovery}
use Rattle.quic_spaces.specs.Marks.{Counts}
use Rattle.quic_machine.specs.Parts.{Path, Validation, no_validation, Windows, first_path, Marks, no_marks, Messaging, no_messaging, with_queues, Confirmation, unconfirmed, Signals, Waiting, ids_wait}
use Rattle.quic_messages.specs.Messages.{Messages}
use Rattle.quic_retransmits.specs.Retransmits.{Retransmits}
use Rattle.quic_machine.specs.Policy.{Policy, keys_policy}

-- one end of a connection
pub record End : Type 0 where
  -- its clock, and whether it is open (section 10)
  pub closing : Closing
  -- connection ids (section 5.1), packet numbers (section 12.3), which of them are left out
  -- (section 21.4), what is to be acknowledged (section 13.2), and how often that was asked for
  -- (QUIC Acknowledgement Frequency, section 4)
  pub ids : Ids
  pub numbers : Numbers
  pub filter : Filter
  pub acknowledging : Pending
  pub frequency : Frequency
  -- the marks with which packets came, here and at the peer (section 13.4)
  pub marks : Marks
  -- when timers expire, and the datagrams that are tracked (RFC 9002, sections 2 and 6)
  pub timers : Timers
  pub tracking : Tracking
  -- whether the next packet that is given and asks lets the idle timeout begin anew (section 10.1)
  pub idle_armed : Bool
  -- the path to the peer, and by what its address is validated (section 8)
  pub path : Path
  pub validation : Validation
  -- how it sends, by its settings, and what the peer told of itself as the connection began
  -- (section 7.4)
  pub transport : TransportSettings
  pub peer_params : ParameterValues
  -- all streams (sections 2 to 4)
  pub streams : StreamsState
  -- messages (RFC 9221), and what waits to be sent beside the bytes of streams (section 13.3)
  pub messages : Messaging
  pub waiting : Waiting
  -- whether the handshake is confirmed (RFC 9001, section 4.1.2)
  pub confirmation : Confirmation

-- an end with its keys, its random source and its controller, and what it counted
pub record ConnectionValue (H K R C : Type 0) : Type 0 where
  pub keys : Keys H K
  pub random : R
  pub control : C
  pub heard : Heard
  pub end : End

-- the same keys, random source, controller and counts, and another end
abbrev pub with_end : {H K R C : Type 0} → ConnectionValue H K R C → End → ConnectionValue H K R C
with_end w e = record w { end = e }

-- the same in all else, and this was counted
abbrev pub hearing : {H K R C : Type 0} → ConnectionValue H K R C → Heard → ConnectionValue H K R C
hearing w h = record w { heard = h }

-- the same in all else, with this random source
abbrev pub drawing : {H K R C : Type 0} → R → ConnectionValue H K R C → ConnectionValue H K R C
drawing random w = record w { random = random }

-- how many words of its random source an end has drawn: those that say which packet numbers are
-- left out (section 21.4), three for each own id but the first and those that are still to be
-- drawn, and those of its challenges (section 8.2)
abbrev pub words_drawn : End → ℕ
words_drawn e = e.filter.drawn + words_of_id * (e.ids.own.issued - 1 - length e.ids.undrawn) + e.validation.drawn

-- what the keys of an end do: it protects with the local ones, and opens with the remote ones, each
-- so many packets; and which words its random source answers from here on, by how many it answered
-- before
abbrev pub policy_of : {H K R C : Type 0} → (H → Protection) → (K → Aead) → (K → ℕ) → (K → ℕ) → (R → ℕ → ℕ) → ConnectionValue H K R C → Policy
policy_of protection aead seals openings words w = keys_policy protection aead seals openings w.keys (λ n. words w.random (n - words_drawn w.end))

-- no stream is opened: the peer's parameters are the limits on what is sent, the own settings those
-- on what comes
abbrev pub first_streams : Side → Settings → ParameterValues → StreamsState
first_streams side settings theirs = after_set_params (new_streams side settings.max_uni settings.max_bidi settings.send_window settings.receive_window settings.stream_receive_window) theirs

-- an end as it is made at a moment for a peer at this address, whose random source answers these
-- words, and whose controller shows these windows: the first word says which packet number is left
-- out first, and the next ones are the ids that it issues at once, of which the peer has to be
-- told. It has asked its peer for nothing
abbrev pub silent_end : Side → Settings → Windows → ParameterValues → List ℕ → List ℕ → ℕ → ℕ → Bool → (ℕ → ℕ) → End
silent_end side settings windows theirs own_id peer_id remote now validated words = record {
  closing = record { clock = now; state = states.Open; reason = None; told = false; close = None; owed = false };
  ids = first_ids own_id peer_id (most_ids theirs.active_connection_id_limit) now (words_behind 1 words);
  numbers = no_numbers;
  filter = first_filter (words 0);
  acknowledging = none_pending;
  frequency = initial_frequency (theirs.max_ack_delay * 1000000);
  marks = no_marks;
  timers = no_timers;
  tracking = nothing_tracked now;
  idle_armed = true;
  path = first_path remote validated (transport_of settings) theirs.max_udp_payload_size windows now;
  validation = no_validation;
  transport = transport_of settings;
  peer_params = theirs;
  streams = first_streams side settings theirs;
  messages = no_messaging;
  waiting = ids_wait (drawn_ids (words_behind 1 words) (later_numbers (most_ids theirs.active_connection_id_limit)));
  confirmation = unconfirmed;
}

-- the client or the server
abbrev pub side_of : End → Side
side_of e = e.streams.side

-- the end with another clock, state and reason
abbrev pub with_closing : End → Closing → End
with_closing e c = record e { closing = c }

-- the end with another search for the size of datagrams
abbrev pub with_discovery : End → Discovery → End
with_discovery e d = record e { path = record e.path { discovery = d } }

-- the timers with that of path validation set or stopped
abbrev pub with_path_timer : Timers → Option ℕ → Timers
with_path_timer t moment = record t { path_validation = moment }

-- the end with other packet numbers
abbrev pub with_numbers : End → Numbers → End
with_numbers e n = record e { numbers = n }

-- the number of the next datagram: one may be left out before it
abbrev pub number_of : End → ℕ
number_of e = allocated e.filter e.numbers.next

-- that number is given; where one was left out, this word says which is next
abbrev pub with_number_given : ℕ → End → End
with_number_given word e = record e { numbers = number_given e.numbers (number_of e); filter = after_allocated e.filter e.numbers.next word }

-- the end with other packets to acknowledge
abbrev pub with_acknowledging : End → Pending → End
with_acknowledging e p = record e { acknowledging = p }

-- the end that was asked so how often to acknowledge
abbrev pub with_frequency : End → Frequency → End
with_frequency e f = record e { frequency = f }

-- the end with other counts of marks at the peer
abbrev pub with_told : End → Counts → End
with_told e counts = record e { marks = record e.marks { told = counts } }

-- the end that marks its datagrams or doesn't
abbrev pub with_marking : End → Bool → End
with_marking e marking = record e { path = record e.path { marking = marking } }

-- the timers with the one of acknowledgements set or stopped
abbrev pub with_ack_timer : Timers → Option ℕ → Timers
with_ack_timer t moment = record t { max_ack_delay = moment }

-- the end with the timer of acknowledgements set or stopped
abbrev pub with_ack_timer_at : End → Option ℕ → End
with_ack_timer_at e moment = record e { timers = with_ack_timer e.timers moment }

-- the end with other tracked packets
abbrev pub with_tracking : End → Tracking → End
with_tracking e t = record e { tracking = t }

-- the end with another estimate of the round trip, and the number that was next when one was first
-- measured
abbrev pub with_rtt : End → rtt.Rtt → Option ℕ → End
with_rtt e r first = record e { path = record e.path { rtt = r; first_after_rtt = first } }

-- the end that reads this window of its controller
abbrev pub with_window : End → ℕ → End
with_window e window = record e { path = record e.path { window = window } }

-- ---- the loss timer (RFC 9002, section 6.2)

-- how long the peer holds an acknowledgement back, in nanoseconds: as it told when the connection
-- began (RFC 9000, section 18.2), or as it was asked, and acknowledged that
abbrev pub peer_delay : End → ℕ
peer_delay e = e.frequency.peer_delay

-- how long an acknowledgement is waited for before a probe goes: the peer may hold it back as it
-- was asked already, or not yet (QUIC Acknowledgement Frequency, section 7)
abbrev pub probe_timeout : End → ℕ
probe_timeout e = saturated (rtt.probe_timeout e.path.rtt + longest_delay e.frequency)

-- the loss timer as a function of the end: it is set anew, last, by each call that may change what
-- it follows
abbrev pub with_loss_timer : End → End
with_loss_timer e = record e { timers = record e.timers { loss_detection = loss_moment (probe_timeout e) e.tracking } }

-- ---- closing (section 10.2)

-- three probe timeouts: so long an end is closing, no idle timeout is shorter (section 10.1), and
-- an answer to a challenge is waited for (section 8.2.4)
abbrev pub three_timeouts : End → ℕ
three_timeouts e = saturated (probe_timeout e * 3)

-- the end closes for a reason, and owes its peer this close: of its timers only that of the close
-- is set, three probe timeouts on
abbrev pub closing_by : LostReason → FrameValue → End → End
closing_by reason f e = record e { closing = closing_for reason f e.closing; timers = record no_timers { close = Some (saturated (e.closing.clock + three_timeouts e)) } }

-- the end closes for a reason, of which its peer is told the code
abbrev pub closed_by : LostReason → End → End
closed_by reason e = closing_by reason (error_close reason) e

-- the end is drained for a reason at once: none of its timers is set any more
abbrev pub drained_by : LostReason → End → End
drained_by reason e = record e { closing = drained_for reason e.closing; timers = no_timers }

-- ---- path validation (section 8.2)

-- until when an answer to a challenge is waited for that is made now: for three probe timeouts
-- (section 8.2.4)
abbrev pub validation_moment : End → ℕ
validation_moment e = saturated (e.closing.clock + three_timeouts e)

-- the peer is asked to answer this word, which waits to be sent; an earlier one counts no more
abbrev pub challenged : ℕ → End → End
challenged word e = record e {
  validation = record { challenge = Some word; drawn = e.validation.drawn + 1 };
  waiting = record e.waiting { signals = record e.waiting.signals { challenge = Some word } };
  timers = with_path_timer e.timers (Some (validation_moment e));
}

-- its streams, and what waits to be sent beside their bytes
abbrev pub streams_at : End → Streams
streams_at e = streams_of e.streams e.waiting.frames

-- the end with others
abbrev pub with_streams : End → Streams → End
with_streams e t = record e { streams = t.state; waiting = record e.waiting { frames = t.pending } }

-- the end with other messages
abbrev pub with_messages : End → Messaging → End
with_messages e m = record e { messages = m }

-- the end where other messages wait to be sent or to be read
abbrev pub with_queued : End → Messages → End
with_queued e queues = with_messages e (with_queues e.messages queues)

-- the end where this waits
abbrev pub with_waiting : End → Waiting → End
with_waiting e w = record e { waiting = w }

-- the end where these signals wait
abbrev pub with_signals : End → Signals → End
with_signals e signals = with_waiting e (record e.waiting { signals = signals })

-- the end with other connection ids
abbrev pub with_ids : End → Ids → End
with_ids e ids = record e { ids = ids }

-- the end where other control frames wait
abbrev pub with_frames : End → Retransmits → End
with_frames e frames = with_waiting e (record e.waiting { frames = frames })

-- the end whose handshake is confirmed so
abbrev pub with_confirmation : End → Confirmation → End
with_confirmation e c = record e { confirmation = c }

-- the end with HANDSHAKE_DONE waiting or not (section 19.20)
abbrev pub with_done : End → Bool → End
with_done e waits = with_frames e (record e.waiting.frames { handshake_done = waits })

-- the end with PING waiting or not
abbrev pub with_ping : End → Bool → End
with_ping e waits = with_signals e (record e.waiting.signals { ping = waits })

-- the end with IMMEDIATE_ACK waiting or not
abbrev pub with_immediate : End → Bool → End
with_immediate e waits = with_signals e (record e.waiting.signals { immediate = waits })

-- an end that met want of memory where a datagram was taken or given, or packets were lost at a
-- timeout: it is failed for good, for no reason, and keeps its keys and its random source. What
-- else stands in it, and what it counted, isn't said
pub record HasFailed {H K R C : Type 0} (old new : ConnectionValue H K R C) : Type 0 where
  pub state : new.end.closing.state ≡ states.Failed
  pub reason : new.end.closing.reason ≡ None
  pub keys : new ≡ record old { end = new.end; control = new.control; heard = new.heard }

-- ---- making an end

-- the most bytes of a UDP payload (section 18.2)
abbrev pub most_payload : ℕ
most_payload = 65527

-- whether the sizes of datagrams can't be: more than a UDP payload may have, or more on each path
-- than the peer takes (section 18.2)
abbrev pub are_sizes_wrong : Settings → ParameterValues → Bool
are_sizes_wrong settings theirs = nat_lt most_payload settings.initial_mtu || nat_lt most_payload settings.min_mtu || nat_lt theirs.max_udp_payload_size settings.min_mtu

-- whether two datagrams of the size that a path begins with don't fit the window (RFC 9002, section
-- 7.2)
abbrev pub is_window_small : Settings → ℕ → Bool
is_window_small settings window = nat_lt window (2 * first_mtu (transport_of settings))

-- the most that a round trip may have taken, and may vary, that is told as a first sample: a minute
abbrev pub most_sample : ℕ
most_sample = 60000000000

-- whether a time of a first sample can't be: none, or more than that
abbrev pub is_time_wrong : ℕ → Bool
is_time_wrong time = (time == 0) || nat_lt most_sample time

-- whether a first sample can't be, where one is told (RFC 9002, section 5; the bounds are ours)
abbrev pub is_sample_wrong : Option FirstSample → Bool
is_sample_wrong None = false
is_sample_wrong (Some s) = is_time_wrong s.rtt || is_time_wrong s.variation

-- the least that a key may seal, and may refuse
abbrev pub least_key_limit : ℕ
least_key_limit = 16

-- how many packets the own key may seal, and how many the peer's may refuse
pub record KeyLimits : Type 0 where
  pub seals : ℕ
  pub openings : ℕ

-- those of the keys of an end
abbrev pub limits_of : {H K : Type 0} → (K → ℕ) → (K → ℕ) → Keys H K → KeyLimits
limits_of seal_limit refusal_limit keys = record { seals = seal_limit keys.packet.local; openings = refusal_limit keys.packet.remote }

-- whether the keys last too short
abbrev pub are_keys_short : KeyLimits → Bool
are_keys_short limits = nat_lt limits.seals least_key_limit || nat_lt limits.openings least_key_limit

-- why no end is made, want of memory aside, the first in this order: the peer's parameters can't be
-- read; the own id hasn't eight bytes, or the peer's has none; the sizes of datagrams can't be; the
-- controller's window is too small; the keys last too short; or the first sample can't be
abbrev pub refusal_of : {E : Type 0} → Settings → ℕ → KeyLimits → Result ParameterValues E → List ℕ → List ℕ → Option ConfigError
refusal_of settings window limits (Err e) own_id peer_id = Some config_errors.Parameters
refusal_of settings window limits (Ok theirs) own_id peer_id =
    if not (length own_id == 8) || (length peer_id == 0) then Some config_errors.IdLength
    else (if are_sizes_wrong settings theirs then Some config_errors.Size
    else (if is_window_small settings window then Some config_errors.Window
    else (if are_keys_short limits then Some config_errors.KeyLimit
    else (if is_sample_wrong settings.first_sample then Some config_errors.FirstSample else None))))

-- an end whose peer's address isn't validated asks it to answer the next word of its random source,
-- which answers these words
abbrev pub challenged_unless : Bool → (ℕ → ℕ) → End → End
challenged_unless validated words e =
    let word : ℕ = words (words_drawn e) in
    record e {
      validation = if validated then e.validation else record { challenge = Some word; drawn = e.validation.drawn + 1 };
      waiting = record e.waiting { signals = record e.waiting.signals { challenge = if validated then e.waiting.signals.challenge else Some word } };
      timers = with_path_timer e.timers (if validated then e.timers.path_validation else Some (validation_moment e));
    }

-- an end as it is made at a moment for a peer at this address, whose random source answers these
-- words, and whose controller shows these windows
abbrev pub new_end : Side → Settings → Windows → ParameterValues → List ℕ → List ℕ → ℕ → ℕ → Bool → (ℕ → ℕ) → End
new_end side settings windows theirs own_id peer_id remote now validated words = challenged_unless validated words (silent_end side settings windows theirs own_id peer_id remote now validated words)

-- an end is made of what was read of the peer's parameters
abbrev pub IsMade : {E : Type 0} → Side → Settings → Windows → Result ParameterValues E → List ℕ → List ℕ → ℕ → ℕ → Bool → (ℕ → ℕ) → End → Type 0
IsMade side settings windows (Ok theirs) own_id peer_id remote now validated words e = e ≡ new_end side settings windows theirs own_id peer_id remote now validated words
IsMade side settings windows (Err error) own_id peer_id remote now validated words e = ⊥

-- an end is made of the peer's parameters as bytes
abbrev pub MadeFrom : Side → Settings → Windows → List ℕ → List ℕ → List ℕ → ℕ → ℕ → Bool → (ℕ → ℕ) → End → Type 0
MadeFrom side settings windows bytes own_id peer_id remote now validated words e = IsMade side settings windows (parameters_at bytes) own_id peer_id remote now validated words e
