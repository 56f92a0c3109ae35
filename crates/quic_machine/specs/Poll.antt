-- What an end gives when it is polled (RFC 9000, sections 12.2, 13.3 and 14.1).
use Rattle.std.specs.Prelude.{ℕ, ◌+◌, ◌-◌, ◌*◌, ◌/◌, ◌^◌, ◌≡◌, Bool, true, false, ◌&&◌, ◌||◌, ◌==◌, not, nat_le, nat_lt, if◌then◌else◌, List, [], ◌∷◌, ◌++◌, map, length, replicate, min, max, take, zero, suc, option_map, ◌⊎◌, Option, Some, None, unwrap_or, IsSome, Result, Ok, Err}
use Rattle.std.specs.List.{list_any, fold}
use Rattle.std.specs.Option.{is_some, is_none}
use Rattle.quic_wire_core.specs.declared.shared.EcnCodepoint.{EcnCodepoint}
use Rattle.quic_wire_core.specs.declared.shared.EcnCodepoint.TheVariants.{Ect0}
use Rattle.quic_packet.specs.Number.{truncated}
use Rattle.quic_wire.specs.Value.{FrameValue, AckValue, ack, ping, immediate_ack, ack_frequency, AckFrequencyValue, stream, datagram, path_challenge, path_response, application_close, asks}
use Rattle.quic_wire.specs.Writing.{spelling, spelled_all, frame_size}
use Rattle.quic_wire.specs.Grammar.{Payload}
use Rattle.quic_packet.specs.Datagram.{sent}
use Rattle.quic_retransmits.specs.Retransmits.{nothing_waits, merged}
use Rattle.quic_streams_parts.specs.Table as table
use Rattle.quic_streams_state.specs.State.{streams_of}
use Rattle.quic_streams_state.specs.Waiting.{is_empty, can_send_stream_data}
use Rattle.quic_streams_state.specs.Control as control
use Rattle.quic_streams_state.specs.Frames as of_streams
use Rattle.quic_messages.specs.Messages.{fitting}
use Rattle.quic_machine.specs.declared.answers.State.{State}
use Rattle.quic_machine.specs.declared.answers.Failed.{Failed}
use Rattle.quic_machine.specs.declared.answers.Transmit.{Transmit}
use Rattle.quic_machine.specs.declared.answers.State.TheVariants as states
use Rattle.quic_machine.specs.declared.answers.LostReason.{LostReason}
use Rattle.quic_machine.specs.declared.answers.LostReason.TheVariants as reasons
use Rattle.quic_congestion.specs.Congestion.{Told}
use Rattle.quic_config.specs.Configs.{FrequencySettings, default_frequency}
use Rattle.quic_time.specs.Rtt.{best_rtt}
use Rattle.quic_recovery_core.specs.AckFrequency.{micros, candidate, should_ask}
use Rattle.quic_recovery_core.specs.PendingAcks.{Pending, can_send, is_filled, after_acks_sent, after_lazy}
use Rattle.quic_spaces.specs.Acknowledging.{ack_at}
use Rattle.quic_spaces.specs.Marks.{told_counts}
use Rattle.quic_machine.specs.Tracking.{TrackedPacket, carried_in, after_sent, without_record}
use Rattle.quic_machine.specs.Closing.{ticked, close_owed, close_given}
use Rattle.quic_spaces.specs.Numbers.{can_number, may_give, cut_against}
use Rattle.quic_machine.specs.Idle.{packet_given}
use Rattle.quic_spaces.specs.Records.{first_record}
use Rattle.quic_machine.specs.Policy.{Policy}
use Rattle.quic_machine.specs.Ids.{destination}
use Rattle.quic_machine.specs.Parts.{current_mtu, Signals, signals_wait}
use Rattle.quic_machine.specs.End.{End, words_drawn, with_closing, closed_by, number_of, with_number_given, with_acknowledging, with_frequency, with_frames, with_ack_timer_at, with_tracking, with_loss_timer, with_streams, with_queued, with_waiting, with_signals, with_ping, with_immediate}
use Rattle.quic_paths.specs.Responses.{Response}
use Rattle.quic_machine.specs.Validation.{path_waits, path_frames_size, challenge_frame, response_frame}
use Rattle.quic_machine.specs.Control.{is_window_full, Gated, gated_if, paid, with_pacing_timer, with_app_limited, told_sent}
use Rattle.quic_machine.specs.Sizes.{may_search, search_names, search_asked}

-- ---- what is given

-- The datagram of a packet number, a destination id and frames: its payload is a spelling of them
-- (RFC 9000, sections 12.4 and 17.3.1).
pub record IsDatagram (p : Policy) (acknowledged number : ℕ) (id : List ℕ) (frames : List FrameValue) (datagram : List ℕ) : Type 0 where
  pub payload : List ℕ
  pub spells : Payload frames payload
  pub is : datagram ≡ sent p.header p.packet number acknowledged id payload

-- ---- the answer, the datagram and the end that are left

-- what comes of a poll: what is answered, the datagram that is given, if one is, and the end that
-- is left
pub record Polled : Type 0 where
  pub answer : Result (Option Transmit) Failed
  pub datagram : Option (List ℕ)
  pub end : End

-- nothing is given
abbrev pub gives_nothing : End → Polled
gives_nothing e = record { answer = Ok None; datagram = None; end = e }

-- the mark of a datagram (RFC 9000, section 13.4)
abbrev pub mark_of : Bool → Option EcnCodepoint
mark_of true = Some Ect0
mark_of false = None

-- a datagram, marked ECT(0) while the path is marked
abbrev pub gives_datagram : List ℕ → End → Polled
gives_datagram d e = record { answer = Ok (Some (record { size = length d; ecn = mark_of e.path.marking; remote = e.path.remote })); datagram = Some d; end = e }

-- how many bytes stand beside the frames of the next datagram: header, number and tag
abbrev pub beside_frames : End → ℕ
beside_frames e = 1 + length (destination e.ids) + (truncated (number_of e) (cut_against e.numbers)).width + 16

-- how many bytes an ordinary datagram has at most: the size of the path, and while a PTO probe waits
-- no more than the least size that the path is taken to carry, so that a probe arrives where the
-- path carries less than it did (RFC 8899, section 4.3; RFC 9000, section 14.3)
abbrev pub most_ordinary : End → ℕ
most_ordinary e = if nat_lt 0 e.tracking.probes then min e.transport.min_mtu (current_mtu e.path) else current_mtu e.path

-- how many bytes it has left for frames
abbrev pub frame_room : End → ℕ
frame_room e = most_ordinary e - beside_frames e

-- how many bytes a close has left for its frame: PTO probes that wait don't count for it
abbrev pub close_room : End → ℕ
close_room e = current_mtu e.path - beside_frames e

-- whether a datagram with these frames asks for an acknowledgement (RFC 9000, section 13.2)
abbrev pub asking : List FrameValue → Bool
asking frames = list_any asks frames

-- ---- what goes into a datagram, one frame behind another

-- the frames so far, how they are written, how many bytes the datagram has at least, and the end
-- once they went
pub record Draft : Type 0 where
  pub frames : List FrameValue
  pub bytes : List ℕ
  pub least : ℕ
  pub end : End

-- no frame yet
abbrev pub no_frames : End → Draft
no_frames e = record { frames = []; bytes = []; least = 0; end = e }

-- a datagram of so many bytes at least
abbrev pub with_least : Draft → ℕ → Draft
with_least d least = record d { least = least }

-- a frame that is written so goes behind the others, and leaves this end
abbrev pub with_frame : Draft → FrameValue → List ℕ → End → Draft
with_frame d f bytes e = record d { frames = d.frames ++ f ∷ []; bytes = d.bytes ++ bytes; end = e }

-- whether a frame fits behind those of a draft
abbrev pub fits : Draft → FrameValue → Bool
fits d f = nat_le (length d.bytes + frame_size f) (frame_room d.end)

-- how many bytes the datagram of a signal has at least, where those before it let it have this:
-- 1200 with a frame of path validation (section 8.2)
abbrev pub least_behind : FrameValue → ℕ → ℕ
least_behind (path_challenge token) least = max least path_frames_size
least_behind (path_response token) least = max least path_frames_size
least_behind f least = least

-- a signal goes, which leaves these
abbrev pub with_signal : Draft → FrameValue → Signals → Draft
with_signal d f left = with_least (with_frame d f (spelling f) (with_signals d.end left)) (least_behind f d.least)

-- PATH_CHALLENGE goes if it waits
abbrev pub challenge_if : Option ℕ → Draft → Draft
challenge_if None d = d
challenge_if (Some word) d = with_signal d (challenge_frame word) (record d.end.waiting.signals { challenge = None })

-- PATH_RESPONSE goes if it waits
abbrev pub response_if : Option Response → Draft → Draft
response_if None d = d
response_if (Some r) d = with_signal d (response_frame r) (record d.end.waiting.signals { response = None })

-- PING goes if it waits
abbrev pub ping_if : Bool → Draft → Draft
ping_if true d = with_signal d ping (record d.end.waiting.signals { ping = false })
ping_if false d = d

-- IMMEDIATE_ACK goes if it waits
abbrev pub immediate_if : Bool → Draft → Draft
immediate_if true d = with_signal d immediate_ack (record d.end.waiting.signals { immediate = false })
immediate_if false d = d

-- each where it waits
abbrev pub with_challenge_frame : Draft → Draft
with_challenge_frame d = challenge_if d.end.waiting.signals.challenge d

-- PATH_RESPONSE goes, where it waits
abbrev pub with_response_frame : Draft → Draft
with_response_frame d = response_if d.end.waiting.signals.response d

-- PING goes, where it waits
abbrev pub with_ping_frame : Draft → Draft
with_ping_frame d = ping_if d.end.waiting.signals.ping d

-- IMMEDIATE_ACK goes, where it waits
abbrev pub with_immediate_frame : Draft → Draft
with_immediate_frame d = immediate_if d.end.waiting.signals.immediate d

-- the signals that wait go: those of path validation, PING, and IMMEDIATE_ACK
abbrev pub with_signal_frames : Draft → Draft
with_signal_frames d = with_immediate_frame (with_ping_frame (with_response_frame (with_challenge_frame d)))

-- the greatest number that has a form as a variable-length integer, or a lesser one (RFC 9000,
-- section 16)
abbrev pub written : ℕ → ℕ
written n = min n (2 ^ 62 - 1)

-- the same settings with a delay in whole microseconds, as frames say it: so what is asked for and
-- what is wanted is compared in one unit
abbrev pub in_micros : FrequencySettings → FrequencySettings
in_micros s = record s { max_delay = option_map (λ nanos. nanos / 1000 * 1000) s.max_delay }

-- how the peer is asked to acknowledge: as an end is configured, which asks it
abbrev pub frequency_settings : End → FrequencySettings
frequency_settings e = in_micros (unwrap_or e.transport.ack_frequency_config default_frequency)

-- what ACK_FREQUENCY says: its number, one after another; and what the end is configured to, with
-- the delay of this moment in whole microseconds (QUIC Acknowledgement Frequency, section 4)
abbrev pub request_of : End → AckFrequencyValue
request_of e =
    let settings = frequency_settings e in
    record {
      sequence = written e.frequency.next;
      threshold = written settings.threshold;
      delay = written (candidate e.frequency (best_rtt e.path.rtt) settings e.peer_params / 1000);
      reordering = written settings.reordering;
    }

-- how many requests have a number of their own
abbrev pub most_requests : ℕ
most_requests = 2 ^ 62

-- the end after it went in the next datagram: it waits no more, and until the peer acknowledges it,
-- it isn't known to which delay the peer keeps
abbrev pub after_request : End → End
after_request e =
    with_frequency (with_frames e (record e.waiting.frames { ack_frequency = false })) (record e.frequency { next = min (e.frequency.next + 1) most_requests; in_flight = Some (record { packet = number_of e; delay = micros (request_of e).delay }) })

-- ACK_FREQUENCY goes
abbrev pub with_request : Draft → Draft
with_request d = with_frame d (ack_frequency (request_of d.end)) (spelling (ack_frequency (request_of d.end))) (after_request d.end)

-- ACK_FREQUENCY goes if it waits
abbrev pub request_if : Bool → Draft → Draft
request_if true d = with_request d
request_if false d = d

-- ACK_FREQUENCY goes, where it waits
abbrev pub with_frequency_frame : Draft → Draft
with_frequency_frame d = request_if d.end.waiting.frames.ack_frequency d

-- frames of control behind those of a draft, which leave these streams, and this to be sent besides
abbrev pub behind_control : Draft → control.Draft → Draft
behind_control d c = record d { frames = d.frames ++ c.frames; bytes = d.bytes ++ spelled_all c.frames; end = with_streams d.end (streams_of c.state c.pending) }

-- what waits beside the bytes of streams goes, kind by kind, where it fits (RFC 9000, section 13.3)
abbrev pub with_control_frames : Draft → Draft
with_control_frames d = behind_control d (control.control_frames (frame_room d.end) (length d.bytes) d.end.streams d.end.waiting.frames nothing_waits)

-- a message goes, which leaves these to be sent
abbrev pub with_message : Draft → List ℕ → List (List ℕ) → Draft
with_message d m ms = with_frame d (datagram m) (spelling (datagram m)) (with_queued d.end (record d.end.messages.queues { outgoing = ms }))

-- of the messages that wait, the oldest go, one behind another, up to the first that doesn't fit
-- (RFC 9221, section 5)
abbrev pub with_messages_of : List (List ℕ) → Draft → Draft
with_messages_of [] d = d
with_messages_of (m ∷ ms) d = if fits d (datagram m) then with_messages_of ms (with_message d m ms) else d

-- messages go while they fit
abbrev pub with_message_frames : Draft → Draft
with_message_frames d = with_messages_of d.end.messages.queues.outgoing d

-- STREAM frames behind the frames of a draft, which leave these streams
abbrev pub behind_stream : Draft → of_streams.Sent → Draft
behind_stream d t = record d { frames = d.frames ++ map stream t.frames; bytes = d.bytes ++ t.bytes; end = record d.end { streams = t.state } }

-- how many bytes are left behind the frames of a draft
abbrev pub left : Draft → ℕ
left d = frame_room d.end - length d.bytes

-- no STREAM frame yet
abbrev pub no_stream_frames : Draft → of_streams.Sent
no_stream_frames d = record { frames = []; bytes = []; state = d.end.streams }

-- frames of streams go while one has something to send and there is room
abbrev pub with_stream_frames : Draft → Draft
with_stream_frames d = behind_stream d (of_streams.with_stream_frames d.end.transport.send_fairness (left d) (no_stream_frames d))

-- what an ACK frame says at the moment of the end (RFC 9000, section 19.3)
abbrev pub ack_of : End → AckValue
ack_of e = ack_at e.acknowledging e.closing.clock (told_counts e.marks.came)

-- the end after an acknowledgement went
abbrev pub after_ack : End → End
after_ack e = with_acknowledging (with_ack_timer_at e None) (after_acks_sent e.acknowledging)

-- ACK goes
abbrev pub with_ack : Draft → Draft
with_ack d = with_frame d (ack (ack_of d.end)) (spelling (ack (ack_of d.end))) (after_ack d.end)

-- whether there is a number to acknowledge, and its frame fits behind a draft's
abbrev pub ack_fits : Draft → Bool
ack_fits d = is_filled d.end.acknowledging.runs && fits d (ack (ack_of d.end))

-- ACK goes along
abbrev pub ack_if : Bool → Draft → Draft
ack_if true d = with_ack d
ack_if false d = d

-- what asks for an acknowledgement: signals, the request of how often to acknowledge, what has to
-- be told of streams, messages, and the bytes of streams
pub data Kind : Type 0 where
  signals : Kind
  frequency : Kind
  controls : Kind
  messages : Kind
  streams : Kind

-- the kinds, in the order in which they go
abbrev pub order : List Kind
order = signals ∷ frequency ∷ controls ∷ messages ∷ streams ∷ []

-- what waits of a kind goes behind the frames of a draft, where it fits
abbrev pub put : Draft → Kind → Draft
put d signals = with_signal_frames d
put d frequency = with_frequency_frame d
put d controls = with_control_frames d
put d messages = with_message_frames d
put d streams = with_stream_frames d

-- what asks goes, kind by kind
abbrev pub with_asking : Draft → Draft
with_asking d = fold put d order

-- an ACK that isn't due goes behind what asks, where it fits
abbrev pub with_late_ack : Draft → Draft
with_late_ack d = ack_if (ack_fits d) d

-- a due ACK goes before what asks
abbrev pub composed_if : Bool → End → Draft
composed_if true e = with_asking (with_ack (no_frames e))
composed_if false e = with_late_ack (with_asking (no_frames e))

-- what goes into the next datagram, in this order
abbrev pub composed : End → Draft
composed e = composed_if (can_send e.acknowledging) e

-- PING goes as a probe of a size, and what waits goes on waiting (RFC 8899, section 4.1)
abbrev pub probing : ℕ → End → Draft
probing size e = with_frame (with_least (no_frames e) size) ping (spelling ping) e

-- how many bytes the number has
abbrev pub number_width : Draft → ℕ
number_width d = (truncated (number_of d.end) (cut_against d.end.numbers)).width

-- how many bytes stand beside the payload: header, number and tag
abbrev pub overhead : Draft → ℕ
overhead d = 1 + length (destination d.end.ids) + number_width d + 16

-- how many bytes the datagram has at least: those that ask have as many as an ordinary datagram has
-- at most, where that is set
abbrev pub least_size : Draft → ℕ
least_size d = if d.end.transport.pad_to_mtu && asking d.frames then max d.least (most_ordinary d.end) else d.least

-- how many bytes 0 stand behind the frames: number and payload have four bytes at least, so that
-- the sample stands in the datagram (RFC 9001, section 5.4.2), and the datagram has its size
abbrev pub zeros_behind : Draft → ℕ
zeros_behind d = max (4 - (number_width d + length d.bytes)) (least_size d - (overhead d + length d.bytes))

-- its payload
abbrev pub payload_of : Draft → List ℕ
payload_of d = d.bytes ++ replicate (zeros_behind d) 0

-- the datagram with these frames
abbrev pub datagram_of : Policy → Draft → List ℕ
datagram_of p d = sent p.header p.packet (number_of d.end) (cut_against d.end.numbers) (destination d.end.ids) (payload_of d)

-- how many bytes the datagram has: header, number, payload and tag
abbrev pub datagram_size : Draft → ℕ
datagram_size d = overhead d + length (payload_of d)

-- the packet as it is tracked: it is in flight where it asks for an acknowledgement (RFC 9002,
-- section 2)
abbrev pub packet_of : Draft → TrackedPacket
packet_of d = record {
  generation = d.end.path.generation;
  time_sent = d.end.closing.clock;
  size = if asking d.frames then datagram_size d else 0;
  asks = asking d.frames;
  carried = carried_in d.frames;
}

-- the end after its frames went: the packet is tracked
abbrev pub tracked : Draft → End
tracked d = with_tracking d.end (after_sent d.end.tracking (number_of d.end) (packet_of d))

-- the datagram takes tokens of the pacer where it asks (RFC 9002, section 7.7)
abbrev pub paid_if : Bool → End → ℕ → End
paid_if true e size = paid e size
paid_if false e size = e

-- the end after it went: the times without a packet may begin anew (RFC 9000, section 10.1)
abbrev pub after_given : Policy → Draft → End
after_given p d = with_loss_timer (with_app_limited (packet_given (asking d.frames) (paid_if (asking d.frames) (with_number_given (p.words (words_drawn d.end)) (tracked d)) (datagram_size d))) false)

-- ---- what waits

-- where the peer takes IMMEDIATE_ACK, which it tells by min_ack_delay, that waits for each probe
-- (QUIC Acknowledgement Frequency, sections 3 and 5)
abbrev pub hastened : End → End
hastened e = with_immediate e (is_some e.peer_params.min_ack_delay || e.waiting.signals.immediate)

-- PING waits, unless IMMEDIATE_ACK does, which asks for an acknowledgement as well
abbrev pub ping_unless : Bool → End → End
ping_unless true e = e
ping_unless false e = with_ping e true

-- a probe goes (RFC 9002, section 6.2.4): what has to be sent again of a packet, if there is such a
-- packet, waits once more, and the packet stays tracked; else PING waits, unless IMMEDIATE_ACK does
abbrev pub record_moved : Option (ℕ × TrackedPacket) → End → End
record_moved None e = ping_unless e.waiting.signals.immediate e
record_moved (Some p) e = with_waiting (with_tracking e (record e.tracking { packets = table.put e.tracking.packets p.0 (without_record p.1) }))
    (record e.waiting { frames = merged e.waiting.frames p.1.carried.retransmits })

-- where nothing waits to be told
abbrev pub probe_filled : Bool → End → End
probe_filled true e = record_moved (first_record e.streams e.tracking.packets) e
probe_filled false e = e

-- where probes wait
abbrev pub probe_if : Bool → End → End
probe_if true e = probe_filled (is_empty e.waiting.frames e.streams) (hastened e)
probe_if false e = e

-- the end where something waits for each probe to carry
abbrev pub probed : End → End
probed e = probe_if (nat_lt 0 e.tracking.probes) e

-- whether an end that is configured so asks its peer anew how often to acknowledge: one that takes
-- ACK_FREQUENCY, which it tells by min_ack_delay (QUIC Acknowledgement Frequency, section 3)
abbrev pub asks_anew : Option FrequencySettings → End → Bool
asks_anew None e = false
asks_anew (Some settings) e = is_some e.peer_params.min_ack_delay && should_ask e.frequency (best_rtt e.path.rtt) (in_micros settings) e.peer_params

-- the end where ACK_FREQUENCY waits, if it did or is to go
abbrev pub request_queued : End → End
request_queued e = with_frames e (record e.waiting.frames { ack_frequency = asks_anew e.transport.ack_frequency_config e || e.waiting.frames.ack_frequency })

-- how many bytes are left for frames at least, whichever number a datagram has: one takes four
-- bytes at most
abbrev pub least_room : End → ℕ
least_room e = most_ordinary e - (length (destination e.ids) + 21)

-- whether a message waits that a datagram takes
abbrev pub message_waits : End → Bool
message_waits e = is_some (fitting (least_room e) e.messages.queues.outgoing)

-- whether something waits beside acknowledgements: a signal, what has to be told of streams, a
-- message, or the bytes of streams
abbrev pub asks_to_go : End → Bool
asks_to_go e = signals_wait e.waiting.signals || (not (is_empty e.waiting.frames e.streams) || (message_waits e || can_send_stream_data e.streams))

-- whether anything waits to be sent
abbrev pub waits : End → Bool
waits e = can_send e.acknowledging || asks_to_go e

-- ---- what window and pacer hold back (RFC 9002, sections 7 and 7.7)

-- whether they may hold something back: something waits that asks, and no probe, which passes both
-- (section 7.5)
abbrev pub is_gated : End → Bool
is_gated e = asks_to_go e && (e.tracking.probes == 0)

-- what becomes of what asks
abbrev pub gated : End → Gated
gated e = gated_if (is_gated e) e

-- ---- what goes, if anything

-- all that waits; where what asks is held back, a due ACK alone; PING as a probe of a size; a
-- close; or nothing: it is held back, or nothing waits
pub data Leaving : Type 0 where
  whole : Leaving
  alone : Leaving
  probe : (size : ℕ) → Leaving
  closing : FrameValue → Leaving
  nothing : (held : Bool) → Leaving

-- what goes, and the end that it leaves
pub record Ready : Type 0 where
  pub leaving : Leaving
  pub end : End

-- a probe of the size that the search names, if it names one
abbrev pub probe_named : Option ℕ → Leaving
probe_named None = nothing false
probe_named (Some size) = probe size

-- where nothing waits, the search for a size is asked, if it may be
abbrev pub searched_if : Bool → End → Ready
searched_if true e = record { leaving = probe_named (search_names e); end = search_asked e }
searched_if false e = record { leaving = nothing false; end = e }

-- where nothing is held back, all goes that waits
abbrev pub free_if : Bool → End → Ready
free_if true e = record { leaving = whole; end = e }
free_if false e = searched_if (may_search e) e

-- where what asks is held back, a due ACK goes
abbrev pub held_if : Bool → End → Ready
held_if true e = record { leaving = alone; end = e }
held_if false e = record { leaving = nothing true; end = e }

-- by whether what asks is held back
abbrev pub leaves_if : Bool → End → Ready
leaves_if true e = held_if (can_send e.acknowledging) e
leaves_if false e = free_if (waits e) e

-- what goes where window and pacer were asked
abbrev pub leaves : Gated → Ready
leaves g = leaves_if g.held g.end

-- nothing goes, whatever waits, where three times what came went to an address that isn't validated
-- (RFC 9000, section 8.1): that isn't held back by window or pacer
abbrev pub leaves_unless : Bool → End → Ready
leaves_unless true e = record { leaving = nothing false; end = e }
leaves_unless false e = leaves (gated e)

-- so it is where the end has read that
abbrev pub leaves_at : End → Ready
leaves_at e = leaves_unless e.path.blocked e

-- an end is ready to give: the timer of its pacer is stopped, what a probe carries waits, and so
-- does the request of how often to acknowledge, if there is to be one; the limit on an address that
-- isn't validated, window and pacer were asked, and where nothing waits the search for a size
abbrev pub ready : End → Ready
ready e = leaves_at (request_queued (probed (with_pacing_timer e None)))

-- whether a datagram goes
abbrev pub goes_as : Leaving → Bool
goes_as whole = true
goes_as alone = true
goes_as (probe size) = true
goes_as (closing f) = true
goes_as (nothing held) = false

-- so it is of an end that is ready
abbrev pub goes : Ready → Bool
goes g = goes_as g.leaving

-- whether nothing goes since it is held back
abbrev pub is_held : Leaving → Bool
is_held whole = false
is_held alone = false
is_held (probe size) = false
is_held (closing f) = false
is_held (nothing held) = held

-- An end has nothing to send but what window or pacer hold back, the pacer until its timer expires,
-- and no probe waits; or three times what came went to an address that isn't validated.
pub record IsSilent (e : End) : Type 0 where
  pub no_ack : e.path.blocked ≡ false → can_send e.acknowledging ≡ false
  pub no_probe : e.path.blocked ≡ false → e.tracking.probes ≡ 0
  pub held : e.path.blocked ≡ false → asks_to_go e ≡ true → (is_window_full e ≡ true) ⊎ IsSome e.timers.pacing

-- before a packet is composed, an acknowledgement is due where many packets came that don't ask for
-- one (RFC 9000, section 13.2.1)
abbrev pub lazied : End → End
lazied e = with_acknowledging e (after_lazy e.acknowledging)

-- a probe of a size and a close carry none, so that none is due for them
abbrev pub lazy_as : Leaving → Pending → Pending
lazy_as whole p = after_lazy p
lazy_as alone p = after_lazy p
lazy_as (probe size) p = p
lazy_as (closing f) p = p
lazy_as (nothing held) p = p

-- the end of which it goes
abbrev pub lazied_as : Leaving → End → End
lazied_as leaving e = with_acknowledging e (lazy_as leaving e.acknowledging)

-- the frames of what goes
abbrev pub draft_left : Leaving → End → Draft
draft_left whole e = composed e
draft_left alone e = with_ack (no_frames e)
draft_left (probe size) e = probing size e
draft_left (closing f) e = with_frame (no_frames e) f (spelling f) e
draft_left (nothing held) e = no_frames e

-- what goes of an end
abbrev pub draft_as : Leaving → End → Draft
draft_as leaving e = draft_left leaving (lazied_as leaving e)

-- what goes of an end that is ready
abbrev pub draft_of : Ready → Draft
draft_of g = draft_as g.leaving g.end

-- how many bytes its datagram has at least by itself, where it has a frame of path validation or
-- none
abbrev pub least_by : Leaving → Bool → ℕ
least_by whole pads = if pads then path_frames_size else 0
least_by alone pads = 0
least_by (probe size) pads = size
least_by (closing f) pads = 0
least_by (nothing held) pads = 0

-- so it is of an end: what waits of them goes with the rest
abbrev pub least_left : Leaving → End → ℕ
least_left leaving e = least_by leaving (path_waits e)

-- how many bytes the datagram of what goes has at most: as many as an ordinary one, those of a probe
-- of a size, or the size of the path
abbrev pub most_of : Leaving → End → ℕ
most_of whole e = most_ordinary e
most_of alone e = most_ordinary e
most_of (probe size) e = max size (current_mtu e.path)
most_of (closing f) e = current_mtu e.path
most_of (nothing held) e = current_mtu e.path

-- ---- how long numbers and keys last (RFC 9000, section 12.3; RFC 9001, section 6.6)

-- how many packets that may be sealed are kept for closes
abbrev pub kept_seals : ℕ
kept_seals = 8

-- whether the key may seal one more ordinary packet
abbrev pub may_seal : Policy → End → Bool
may_seal p e = nat_lt (e.numbers.sealed + kept_seals) p.seals

-- why no ordinary datagram may be given any more, if none may: the numbers are used up, or the key
-- is
abbrev pub bounds : Policy → End → Option LostReason
bounds p e = if not (can_number e.numbers) then Some reasons.NumberLimit else (if not (may_seal p e) then Some reasons.KeyLimit else None)

-- whether there is a number and a seal for one more close
abbrev pub can_close : Policy → End → Bool
can_close p e = may_give e.numbers (number_of e) && nat_lt e.numbers.sealed p.seals

-- whether it may go besides: no more than three times what came goes to an address that isn't
-- validated (section 8.1)
abbrev pub may_close : Policy → End → Bool
may_close p e = not e.path.blocked && can_close p e

-- ---- closes (RFC 9000, sections 10.2.1 and 19.19)

-- the application's close with so much of its text
abbrev pub close_with : ℕ → List ℕ → ℕ → FrameValue
close_with code text n = application_close (record { code = code; reason = take n text })

-- of the beginnings of a text that have so many bytes at most, the length of the longest with which
-- the application's close has room in so many bytes
abbrev pub longest_fitting : ℕ → ℕ → List ℕ → ℕ → ℕ
longest_fitting room code text zero = 0
longest_fitting room code text (suc n) = if nat_le (frame_size (close_with code text (suc n))) room then suc n else longest_fitting room code text n

-- a close as it goes in so many bytes: of the application's text as much as fits
abbrev pub fitted : ℕ → FrameValue → FrameValue
fitted room (application_close c) = close_with c.code c.reason (longest_fitting room c.code c.reason (length c.reason))
fitted room f = f

-- the end after a close went: its number is given, it isn't tracked, takes no tokens of the pacer,
-- and isn't owed any more
abbrev pub after_close : Policy → Draft → End
after_close p d = with_closing (with_number_given (p.words (words_drawn d.end)) d.end) (close_given d.end.closing)

-- a close goes, if there is one to go
abbrev pub closes_if : Option FrameValue → Policy → End → Polled
closes_if None p e = gives_nothing e
closes_if (Some f) p e = gives_datagram (datagram_of p (draft_as (closing f) e)) (after_close p (draft_as (closing f) e))

-- the close that goes: the one that is owed, where it may go
abbrev pub close_to_go : Policy → End → Option FrameValue
close_to_go p e = if may_close p e then option_map (fitted (close_room e)) (close_owed e.closing) else None

-- what an end gives that closes or is closing
abbrev pub closes : Policy → End → Polled
closes p e = closes_if (close_to_go p e) p e

-- something goes: where numbers or key are used up, the end closes instead
abbrev pub sends : Option LostReason → Policy → Ready → Polled
sends None p g = gives_datagram (datagram_of p (draft_of g)) (after_given p (draft_of g))
sends (Some reason) p g = closes p (closed_by reason g.end)

-- nothing goes: for want of anything to send, or since it is held back
abbrev pub rests : Ready → End
rests g = with_app_limited g.end (not (is_held g.leaving))

-- what goes does, if anything
abbrev pub polled_if : Bool → Policy → Ready → Polled
polled_if true p g = sends (bounds p g.end) p g
polled_if false p g = gives_nothing (rests g)

-- what an open end gives
abbrev pub polled_open : Policy → End → Polled
polled_open p e = polled_if (goes (ready e)) p (ready e)

-- what an end gives by its state
abbrev pub polled_in : State → Policy → End → ℕ → Polled
polled_in states.Open p e now = polled_open p (with_closing e (ticked e.closing now))
polled_in states.Closing p e now = closes p (with_closing e (ticked e.closing now))
polled_in states.Drained p e now = gives_nothing e
polled_in states.Failed p e now = record { answer = Err (record {}); datagram = None; end = e }

-- what an end gives at a moment
abbrev pub polled : Policy → End → ℕ → Polled
polled p e now = polled_in e.closing.state p e now

-- ---- what the controller is told (RFC 9002, section 7)

-- of a datagram with these frames
abbrev pub told_draft : Draft → List Told
told_draft d = told_sent (asking d.frames) d.end (datagram_size d) (number_of d.end)

-- of what goes of an end that is ready, if anything does
abbrev pub told_if : Bool → Ready → List Told
told_if true g = told_draft (draft_of g)
told_if false g = []

-- of a poll of an end in a state
abbrev pub told_polled_in : State → Policy → End → ℕ → List Told
told_polled_in states.Open p e now =
    let g = ready (with_closing e (ticked e.closing now)) in
    told_if (goes g && is_none (bounds p g.end)) g
told_polled_in state p e now = []

-- of a poll at a moment
abbrev pub told_polled : Policy → End → ℕ → List Told
told_polled p e now = told_polled_in e.closing.state p e now
