-- What the frames that are sent say, and which bytes stand behind so many others.
use Rattle.std.specs.Prelude.{ℕ, ◌+◌, ◌-◌, Bool, true, false, ◌&&◌, nat_le, if◌then◌else◌, List, [], ◌∷◌, ◌++◌, map, length, Option, Some, None}
use Rattle.quic_wire.specs.Value.{FrameValue, ack, ping, immediate_ack, ack_frequency, stream, datagram}
use Rattle.quic_wire.specs.Writing.{spelling, spelled_all, frame_size}
use Rattle.quic_recovery_core.specs.PendingAcks.{is_filled}
use Rattle.quic_retransmits.specs.Retransmits.{Retransmits, nothing_waits}
use Rattle.quic_streams_state.specs.declared.state.StreamsState.{StreamsState}
use Rattle.quic_streams_state.specs.State.{Streams, streams_of}
use Rattle.quic_streams_state.specs.Control as control
use Rattle.quic_streams_state.specs.Frames as of_streams
use Rattle.quic_messages.specs.Messages.{frame_bytes}
use Rattle.quic_machine.specs.Tracking.{Carried, TrackedPacket, after_sent}
use Rattle.quic_paths.specs.Responses.{Response}
use Rattle.quic_machine.specs.Validation.{path_waits, challenge_sent, response_sent, challenge_frame, response_frame}
use Rattle.quic_machine.specs.Parts.{Signals}
use Rattle.quic_machine.specs.Poll.{Draft, whole, least_by, frame_room, ack_of, after_ack, request_of, after_request}
use Rattle.quic_machine.specs.End.{End, number_of, with_tracking, with_streams, with_queued, with_ping, with_immediate}

-- ---- messages, and frames about streams, behind so many bytes of a payload that may have so many in all

-- those of control, and what they leave
unfoldable pub control_part : ℕ → ℕ → StreamsState → Retransmits → control.Draft
control_part most used s p = control.control_frames most used s p nothing_waits

-- of messages that wait, the oldest that fit one behind another (RFC 9221, section 5)
unfoldable pub message_part : ℕ → ℕ → List (List ℕ) → List (List ℕ)
message_part most used [] = []
message_part most used (m ∷ ms) = if nat_le (used + frame_bytes m) most then m ∷ message_part most (used + frame_bytes m) ms else []

-- those that stay
unfoldable pub messages_left : ℕ → ℕ → List (List ℕ) → List (List ℕ)
messages_left most used [] = []
messages_left most used (m ∷ ms) = if nat_le (used + frame_bytes m) most then messages_left most (used + frame_bytes m) ms else m ∷ ms

-- how many bytes stand there once frames of control went
abbrev pub behind_control : ℕ → ℕ → StreamsState → Retransmits → ℕ
behind_control most used s p = used + length (spelled_all (control_part most used s p).frames)

-- the frames of the messages behind those of control
unfoldable pub message_frames : ℕ → ℕ → StreamsState → Retransmits → List (List ℕ) → List FrameValue
message_frames most used s p ms = map datagram (message_part most (behind_control most used s p) ms)

-- the STREAM frames behind them
unfoldable pub stream_part : Bool → ℕ → ℕ → StreamsState → Retransmits → List (List ℕ) → of_streams.Sent
stream_part fair most used s p ms = of_streams.stream_frames_in fair (most - (behind_control most used s p + length (spelled_all (message_frames most used s p ms)))) (control_part most used s p).state

-- all of them: the frames, how they are written, and the streams and the messages that they leave
pub record Content : Type 0 where
  pub frames : List FrameValue
  pub bytes : List ℕ
  pub streams : Streams
  pub outgoing : List (List ℕ)

-- all of it, in a datagram of at most so many bytes that has so many used
unfoldable pub content : Bool → ℕ → ℕ → StreamsState → Retransmits → List (List ℕ) → Content
content fair most used s p ms = record {
  frames = (control_part most used s p).frames ++ (message_frames most used s p ms ++ map stream (stream_part fair most used s p ms).frames);
  bytes = spelled_all (control_part most used s p).frames ++ (spelled_all (message_frames most used s p ms) ++ (stream_part fair most used s p ms).bytes);
  streams = streams_of (stream_part fair most used s p ms).state (control_part most used s p).pending;
  outgoing = messages_left most (behind_control most used s p) ms;
}

-- those of an end
abbrev pub content_at : End → ℕ → Content
content_at e used = content e.transport.send_fairness (frame_room e) used e.streams e.waiting.frames e.messages.queues.outgoing

-- the end that they leave
abbrev pub with_content : End → Content → End
with_content e c = with_queued (with_streams e c.streams) (record e.messages.queues { outgoing = c.outgoing })

-- ---- frames of path validation

-- PATH_CHALLENGE, where it waits
abbrev pub challenge_list : Option ℕ → List FrameValue
challenge_list None = []
challenge_list (Some word) = challenge_frame word ∷ []

-- PATH_RESPONSE, where it waits
abbrev pub response_list : Option Response → List FrameValue
response_list None = []
response_list (Some r) = response_frame r ∷ []

-- both, each where it waits
abbrev pub path_frames : End → List FrameValue
path_frames e = challenge_list e.waiting.signals.challenge ++ response_list e.waiting.signals.response

-- how they are written
abbrev pub path_bytes : End → List ℕ
path_bytes e = spelled_all (path_frames e)

-- the end after PATH_CHALLENGE went, where it waits
abbrev pub challenge_gone : Option ℕ → End → End
challenge_gone None e = e
challenge_gone (Some word) e = challenge_sent e

-- the end after PATH_RESPONSE went, where it waits
abbrev pub response_gone : Option Response → End → End
response_gone None e = e
response_gone (Some r) e = response_sent e

-- the end after both went, each where it waits
abbrev pub paths_sent : End → End
paths_sent e = response_gone e.waiting.signals.response (challenge_gone e.waiting.signals.challenge e)

-- ---- PING

-- PING, where it waits
abbrev pub ping_list : Bool → List FrameValue
ping_list true = ping ∷ []
ping_list false = []

-- how it is written
abbrev pub ping_bytes : Bool → List ℕ
ping_bytes true = spelling ping
ping_bytes false = []

-- the end after PING went, where it waits
abbrev pub end_after_ping_if : Bool → End → End
end_after_ping_if true e = with_ping e false
end_after_ping_if false e = e

-- the end after PING went if it waits
abbrev pub pinged : End → End
pinged e = end_after_ping_if e.waiting.signals.ping e

-- ---- PING and IMMEDIATE_ACK

-- IMMEDIATE_ACK, where it waits
abbrev pub immediate_list : Bool → List FrameValue
immediate_list true = immediate_ack ∷ []
immediate_list false = []

-- how it is written
abbrev pub immediate_bytes : Bool → List ℕ
immediate_bytes true = spelling immediate_ack
immediate_bytes false = []

-- the end after IMMEDIATE_ACK went, where it waits
abbrev pub end_after_immediate_if : Bool → End → End
end_after_immediate_if true e = with_immediate e false
end_after_immediate_if false e = e

-- PING and IMMEDIATE_ACK, each where it waits
abbrev pub bare_list : Signals → List FrameValue
bare_list s = ping_list s.ping ++ immediate_list s.immediate

-- how they are written
abbrev pub bare_bytes : Signals → List ℕ
bare_bytes s = ping_bytes s.ping ++ immediate_bytes s.immediate

-- the end after both went, each where it waits
abbrev pub bare_sent : End → End
bare_sent e = end_after_immediate_if e.waiting.signals.immediate (pinged e)

-- ---- ACK_FREQUENCY

-- ACK_FREQUENCY of an end, where it waits
abbrev pub request_list : Bool → End → List FrameValue
request_list true e = ack_frequency (request_of e) ∷ []
request_list false e = []

-- how it is written
abbrev pub request_bytes : Bool → End → List ℕ
request_bytes true e = spelling (ack_frequency (request_of e))
request_bytes false e = []

-- the end after ACK_FREQUENCY went, where it waits
abbrev pub end_after_request_if : Bool → End → End
end_after_request_if true e = after_request e
end_after_request_if false e = e

-- the end after ACK_FREQUENCY went if it waits
abbrev pub request_gone : End → End
request_gone e = end_after_request_if e.waiting.frames.ack_frequency e

-- what a datagram carried, where ACK_FREQUENCY went before the rest or didn't
abbrev pub with_request : Bool → Carried → Carried
with_request b c = record c { retransmits = record c.retransmits { ack_frequency = b } }

-- ---- what asks

-- what asks for an acknowledgement behind so many bytes of a payload: ACK_FREQUENCY, and the others
-- behind it; how they are written, and the end that they leave
unfoldable pub asked_behind_signals : End → ℕ → Draft
asked_behind_signals e used = record {
  frames = request_list e.waiting.frames.ack_frequency e ++ (content_at (request_gone e) (used + length (request_bytes e.waiting.frames.ack_frequency e))).frames;
  bytes = request_bytes e.waiting.frames.ack_frequency e ++ (content_at (request_gone e) (used + length (request_bytes e.waiting.frames.ack_frequency e))).bytes;
  least = 0;
  end = with_content (request_gone e) (content_at (request_gone e) (used + length (request_bytes e.waiting.frames.ack_frequency e)));
}

-- the same behind PING and IMMEDIATE_ACK, each of which goes where it waits
unfoldable pub asked_behind_paths : End → ℕ → Draft
asked_behind_paths e used = record {
  frames = bare_list e.waiting.signals ++ (asked_behind_signals (bare_sent e) (used + length (bare_bytes e.waiting.signals))).frames;
  bytes = bare_bytes e.waiting.signals ++ (asked_behind_signals (bare_sent e) (used + length (bare_bytes e.waiting.signals))).bytes;
  least = 0;
  end = (asked_behind_signals (bare_sent e) (used + length (bare_bytes e.waiting.signals))).end;
}

-- the same behind frames of path validation, each of which goes where it waits
unfoldable pub asked : End → ℕ → Draft
asked e used = record {
  frames = path_frames e ++ (asked_behind_paths (paths_sent e) (used + length (path_bytes e))).frames;
  bytes = path_bytes e ++ (asked_behind_paths (paths_sent e) (used + length (path_bytes e))).bytes;
  least = least_by whole (path_waits e);
  end = (asked_behind_paths (paths_sent e) (used + length (path_bytes e))).end;
}

-- ---- ACK

-- whether there is a number to acknowledge, and its frame fits where so many bytes are used
abbrev pub fits_behind : End → ℕ → Bool
fits_behind e used = is_filled e.acknowledging.runs && nat_le (used + frame_size (ack (ack_of e))) (frame_room e)

-- how an ACK frame is written, where it goes
abbrev pub ack_bytes_if : Bool → End → List ℕ
ack_bytes_if true e = spelling (ack (ack_of e))
ack_bytes_if false e = []

-- the end after it went, where it goes
abbrev pub end_after_ack_if : Bool → End → End
end_after_ack_if true e = after_ack e
end_after_ack_if false e = e

-- ---- what went, to be known when it is acknowledged or lost

-- the greatest number of an ACK frame, where it goes
abbrev pub acked_if : Bool → End → Option ℕ
acked_if true e = Some (ack_of e).largest
acked_if false e = None

-- a packet of so many bytes as it is tracked, which asks for an acknowledgement or doesn't, and
-- carries this
abbrev pub packet_as : Bool → ℕ → Carried → End → TrackedPacket
packet_as asks size carried e = record { generation = e.path.generation; time_sent = e.closing.clock; size = if asks then size else 0; asks = asks; carried = carried }

-- the end after it went
abbrev pub tracked_as : Bool → ℕ → Carried → End → End
tracked_as asks size carried e = with_tracking e (after_sent e.tracking (number_of e) (packet_as asks size carried e))
