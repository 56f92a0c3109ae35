-- What may be put into a draft, each a value: the frames that go, and what waits and is dropped.
use Rattle.std.proofs.Common.{◌≡◌, ℕ, ◌≤◌, List, [], ◌∷◌, true, false, Some, None, ◌⊎◌}
use Rattle.std.specs.Prelude.{nat_le}
use Rattle.quic_wire.specs.Value.{FrameValue, ConnectionCloseValue, ApplicationCloseValue}
use Rattle.quic_wire.specs.Value as values
use Rattle.quic_wire.specs.Writing.{spelling, stream_spelling, Fits, frame_size}
use Rattle.quic_send_buffer.specs.Buffered.{writes_length}
use Rattle.quic_streams_parts.specs.Table.{at}
use Rattle.quic_streams_parts.specs.SendHalf.{SendHalf, frame_of, frame_counts}
use Rattle.quic_streams_parts.specs.Queue.{first_queued}
use Rattle.quic_retransmits.specs.declared.retransmits.ControlKind.{ControlKind}
use Rattle.quic_streams_state.specs.State.{streams_of}
use Rattle.quic_streams_state.specs.Control.{without_first, frame_told}
use Rattle.quic_streams_state.specs.Frames as of_streams
use Rattle.quic_streams_laws.specs.KindLaws.{GoesFirst}
use Rattle.quic_recovery_core.specs.PendingAcks.{is_filled}
use Rattle.quic_paths.specs.Responses.{Response}
use Rattle.quic_machine.specs.End.{with_streams}
use Rattle.quic_machine.specs.Validation.{challenge_frame, response_frame}
use Rattle.quic_machine.specs.Poll.{Draft, close_room, fits, with_frame, with_signal, with_least, left, with_request, with_message, no_stream_frames, ack_of, with_ack}

-- ---- one frame of each kind

-- how many bytes are left behind the type and the id of a STREAM frame, behind the frames of a
-- draft
abbrev pub stream_room : Draft → ℕ → ℕ
stream_room d id = of_streams.stream_room (left d) (no_stream_frames d) id

-- the first that waits of a kind is dropped
abbrev pub without_entry : Draft → ControlKind → Draft
without_entry d kind = record d { end = with_streams d.end (streams_of d.end.streams (without_first kind d.end.waiting.frames)) }

-- its frame goes
abbrev pub with_entry : Draft → ControlKind → FrameValue → Draft
with_entry d kind f = with_frame d f (spelling f) (with_streams d.end (streams_of (frame_told f d.end.streams) (without_first kind d.end.waiting.frames)))

-- the frame of a half goes, where so many bytes are left behind its type and id
abbrev pub with_half_frame : Draft → ℕ → SendHalf → ℕ → Draft
with_half_frame d id h room =
    with_frame d (values.stream (frame_of id h room)) (stream_spelling (writes_length h.buffer room) (frame_of id h room)) (record d.end { streams = of_streams.after_frame_sent d.end.transport.send_fairness d.end.streams id h room })

-- a close may go: it has a form, and there is room for it alone (RFC 9000, sections 10.2.3 and
-- 19.19)
abbrev pub MayClose : Draft → FrameValue → Type 0
MayClose d f = (d.bytes ≡ []) × (nat_le (frame_size f) (close_room d.end) ≡ true) × Fits f

-- an ACK may go: no frame went before it, or it fits
abbrev pub MayAck : Draft → Type 0
MayAck d = (d.bytes ≡ []) ⊎ (fits d (values.ack (ack_of d.end)) ≡ true)

-- ---- all of them

-- one step of a draft of a packet: a frame goes behind those that it has, or what waits is dropped
pub data Put : Type 0 where
  ack : Put
  -- frames of path validation go
  challenge : ℕ → Put
  response : Response → Put
  ping : Put
  immediate : Put
  -- ACK_FREQUENCY goes
  request : Put
  -- PING goes alone, as a probe of a size
  probes : ℕ → Put
  -- a close goes alone, for an error of QUIC or of the application
  connection_close : ConnectionCloseValue → Put
  application_close : ApplicationCloseValue → Put
  -- what waits beside the bytes of streams is dropped, since it is no longer due, or its frame goes
  drops : ControlKind → Put
  control : ControlKind → FrameValue → Put
  -- the oldest message goes, of those that wait
  message : List ℕ → List (List ℕ) → Put
  -- the frame of a half goes
  stream : ℕ → SendHalf → ℕ → Put

-- the draft with it
abbrev pub after : Put → Draft → Draft
after ack d = with_ack d
after (challenge word) d = with_signal d (challenge_frame word) (record d.end.waiting.signals { challenge = None })
after (response r) d = with_signal d (response_frame r) (record d.end.waiting.signals { response = None })
after ping d = with_signal d values.ping (record d.end.waiting.signals { ping = false })
after immediate d = with_signal d values.immediate_ack (record d.end.waiting.signals { immediate = false })
after request d = with_request d
after (probes size) d = with_frame (with_least d size) values.ping (spelling values.ping) d.end
after (connection_close c) d = with_frame d (values.connection_close c) (spelling (values.connection_close c)) d.end
after (application_close c) d = with_frame d (values.application_close c) (spelling (values.application_close c)) d.end
after (drops kind) d = without_entry d kind
after (control kind f) d = with_entry d kind f
after (message m ms) d = with_message d m ms
after (stream id h room) d = with_half_frame d id h room

-- where it may be put into a draft: an ACK that has numbers; a frame of path validation that waits,
-- and ACK_FREQUENCY; a close, where no frame went before it; a frame of control that says what is
-- due; a message that fits; and a frame of the stream that stands first in the queue, which brings
-- something, where enough bytes are left
abbrev pub May : Put → Draft → Type 0
May ack d = (is_filled d.end.acknowledging.runs ≡ true) × MayAck d
May (challenge word) d = d.end.waiting.signals.challenge ≡ Some word
May (response r) d = d.end.waiting.signals.response ≡ Some r
May ping d = Unit {0}
May immediate d = Unit {0}
May request d = d.end.waiting.frames.ack_frequency ≡ true
May (probes size) d = Unit {0}
May (connection_close c) d = MayClose d (values.connection_close c)
May (application_close c) d = MayClose d (values.application_close c)
May (drops kind) d = Unit {0}
May (control kind f) d = GoesFirst kind d.end.waiting.frames d.end.streams f
May (message m ms) d = (d.end.messages.queues.outgoing ≡ m ∷ ms) × (fits d (values.datagram m) ≡ true)
May (stream id h room) d = (at d.end.streams.sending.halves.live id ≡ Some h) × (first_queued d.end.streams.sending.queue ≡ Some id) × (25 ≤ left d) × (room ≡ stream_room d id) × (frame_counts h room ≡ true)
