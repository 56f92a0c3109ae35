-- An event as numbers, as `fh_event` of the header has them: what its kind doesn't name is 0.
use Rattle.std.specs.Prelude.{ℕ, ◌≡◌, List, [], length, Option, Some, None, ⊤}
use Rattle.quic_wire_core.specs.declared.stream_id.Dir.{Dir}
use Rattle.quic_wire_core.specs.declared.stream_id.Dir.TheVariants as dirs
use Rattle.quic_streams_parts.specs.declared.answers.StreamEvent.{StreamEvent}
use Rattle.quic_streams_parts.specs.declared.answers.StreamEvent.TheVariants as stream_events
use Rattle.quic_wire.specs.Close.{CloseValue, by_transport, by_application}
use Rattle.quic_machine.specs.Texts.{text_of}
use Rattle.quic_machine.specs.declared.answers.LostReason.{LostReason}
use Rattle.quic_machine.specs.declared.answers.LostReason.TheVariants as reasons
use Rattle.quic_machine.specs.declared.answers.Event.{Event}
use Rattle.quic_machine.specs.declared.answers.Event.TheVariants as events
use Rattle.quic_c_core.specs.declared.events.EventRecord.{EventRecord}

-- the number of a kind of streams
abbrev pub dir_number : Dir → ℕ
dir_number dirs.Bi = 0
dir_number dirs.Uni = 1

-- an event of a kind that names no more
abbrev pub of_kind : ℕ → EventRecord
of_kind kind = record { kind = kind; stream = 0; dir = 0; code = 0; reason = 0; text_len = 0 }

-- what happened to streams
abbrev pub of_stream : StreamEvent → EventRecord
of_stream (stream_events.Opened dir) = record (of_kind 1) { dir = dir_number dir }
of_stream (stream_events.Readable id) = record (of_kind 2) { stream = id }
of_stream (stream_events.Writable id) = record (of_kind 3) { stream = id }
of_stream (stream_events.Finished id) = record (of_kind 4) { stream = id }
of_stream (stream_events.Stopped id code) = record (of_kind 5) { stream = id; code = code }
of_stream (stream_events.Available dir) = record (of_kind 6) { dir = dir_number dir }

-- the code of a close (RFC 9000, section 19.19)
abbrev pub close_code : CloseValue → ℕ
close_code (by_transport c) = c.code
close_code (by_application c) = c.code

-- whether the peer's application closed, or its transport
abbrev pub close_number : CloseValue → ℕ
close_number (by_application c) = 2
close_number (by_transport c) = 3

-- the number of a reason why the connection is lost
abbrev pub reason_number : LostReason → ℕ
reason_number reasons.Application = 1
reason_number (reasons.Peer c) = close_number c
reason_number reasons.Idle = 4
reason_number reasons.Pieces = 5
reason_number reasons.KeyLimit = 6
reason_number reasons.NumberLimit = 7
reason_number (reasons.Transport error) = 8

-- the code that comes with it
abbrev pub reason_code : LostReason → ℕ
reason_code (reasons.Peer c) = close_code c
reason_code (reasons.Transport error) = error.code
reason_code reason = 0

-- a text says more of a reason: what the peer said as it closed. Which rule was broken the machine
-- doesn't say, so of that the text may be any
abbrev pub IsText : LostReason → List ℕ → Type 0
IsText (reasons.Peer c) text = text ≡ text_of c
IsText (reasons.Transport error) text = ⊤
IsText reason text = text ≡ []

-- a text says more of why the connection is lost; none where it isn't
abbrev pub IsLostText : Option LostReason → List ℕ → Type 0
IsLostText None text = text ≡ []
IsLostText (Some reason) text = IsText reason text

-- an event as numbers
abbrev pub IsTold : Event → EventRecord → Type 0
IsTold (events.Stream event) r = r ≡ of_stream event
IsTold events.Message r = r ≡ of_kind 7
IsTold events.HandshakeConfirmed r = r ≡ of_kind 9
IsTold (events.Lost reason) r = (text : List ℕ) × IsText reason text × (r ≡ record (of_kind 8) { code = reason_code reason; reason = reason_number reason; text_len = length text })
