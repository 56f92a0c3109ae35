-- The form in which each frame is written: each number in its shortest width (RFC 9000, sections 16
-- and 19).
use Rattle.std.specs.Prelude.{◌≡◌, ℕ, ◌+◌, ◌<◌, ◌≤◌, ◌^◌, Bool, true, false, not, List, [], ◌∷◌, ◌++◌, length, take, Option, Some, None, Result, MatchResult, ◌==◌, if◌then◌else◌}
pub use Rattle.quic_wire.specs.NumbersWritten.{written, AreNumbers, width_of, widths}
use Rattle.quic_wire.specs.AckGrammar.{has_ecn, ack_fields, AckFits}
use Rattle.quic_wire.specs.AckWriting.{ack_spelling, ack_size, ack_most}
use Rattle.quic_wire.specs.Value.{StreamValue, FrameValue, ack, padding, ping, reset_stream, stop_sending, crypto, new_token, stream, max_data, max_stream_data, max_streams, data_blocked, stream_data_blocked, streams_blocked, new_connection_id, retire_connection_id, path_challenge, path_response, connection_close, application_close, handshake_done, immediate_ack, datagram, ack_frequency}
use Rattle.quic_wire.specs.FrameTypes.{Kind, is_ack, is_padding, is_ping, is_reset_stream, is_stop_sending, is_crypto, is_new_token, is_stream, is_max_data, is_max_stream_data, is_max_streams, is_data_blocked, is_stream_data_blocked, is_streams_blocked, is_new_connection_id, is_retire_connection_id, is_path_challenge, is_path_response, is_connection_close, is_application_close, is_handshake_done, is_immediate_ack, is_datagram, is_ack_frequency, type_of}
use Rattle.quic_wire.specs.Grammar.{stream_numbers, offset_numbers, length_numbers, number_if, id_and_token, IsIssued}

-- An offset is written where it isn't 0.
abbrev pub has_offset : ℕ → Bool
has_offset offset = not (offset == 0)

-- The header of a STREAM frame of so many bytes, with its length or without.
abbrev pub header_of : Bool → StreamValue → ℕ → List ℕ
header_of with_length s n = written (type_of (is_stream (has_offset s.offset) with_length s.fin) ∷ s.id ∷ (offset_numbers (has_offset s.offset) s.offset ++ number_if with_length n))

-- The header of a STREAM frame, with its length or without.
abbrev pub stream_header : Bool → StreamValue → List ℕ
stream_header with_length s = written (stream_numbers (has_offset s.offset) with_length s)

-- How a STREAM frame is written, with its length or without.
unfoldable pub stream_spelling : Bool → StreamValue → List ℕ
stream_spelling with_length s = stream_header with_length s ++ s.bytes

-- The kind that a frame is written as: STREAM and DATAGRAM frames with their length.
abbrev pub kind_as : FrameValue → Kind
kind_as padding = is_padding
kind_as ping = is_ping
kind_as (ack a) = is_ack (has_ecn a.ecn)
kind_as (reset_stream r) = is_reset_stream
kind_as (stop_sending s) = is_stop_sending
kind_as (crypto c) = is_crypto
kind_as (new_token t) = is_new_token
kind_as (stream s) = is_stream (has_offset s.offset) true s.fin
kind_as (max_data n) = is_max_data
kind_as (max_stream_data m) = is_max_stream_data
kind_as (max_streams m) = is_max_streams m.one_way
kind_as (data_blocked n) = is_data_blocked
kind_as (stream_data_blocked b) = is_stream_data_blocked
kind_as (streams_blocked b) = is_streams_blocked b.one_way
kind_as (new_connection_id n) = is_new_connection_id
kind_as (retire_connection_id n) = is_retire_connection_id
kind_as (path_challenge d) = is_path_challenge
kind_as (path_response d) = is_path_response
kind_as (connection_close c) = is_connection_close
kind_as (application_close c) = is_application_close
kind_as handshake_done = is_handshake_done
kind_as immediate_ack = is_immediate_ack
kind_as (datagram d) = is_datagram true
kind_as (ack_frequency a) = is_ack_frequency

-- The numbers of a frame behind its type.
abbrev pub fields_of : FrameValue → List ℕ
fields_of (ack a) = ack_fields a a.ranges
fields_of (reset_stream r) = r.id ∷ r.code ∷ r.final_size ∷ []
fields_of (stop_sending s) = s.id ∷ s.code ∷ []
fields_of (crypto c) = c.offset ∷ length c.bytes ∷ []
fields_of (new_token t) = length t ∷ []
fields_of (stream s) = s.id ∷ (offset_numbers (has_offset s.offset) s.offset ++ length_numbers true s.bytes)
fields_of (max_data n) = n ∷ []
fields_of (max_stream_data m) = m.id ∷ m.limit ∷ []
fields_of (max_streams m) = m.count ∷ []
fields_of (data_blocked n) = n ∷ []
fields_of (stream_data_blocked b) = b.id ∷ b.limit ∷ []
fields_of (streams_blocked b) = b.count ∷ []
fields_of (new_connection_id n) = n.sequence ∷ n.retire_prior_to ∷ []
fields_of (retire_connection_id n) = n ∷ []
fields_of (connection_close c) = c.code ∷ c.frame_type ∷ length c.reason ∷ []
fields_of (application_close c) = c.code ∷ length c.reason ∷ []
fields_of (datagram d) = length d ∷ []
fields_of (ack_frequency a) = a.sequence ∷ a.threshold ∷ a.delay ∷ a.reordering ∷ []
fields_of f = []

-- The bytes of a frame behind its numbers.
abbrev pub text_of : FrameValue → List ℕ
text_of (crypto c) = c.bytes
text_of (new_token t) = t
text_of (stream s) = s.bytes
text_of (new_connection_id n) = id_and_token n
text_of (path_challenge d) = d
text_of (path_response d) = d
text_of (connection_close c) = c.reason
text_of (application_close c) = c.reason
text_of (datagram d) = d
text_of f = []

-- The numbers of a frame, the first of them its type.
abbrev pub numbers_of : FrameValue → List ℕ
numbers_of f = type_of (kind_as f) ∷ fields_of f

-- How a frame is written: STREAM and DATAGRAM frames with their length.
abbrev pub spelling : FrameValue → List ℕ
spelling padding = written (type_of is_padding ∷ [])
spelling ping = written (type_of is_ping ∷ [])
spelling (ack a) = ack_spelling a
spelling (stream s) = stream_spelling true s
spelling f = written (numbers_of f) ++ text_of f

-- How a DATAGRAM frame is written without its length.
abbrev pub datagram_to_end : List ℕ → List ℕ
datagram_to_end d = written (type_of (is_datagram false) ∷ []) ++ d

-- Frames, one behind another.
abbrev pub spelled_all : List FrameValue → List ℕ
spelled_all [] = []
spelled_all (f ∷ fs) = spelling f ++ spelled_all fs

-- The numbers of a STREAM frame have a form.
abbrev pub StreamFits : StreamValue → Type 0
StreamFits s = (s.id < 2 ^ 62) × (s.offset < 2 ^ 62) × (length s.bytes < 2 ^ 62)

-- The frame has a form.
abbrev pub Fits : FrameValue → Type 0
Fits padding = Unit {0}
Fits ping = Unit {0}
Fits (ack a) = AckFits a
Fits (stream s) = StreamFits s
Fits (new_connection_id n) = AreNumbers (fields_of (new_connection_id n)) × IsIssued n
Fits (path_challenge d) = length d ≡ 8
Fits (path_response d) = length d ≡ 8
Fits f = AreNumbers (fields_of f)

-- Each of the frames has a form.
abbrev pub AllFit : List FrameValue → Type 0
AllFit [] = Unit {0}
AllFit (f ∷ fs) = Fits f × AllFit fs

-- How many bytes the offset of a STREAM frame takes.
abbrev pub offset_width : ℕ → ℕ
offset_width offset = if offset == 0 then 0 else width_of offset

-- How many bytes the length of a STREAM frame takes.
abbrev pub length_width : Option ℕ → ℕ
length_width (Some n) = width_of n
length_width None = 0

-- How many bytes stand before the text of a STREAM frame: type, id, offset and length.
abbrev pub stream_header_size : ℕ → ℕ → Option ℕ → ℕ
stream_header_size id offset len = 1 + width_of id + offset_width offset + length_width len

-- A number, where it is written.
abbrev pub some_if : Bool → ℕ → Option ℕ
some_if true n = Some n
some_if false n = None

-- The length of a text, where it is written.
abbrev pub length_if : Bool → List ℕ → Option ℕ
length_if with_length text = some_if with_length (length text)

-- How many bytes a STREAM frame takes, with its length or without.
abbrev pub stream_size : Bool → StreamValue → ℕ
stream_size with_length s = stream_header_size s.id s.offset (length_if with_length s.bytes) + length s.bytes

-- How many bytes a frame takes.
abbrev pub frame_size : FrameValue → ℕ
frame_size padding = 1
frame_size ping = 1
frame_size (ack a) = ack_size a
frame_size (stream s) = stream_size true s
frame_size f = widths (numbers_of f) + length (text_of f)

-- The most bytes that a frame takes: 2 for the type of ACK_FREQUENCY, 1 for each other, 8 for each
-- number, and its text.
abbrev pub most_of : FrameValue → ℕ
most_of (ack a) = ack_most a
most_of (reset_stream r) = 1 + 8 + 8 + 8
most_of (stop_sending s) = 1 + 8 + 8
most_of (crypto c) = 1 + 8 + 8 + length c.bytes
most_of (new_token t) = 1 + 8 + length t
most_of (stream s) = 1 + 8 + 8 + 8 + length s.bytes
most_of (max_data n) = 1 + 8
most_of (max_stream_data m) = 1 + 8 + 8
most_of (max_streams m) = 1 + 8
most_of (data_blocked n) = 1 + 8
most_of (stream_data_blocked b) = 1 + 8 + 8
most_of (streams_blocked b) = 1 + 8
most_of (new_connection_id n) = 1 + 8 + 8 + 1 + 20 + 16
most_of (retire_connection_id n) = 1 + 8
most_of (path_challenge d) = 1 + 8
most_of (path_response d) = 1 + 8
most_of (connection_close c) = 1 + 8 + 8 + 8 + length c.reason
most_of (application_close c) = 1 + 8 + 8 + length c.reason
most_of (datagram d) = 1 + 8 + length d
most_of (ack_frequency a) = 2 + 8 + 8 + 8 + 8
most_of f = 1

-- The type of a frame, that of a STREAM or DATAGRAM frame without a length.
abbrev pub type_number : FrameValue → ℕ
type_number padding = type_of is_padding
type_number ping = type_of is_ping
type_number (stream s) = type_of (is_stream (has_offset s.offset) false s.fin)
type_number (datagram d) = type_of (is_datagram false)
type_number f = type_of (kind_as f)

-- Bytes begin with these.
abbrev pub BeginWith : List ℕ → List ℕ → Type 0
BeginWith front bytes = take (length front) bytes ≡ front

-- A write of n bytes, one part behind another, takes at most n of the room that is spare, and fails
-- only where that room was missing.
abbrev pub SpendsSpare : {T E : Type 0} → Result T E → ℕ → ℕ → ℕ → Type 0
SpendsSpare r old new n = MatchResult r (λ _. old ≤ new + n) (λ _. old < n)
