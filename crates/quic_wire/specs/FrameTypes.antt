-- Which type numbers name which kind of frame (RFC 9000, section 12.4 and section 19).
use Rattle.std.specs.Prelude.{ℕ, ◌+◌, Bool, true, false, not, List, [], ◌∷◌, bit_and, ◌==◌, if◌then◌else◌}

-- What a type number says of the frame behind it.
pub data Kind : Type 0 where
  -- section 19.1
  is_padding : Kind
  -- section 19.2
  is_ping : Kind
  -- section 19.3: whether ECN counts stand behind the ranges
  is_ack : Bool → Kind
  -- section 19.4
  is_reset_stream : Kind
  -- section 19.5
  is_stop_sending : Kind
  -- section 19.6
  is_crypto : Kind
  -- section 19.7
  is_new_token : Kind
  -- section 19.8: whether an offset is written, whether a length is written, whether the stream
  -- ends
  is_stream : Bool → Bool → Bool → Kind
  -- section 19.9
  is_max_data : Kind
  -- section 19.10
  is_max_stream_data : Kind
  -- section 19.11: whether of one-way streams
  is_max_streams : Bool → Kind
  -- section 19.12
  is_data_blocked : Kind
  -- section 19.13
  is_stream_data_blocked : Kind
  -- section 19.14: whether of one-way streams
  is_streams_blocked : Bool → Kind
  -- section 19.15
  is_new_connection_id : Kind
  -- section 19.16
  is_retire_connection_id : Kind
  -- section 19.17
  is_path_challenge : Kind
  -- section 19.18
  is_path_response : Kind
  -- section 19.19, type 1c
  is_connection_close : Kind
  -- section 19.19, type 1d
  is_application_close : Kind
  -- section 19.20
  is_handshake_done : Kind
  -- QUIC Acknowledgement Frequency, section 5
  is_immediate_ack : Kind
  -- RFC 9221, section 4: whether a length is written
  is_datagram : Bool → Kind
  -- QUIC Acknowledgement Frequency, section 4
  is_ack_frequency : Kind
  -- a number that names no frame
  is_unknown : ℕ → Kind

-- The types of all frames.
abbrev pub frame_types : List (ℕ × Kind)
frame_types =
    (0x00, is_padding)
    ∷ (0x01, is_ping)
    ∷ (0x02, is_ack false)
    ∷ (0x03, is_ack true)
    ∷ (0x04, is_reset_stream)
    ∷ (0x05, is_stop_sending)
    ∷ (0x06, is_crypto)
    ∷ (0x07, is_new_token)
    ∷ (0x08, is_stream false false false)
    ∷ (0x09, is_stream false false true)
    ∷ (0x0a, is_stream false true false)
    ∷ (0x0b, is_stream false true true)
    ∷ (0x0c, is_stream true false false)
    ∷ (0x0d, is_stream true false true)
    ∷ (0x0e, is_stream true true false)
    ∷ (0x0f, is_stream true true true)
    ∷ (0x10, is_max_data)
    ∷ (0x11, is_max_stream_data)
    ∷ (0x12, is_max_streams false)
    ∷ (0x13, is_max_streams true)
    ∷ (0x14, is_data_blocked)
    ∷ (0x15, is_stream_data_blocked)
    ∷ (0x16, is_streams_blocked false)
    ∷ (0x17, is_streams_blocked true)
    ∷ (0x18, is_new_connection_id)
    ∷ (0x19, is_retire_connection_id)
    ∷ (0x1a, is_path_challenge)
    ∷ (0x1b, is_path_response)
    ∷ (0x1c, is_connection_close)
    ∷ (0x1d, is_application_close)
    ∷ (0x1e, is_handshake_done)
    ∷ (0x1f, is_immediate_ack)
    ∷ (0x30, is_datagram false)
    ∷ (0x31, is_datagram true)
    ∷ (0xaf, is_ack_frequency)
    ∷ []

-- The kind that a list of types gives a number.
abbrev pub named : ℕ → List (ℕ × Kind) → Kind
named type [] = is_unknown type
named type (x ∷ xs) = if type == x.0 then x.1 else named type xs

-- The kind that a type number names.
unfoldable pub kind_of : ℕ → Kind
kind_of type = named type frame_types

-- A bit of a type, where it is set.
abbrev pub bit_if : Bool → ℕ → ℕ
bit_if set bit = if set then bit else 0

-- The number that names a kind.
abbrev pub type_of : Kind → ℕ
type_of is_padding = 0x00
type_of is_ping = 0x01
type_of (is_ack ecn) = 0x02 + bit_if ecn 1
type_of is_reset_stream = 0x04
type_of is_stop_sending = 0x05
type_of is_crypto = 0x06
type_of is_new_token = 0x07
type_of (is_stream offset len fin) = 0x08 + bit_if offset 4 + bit_if len 2 + bit_if fin 1
type_of is_max_data = 0x10
type_of is_max_stream_data = 0x11
type_of (is_max_streams one_way) = 0x12 + bit_if one_way 1
type_of is_data_blocked = 0x14
type_of is_stream_data_blocked = 0x15
type_of (is_streams_blocked one_way) = 0x16 + bit_if one_way 1
type_of is_new_connection_id = 0x18
type_of is_retire_connection_id = 0x19
type_of is_path_challenge = 0x1a
type_of is_path_response = 0x1b
type_of is_connection_close = 0x1c
type_of is_application_close = 0x1d
type_of is_handshake_done = 0x1e
type_of is_immediate_ack = 0x1f
type_of (is_datagram len) = 0x30 + bit_if len 1
type_of is_ack_frequency = 0xaf
type_of (is_unknown type) = type

-- A kind of frame, not a number that names none.
abbrev pub IsKnown : Kind → Type 0
IsKnown (is_unknown type) = ⊥
IsKnown kind = Unit {0}

-- Whether a bit of a type is set (section 19.8).
abbrev pub has_bit : ℕ → ℕ → Bool
has_bit type bit = not (bit_and type bit == 0)
