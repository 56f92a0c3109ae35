-- Types of frames (RFC 9000, section 19).
use Rattle.std.specs.Prelude.{ℕ, Bool, ◌&&◌, nat_le, List, [], ◌∷◌, Option, Some, if◌then◌else◌, codes}
use Rattle.quic_wire_core.specs.Text.{text_in, text_or_number}

-- The types of frames that carry bytes of a stream (RFC 9000, section 19.8).
abbrev pub is_stream_type : ℕ → Bool
is_stream_type ty = nat_le 8 ty && nat_le ty 15

-- The types of frames that carry a message (RFC 9221, section 4).
abbrev pub is_datagram_type : ℕ → Bool
is_datagram_type ty = nat_le 48 ty && nat_le ty 49

-- The types that have a name, least first, with one for STREAM and one for DATAGRAM (RFC 9000,
-- section 19; RFC 9221, section 4; the ACK frequency extension).
abbrev pub all_frame_types : List ℕ
all_frame_types = 0x00 ∷ 0x01 ∷ 0x02 ∷ 0x03 ∷ 0x04 ∷ 0x05 ∷ 0x06 ∷ 0x07 ∷ 0x08 ∷ 0x10 ∷ 0x11 ∷ 0x12 ∷ 0x13 ∷ 0x14 ∷ 0x15 ∷ 0x16 ∷ 0x17 ∷ 0x18 ∷ 0x19 ∷ 0x1a ∷ 0x1b ∷ 0x1c ∷ 0x1d ∷ 0x1e ∷ 0x1f ∷ 0x30 ∷ 0xaf ∷ []

-- The names of the types that stand for one kind of frame each (RFC 9000, section 19; the ACK
-- frequency extension).
abbrev pub frame_names : List (ℕ × List ℕ)
frame_names =
    (0x00, codes "PADDING")
    ∷ (0x01, codes "PING")
    ∷ (0x02, codes "ACK")
    ∷ (0x03, codes "ACK_ECN")
    ∷ (0x04, codes "RESET_STREAM")
    ∷ (0x05, codes "STOP_SENDING")
    ∷ (0x06, codes "CRYPTO")
    ∷ (0x07, codes "NEW_TOKEN")
    ∷ (0x10, codes "MAX_DATA")
    ∷ (0x11, codes "MAX_STREAM_DATA")
    ∷ (0x12, codes "MAX_STREAMS_BIDI")
    ∷ (0x13, codes "MAX_STREAMS_UNI")
    ∷ (0x14, codes "DATA_BLOCKED")
    ∷ (0x15, codes "STREAM_DATA_BLOCKED")
    ∷ (0x16, codes "STREAMS_BLOCKED_BIDI")
    ∷ (0x17, codes "STREAMS_BLOCKED_UNI")
    ∷ (0x18, codes "NEW_CONNECTION_ID")
    ∷ (0x19, codes "RETIRE_CONNECTION_ID")
    ∷ (0x1a, codes "PATH_CHALLENGE")
    ∷ (0x1b, codes "PATH_RESPONSE")
    ∷ (0x1c, codes "CONNECTION_CLOSE")
    ∷ (0x1d, codes "APPLICATION_CLOSE")
    ∷ (0x1e, codes "HANDSHAKE_DONE")
    ∷ (0x1f, codes "IMMEDIATE_ACK")
    ∷ (0xaf, codes "ACK_FREQUENCY")
    ∷ []

-- The name of a type, where it has one.
abbrev pub frame_name : ℕ → Option (List ℕ)
frame_name ty =
    if is_stream_type ty then Some (codes "STREAM")
    else (if is_datagram_type ty then Some (codes "DATAGRAM")
    else text_in frame_names ty)

-- What is printed of a type: its name, or else its number.
abbrev pub frame_text : ℕ → List ℕ
frame_text ty = text_or_number (frame_name ty) (codes "unknown frame type ") ty
