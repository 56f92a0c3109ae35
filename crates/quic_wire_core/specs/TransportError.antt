-- Errors of the transport (RFC 9000, section 20.1).
use Rattle.std.specs.Prelude.{ℕ, Bool, Option, Some, None, List, [], ◌∷◌, ◌++◌, codes, nat_eq}
use Rattle.std.specs.Option.{option_eq}
use Rattle.std.specs.Ordering.{on, eq_of_both}
use Rattle.quic_wire_core.specs.declared.reason.Reason.{Reason}
use Rattle.quic_wire_core.specs.declared.reason.Reason.TheVariants.{Unsaid}
use Rattle.quic_wire_core.specs.FrameType.{frame_text}
use Rattle.quic_wire_core.specs.Reason.{reason_text}
use Rattle.quic_wire_core.specs.Text.{text_in, text_or_number}

-- An error: its code, and the type of the frame that caused it, where one did.
pub record ErrorValue : Type 0 where
  pub code : ℕ
  pub frame : Option ℕ

-- An error with this code, which this frame caused.
abbrev pub error_in : ℕ → Option ℕ → ErrorValue
error_in code frame = record { code = code; frame = frame }

-- An error with this code, which no frame caused.
abbrev pub plain_error : ℕ → ErrorValue
plain_error code = error_in code None

-- Whether two errors have the same code and the same frame.
abbrev pub same_error : ErrorValue → ErrorValue → Bool
same_error = eq_of_both (on (λ e. e.code) nat_eq) (on (λ e. e.frame) (option_eq nat_eq))

-- The connection closes without an error (RFC 9000, section 20.1).
abbrev pub no_error : ℕ
no_error = 0x00

-- The end met an error of its own and cannot go on (RFC 9000, section 20.1).
abbrev pub internal_error : ℕ
internal_error = 0x01

-- The server refuses the connection (RFC 9000, section 20.1).
abbrev pub connection_refused : ℕ
connection_refused = 0x02

-- More data came than a limit allows (RFC 9000, section 20.1).
abbrev pub flow_control_error : ℕ
flow_control_error = 0x03

-- A frame is of a stream beyond the number that is allowed (RFC 9000, section 20.1).
abbrev pub stream_limit_error : ℕ
stream_limit_error = 0x04

-- A frame is of a stream whose state does not allow it (RFC 9000, section 20.1).
abbrev pub stream_state_error : ℕ
stream_state_error = 0x05

-- The final size of a stream changes, or data lies beyond it (RFC 9000, section 20.1).
abbrev pub final_size_error : ℕ
final_size_error = 0x06

-- A frame is badly formed (RFC 9000, section 20.1).
abbrev pub frame_encoding_error : ℕ
frame_encoding_error = 0x07

-- The transport parameters are badly formed (RFC 9000, section 20.1).
abbrev pub transport_parameter_error : ℕ
transport_parameter_error = 0x08

-- The peer gives more ids than are allowed (RFC 9000, section 20.1).
abbrev pub connection_id_limit_error : ℕ
connection_id_limit_error = 0x09

-- An error of the peer that no other code names (RFC 9000, section 20.1).
abbrev pub protocol_violation : ℕ
protocol_violation = 0x0a

-- A token does not serve (RFC 9000, section 20.1).
abbrev pub invalid_token : ℕ
invalid_token = 0x0b

-- The application closes the connection (RFC 9000, section 20.1).
abbrev pub application_error : ℕ
application_error = 0x0c

-- More bytes of the handshake came than there is room for (RFC 9000, section 20.1).
abbrev pub crypto_buffer_exceeded : ℕ
crypto_buffer_exceeded = 0x0d

-- An update of keys goes wrong (RFC 9000, section 20.1).
abbrev pub key_update_error : ℕ
key_update_error = 0x0e

-- The keys have sealed or refused as many packets as they may (RFC 9000, section 20.1).
abbrev pub aead_limit_reached : ℕ
aead_limit_reached = 0x0f

-- No path is left that serves (RFC 9000, section 20.1).
abbrev pub no_viable_path : ℕ
no_viable_path = 0x10

-- The codes that have a name, least first (RFC 9000, section 20.1).
abbrev pub all_codes : List ℕ
all_codes =
    no_error
    ∷ internal_error
    ∷ connection_refused
    ∷ flow_control_error
    ∷ stream_limit_error
    ∷ stream_state_error
    ∷ final_size_error
    ∷ frame_encoding_error
    ∷ transport_parameter_error
    ∷ connection_id_limit_error
    ∷ protocol_violation
    ∷ invalid_token
    ∷ application_error
    ∷ crypto_buffer_exceeded
    ∷ key_update_error
    ∷ aead_limit_reached
    ∷ no_viable_path
    ∷ []

-- The names of the codes (RFC 9000, section 20.1).
abbrev pub code_names : List (ℕ × List ℕ)
code_names =
    (no_error, codes "NO_ERROR")
    ∷ (internal_error, codes "INTERNAL_ERROR")
    ∷ (connection_refused, codes "CONNECTION_REFUSED")
    ∷ (flow_control_error, codes "FLOW_CONTROL_ERROR")
    ∷ (stream_limit_error, codes "STREAM_LIMIT_ERROR")
    ∷ (stream_state_error, codes "STREAM_STATE_ERROR")
    ∷ (final_size_error, codes "FINAL_SIZE_ERROR")
    ∷ (frame_encoding_error, codes "FRAME_ENCODING_ERROR")
    ∷ (transport_parameter_error, codes "TRANSPORT_PARAMETER_ERROR")
    ∷ (connection_id_limit_error, codes "CONNECTION_ID_LIMIT_ERROR")
    ∷ (protocol_violation, codes "PROTOCOL_VIOLATION")
    ∷ (invalid_token, codes "INVALID_TOKEN")
    ∷ (application_error, codes "APPLICATION_ERROR")
    ∷ (crypto_buffer_exceeded, codes "CRYPTO_BUFFER_EXCEEDED")
    ∷ (key_update_error, codes "KEY_UPDATE_ERROR")
    ∷ (aead_limit_reached, codes "AEAD_LIMIT_REACHED")
    ∷ (no_viable_path, codes "NO_VIABLE_PATH")
    ∷ []

-- The name of a code, where it has one.
abbrev pub code_name : ℕ → Option (List ℕ)
code_name code = text_in code_names code

-- What is printed of a code: its name, or else its number.
abbrev pub code_text : ℕ → List ℕ
code_text code = text_or_number (code_name code) (codes "unknown error ") code

-- What is printed of the frame that caused an error, where one did.
abbrev pub frame_part : Option ℕ → List ℕ
frame_part (Some ty) = codes " in " ++ frame_text ty
frame_part None = []

-- What is printed of a reason, where something is said.
abbrev pub reason_part : Reason → List ℕ
reason_part Unsaid = []
reason_part reason = codes ": " ++ reason_text reason

-- What is printed of an error with this reason: the code, then the type of the frame, and then the
-- reason, where there are.
abbrev pub error_text : ErrorValue → Reason → List ℕ
error_text e reason = code_text e.code ++ frame_part e.frame ++ reason_part reason
