-- Closes that own their bytes: what they say, and what is printed of it (RFC 9000, section 19.19).
use Rattle.std.specs.Prelude.{◌≡◌, ◌<◌, ℕ, ◌++◌, ◌==◌, List, [], Option, Result, MatchResult, length, if◌then◌else◌, codes, decimal}
use Rattle.std.specs.Str.Lossy.{utf8_lossy, replacement_bytes}
use Rattle.quic_wire_core.specs.TransportError.{ErrorValue, code_text}
use Rattle.quic_wire_core.specs.Reason.{reason_text}
use Rattle.quic_wire_core.specs.declared.reason.Reason.{Reason}
use Rattle.quic_wire.specs.Value.{ApplicationCloseValue}
use Rattle.quic_wire.specs.declared.frame.close.Close.{Close}
use Rattle.quic_wire.specs.declared.frame.close.Close.TheVariants as closes
use Rattle.quic_wire.specs.declared.frame.close.ConnectionClose.{ConnectionClose}
use Rattle.quic_wire.specs.declared.frame.close.ApplicationClose.{ApplicationClose}

-- A close by an error of QUIC: the type is that of the frame that was at fault, none where it is
-- unknown.
pub record TransportCloseValue : Type 0 where
  pub code : ℕ
  pub frame_type : Option ℕ
  pub reason : List ℕ

-- A close of either kind.
pub data CloseValue : Type 0 where
  by_transport : TransportCloseValue → CloseValue
  by_application : ApplicationCloseValue → CloseValue

-- The close by an error of QUIC with this code, this frame at fault and this reason.
abbrev pub transport_close : ℕ → Option ℕ → List ℕ → TransportCloseValue
transport_close code frame_type reason = record { code = code; frame_type = frame_type; reason = reason }

-- The application's close with this code and this reason.
abbrev pub application_close_with : ℕ → List ℕ → ApplicationCloseValue
application_close_with code reason = record { code = code; reason = reason }

-- What a close by an error of QUIC says.
abbrev pub transport_close_view : ConnectionClose → TransportCloseValue
transport_close_view c = transport_close c.error_code c.frame_type c.reason.items

-- What an application's close says.
abbrev pub owned_application_close_view : ApplicationClose → ApplicationCloseValue
owned_application_close_view c = application_close_with c.error_code c.reason.items

-- What a close says.
abbrev pub close_view : Close → CloseValue
close_view (closes.Connection c) = by_transport (transport_close_view c)
close_view (closes.Application c) = by_application (owned_application_close_view c)

-- The close that tells the peer of an error with this reason: by an error of QUIC, with the error's
-- code and frame, and the reason's text.
abbrev pub close_of : ErrorValue → Reason → CloseValue
close_of error reason = by_transport (transport_close error.code error.frame (reason_text reason))

-- A close of the error, or a refusal where the reason's text takes memory.
abbrev pub ClosesFor : {E : Type 0} → ErrorValue → Result Close E → Reason → Type 0
ClosesFor error result reason = MatchResult result (λ c. close_view c ≡ close_of error reason) (λ _. 0 < length (reason_text reason))

-- What is printed of a text and of the bytes behind it that are none: the text, and U+FFFD for
-- these bytes, where there are any.
abbrev pub piece_text : List ℕ → List ℕ → List ℕ
piece_text valid invalid = valid ++ (if length invalid == 0 then [] else replacement_bytes)

-- What is printed of a close by an error of QUIC: the code, and then the reason as text, where
-- there is one.
abbrev pub transport_close_text : TransportCloseValue → List ℕ
transport_close_text c = code_text c.code ++ (if length c.reason == 0 then [] else codes ": " ++ utf8_lossy c.reason)

-- What is printed of an application's close: the reason as text and then the code, or the code
-- alone where there is no reason.
abbrev pub application_close_text : ApplicationCloseValue → List ℕ
application_close_text c = if length c.reason == 0 then decimal c.code else utf8_lossy c.reason ++ (codes " (code " ++ (decimal c.code ++ codes ")"))

-- What is printed of a close.
abbrev pub close_text : CloseValue → List ℕ
close_text (by_transport c) = transport_close_text c
close_text (by_application c) = application_close_text c
