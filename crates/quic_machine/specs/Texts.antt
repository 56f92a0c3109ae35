-- The texts of closes (RFC 9000, section 19.19).
use Rattle.std.specs.Prelude.{ℕ, List}
use Rattle.quic_wire.specs.Close.{CloseValue, by_transport, by_application}

-- the text of a close
abbrev pub text_of : CloseValue → List ℕ
text_of (by_transport c) = c.reason
text_of (by_application c) = c.reason
