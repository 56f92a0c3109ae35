-- Why an end isn't open: what the peer is told of it, and how long its text is (RFC 9000, sections
-- 10.2.3, 19.19 and 20.1).
use Rattle.std.specs.Prelude.{ℕ, [], length}
use Rattle.quic_wire.specs.Value.{FrameValue, connection_close}
use Rattle.quic_machine.specs.Texts.{text_of}
use Rattle.quic_machine.specs.declared.answers.LostReason.{LostReason}
use Rattle.quic_machine.specs.declared.answers.LostReason.TheVariants as reasons

-- how many bytes the text has that the peer's close brought; 0 where the reason is another one
abbrev pub text_len : LostReason → ℕ
text_len (reasons.Peer c) = length (text_of c)
text_len reason = 0

-- by which code an end closes: INTERNAL_ERROR where too many runs of a stream wait, or numbers are
-- used up; AEAD_LIMIT_REACHED where a key is; and that of a broken rule. For the others no error of
-- QUIC is told
abbrev pub code_of : LostReason → ℕ
code_of reasons.Pieces = 1
code_of reasons.NumberLimit = 1
code_of reasons.KeyLimit = 15
code_of (reasons.Transport error) = error.code
code_of reason = 0

-- the close that says so: it names neither a frame nor a text
abbrev pub error_close : LostReason → FrameValue
error_close reason = connection_close (record { code = code_of reason; frame_type = 0; reason = [] })
