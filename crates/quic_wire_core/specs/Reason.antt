-- Why rules of the transport are broken, for people to read.
use Rattle.std.specs.Prelude.{ℕ, List, codes}
use Rattle.quic_wire_core.specs.declared.reason.Reason.{Reason}
use Rattle.quic_wire_core.specs.declared.reason.Reason.TheVariants.{Unsaid, UnexpectedEnd, Malformed, InvalidFrameId, IllegalValue, NoFrame, ReservedBits, NeverSent, OfServers, TooManyBytes, TooManyStreams, NotSendable, FinalSize, TooManyPieces}

-- The text of a reason.
abbrev pub reason_text : Reason → List ℕ
reason_text Unsaid = codes ""
reason_text UnexpectedEnd = codes "unexpected end"
reason_text Malformed = codes "malformed"
reason_text InvalidFrameId = codes "invalid frame ID"
reason_text IllegalValue = codes "illegal value"
reason_text NoFrame = codes "no frame"
reason_text ReservedBits = codes "reserved bits set"
reason_text NeverSent = codes "a packet that was never sent"
reason_text OfServers = codes "a frame that only servers send"
reason_text TooManyBytes = codes "past a limit on bytes"
reason_text TooManyStreams = codes "past the limit on streams"
reason_text NotSendable = codes "no stream to send on"
reason_text FinalSize = codes "a final size that can't be"
reason_text TooManyPieces = codes "too many pieces wait"
