-- The fields that frames are made of.
use Rattle.std.specs.Prelude.{ℕ, List, Option, Some, None, Result, Ok, Err}
use Rattle.quic_wire_core.specs.Varint.{varint_at}
use Rattle.quic_wire.specs.declared.frame.FrameError.{FrameError}
use Rattle.quic_wire.specs.declared.frame.FrameError.TheVariants.{UnexpectedEnd}

-- A field, and the bytes after it.
abbrev pub field : {T : Type 0} → Option (T × List ℕ) → Result (T × List ℕ) FrameError
field None = Err UnexpectedEnd
field (Some x) = Ok x

-- A variable-length integer of any width (section 16).
abbrev pub var_at : List ℕ → Result (ℕ × List ℕ) FrameError
var_at bytes = field (varint_at bytes)
