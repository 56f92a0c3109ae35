-- The frames of a payload, up to the first refusal (RFC 9000, section 12.4).
use Rattle.std.specs.Prelude.{◌≡◌, ℕ, zero, suc, Bool, true, false, not, List, [], ◌∷◌, filter, length, Option, Some, None, Result, Ok, Err}
use Rattle.quic_wire.specs.declared.frame.FrameError.{FrameError}
use Rattle.quic_wire.specs.declared.frame.InvalidFrame.{InvalidFrame}
use Rattle.quic_wire.specs.Value.{FrameValue, padding}
use Rattle.quic_wire.specs.Reading.{var_at, body_at}

-- A refusal, with the type of the frame that it was met in.
abbrev pub refused : {T : Type 0} → Option ℕ → Result T FrameError → Result T InvalidFrame
refused type (Ok x) = Ok x
refused type (Err e) = Err (record { ty = type; reason = e })

-- The frame behind what was read as its type.
abbrev pub behind_type : Result (ℕ × List ℕ) FrameError → Result (FrameValue × List ℕ) InvalidFrame
behind_type (Ok type) = refused (Some type.0) (body_at type.0 type.1)
behind_type (Err e) = Err (record { ty = None; reason = e })

-- The frame at the front, and the bytes after it.
unfoldable pub frame_at : List ℕ → Result (FrameValue × List ℕ) InvalidFrame
frame_at bytes = behind_type (var_at bytes)

-- What was read first, and, where it is a frame, the others.
abbrev pub first_and : (List ℕ → List (Result FrameValue InvalidFrame)) → Result (FrameValue × List ℕ) InvalidFrame → List (Result FrameValue InvalidFrame)
first_and others (Ok x) = Ok x.0 ∷ others x.1
first_and others (Err e) = Err e ∷ []

-- At most so many items.
unfoldable pub items_within : ℕ → List ℕ → List (Result FrameValue InvalidFrame)
items_within zero bytes = []
items_within (suc n) [] = []
items_within (suc n) (b ∷ bytes) = first_and (items_within n) (frame_at (b ∷ bytes))

-- The frames of a payload, and behind them the refusal, if there is one. (Each frame takes a byte
-- or more.)
unfoldable pub items : List ℕ → List (Result FrameValue InvalidFrame)
items bytes = items_within (length bytes) bytes

-- Frames, and behind them at most one refusal, with nothing behind it.
abbrev pub EndsAtRefusal : List (Result FrameValue InvalidFrame) → Type 0
EndsAtRefusal [] = Unit {0}
EndsAtRefusal (Ok f ∷ others) = EndsAtRefusal others
EndsAtRefusal (Err e ∷ others) = others ≡ []

-- Whether an item is PADDING (section 19.1).
abbrev pub pads : Result FrameValue InvalidFrame → Bool
pads (Ok padding) = true
pads i = false

-- The items that aren't PADDING.
unfoldable pub without_padding : List (Result FrameValue InvalidFrame) → List (Result FrameValue InvalidFrame)
without_padding is = filter (λ i. not (pads i)) is

-- No PADDING stands in front.
abbrev pub BeginsUnpadded : List (Result FrameValue InvalidFrame) → Type 0
BeginsUnpadded [] = Unit {0}
BeginsUnpadded (i ∷ is) = pads i ≡ false
