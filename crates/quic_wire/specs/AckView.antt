-- What an ACK frame says that was read, and what makes its ranges readable again.
use Rattle.std.specs.Prelude.{ℕ, ◌-◌, ◌≤◌, ◌<◌, ◌^◌, Bool, false, List, [], ◌∷◌, ◌++◌, Option, Some, None, option_map, Result, Ok, Err, IsOk}
use Rattle.std.specs.Borrow.{Bor}
use Rattle.std.specs.Range.{range_inclusive_start, range_inclusive_end, range_inclusive_exhausted}
use Rattle.std.specs.declared.ops.RangeInclusive.{RangeInclusive}
use Rattle.quic_wire.specs.declared.frame.FrameError.{FrameError}
use Rattle.quic_wire.specs.declared.frame.ack.EcnCounts.{EcnCounts}
use Rattle.quic_wire.specs.declared.frame.ack.Ack.TheInside.{Inside}
use Rattle.quic_wire.specs.declared.frame.ack.AckIter.TheInside as iter
use Rattle.quic_wire.specs.Value.{AckValue}
use Rattle.quic_wire.specs.AckReading.{ranges_at}

-- The three counts.
abbrev pub counts_view : EcnCounts → ℕ × ℕ × ℕ
counts_view e = (e.ect0, e.ect1, e.ce)

-- The counts, where there are some.
abbrev pub ecn_view : Option EcnCounts → Option (ℕ × ℕ × ℕ)
ecn_view = option_map counts_view

-- The counts behind a reference, where there are some.
abbrev pub shown_ecn : Option (Bor EcnCounts) → Option (ℕ × ℕ × ℕ)
shown_ecn = option_map (λ e. counts_view e.now)

-- The ranges that were read.
abbrev pub ranges_of : Result (List (ℕ × ℕ) × List ℕ) FrameError → List (ℕ × ℕ)
ranges_of (Ok x) = x.0
ranges_of (Err e) = []

-- The ranges below the first.
abbrev pub others_of : Inside → List (ℕ × ℕ)
others_of a = ranges_of (ranges_at a.count (a.largest - a.first) a.blocks.now)

-- What the frame says.
abbrev pub ack_view : Inside → AckValue
ack_view a = record { largest = a.largest; delay = a.delay; ranges = (a.largest - a.first, a.largest) ∷ others_of a; ecn = ecn_view a.ecn }

-- The numbers have forms, and the further ranges can be read.
pub record IsAck (a : Inside) : Type 0 where
  pub largest : a.largest < 2 ^ 62
  pub delay : a.delay < 2 ^ 62
  pub first : a.first ≤ a.largest
  pub ranges : IsOk (ranges_at a.count (a.largest - a.first) a.blocks.now)

-- The range that comes before those in the bytes, where it is still to come.
abbrev pub front : Option (ℕ × ℕ) → List (ℕ × ℕ)
front None = []
front (Some r) = r ∷ []

-- The ranges that are left.
abbrev pub iter_view : iter.Inside → List (ℕ × ℕ)
iter_view a = front a.first ++ ranges_of (ranges_at a.count a.low a.blocks.now)

-- The ranges that stand in the bytes can be read.
abbrev pub IsAckIter : iter.Inside → Type 0
IsAckIter a = IsOk (ranges_at a.count a.low a.blocks.now)

-- A range of the standard library by its bounds, and whether it is used up.
abbrev pub bounds_of : RangeInclusive ℕ → ℕ × ℕ × Bool
bounds_of r = (range_inclusive_start r, range_inclusive_end r, range_inclusive_exhausted r)

-- A whole range from its least number to its greatest.
abbrev pub whole : ℕ × ℕ → ℕ × ℕ × Bool
whole r = (r.0, r.1, false)
