-- Reading ACK frames from left to right (RFC 9000, section 19.3): the first field that can't be
-- read, or that isn't allowed, names the refusal.
use Rattle.std.specs.Prelude.{ℕ, zero, suc, ◌+◌, ◌-◌, Bool, true, false, List, [], ◌∷◌, Option, Some, None, Result, Ok, Err, nat_lt, if◌then◌else◌}
use Rattle.quic_wire.specs.declared.frame.FrameError.{FrameError}
use Rattle.quic_wire.specs.declared.frame.FrameError.TheVariants.{Malformed}
use Rattle.quic_wire_core.specs.Taking.{◌>>=◌}
use Rattle.quic_wire.specs.Fields.{var_at}
use Rattle.quic_wire.specs.Value.{AckValue}

-- One more range below the least number so far: a gap, and the length behind it. The greatest
-- number of the range is `low - gap - 2`, its least is the length below that (section 19.3.1).
unfoldable pub range_at : ℕ → List ℕ → Result ((ℕ × ℕ) × List ℕ) FrameError
range_at low bytes = do
  gap ← var_at bytes
  if nat_lt low (gap.0 + 2) then Err Malformed else do
    len ← var_at gap.1
    if nat_lt (low - (gap.0 + 2)) len.0 then Err Malformed else Ok ((low - (gap.0 + 2) - len.0, low - (gap.0 + 2)), len.1)

-- So many more ranges, each below the one before it.
unfoldable pub ranges_at : ℕ → ℕ → List ℕ → Result (List (ℕ × ℕ) × List ℕ) FrameError
ranges_at zero low bytes = Ok ([], bytes)
ranges_at (suc n) low bytes = do
  first ← range_at low bytes
  others ← ranges_at n first.0.0 first.1
  Ok (first.0 ∷ others.0, others.1)

-- What is left behind what was read.
abbrev pub behind : {T : Type 0} → Result (T × List ℕ) FrameError → Result (ℕ × List ℕ) FrameError
behind read = read >>= λ x. Ok (0, x.1)

-- The counts of ECT(0), ECT(1) and ECN-CE (section 19.3.2).
unfoldable pub ecn_at : List ℕ → Result ((ℕ × ℕ × ℕ) × List ℕ) FrameError
ecn_at bytes = do
  ect0 ← var_at bytes
  ect1 ← var_at ect0.1
  ce ← var_at ect1.1
  Ok ((ect0.0, ect1.0, ce.0), ce.1)

-- The counts, where they stand behind the ranges.
unfoldable pub some_ecn_at : Bool → List ℕ → Result (Option (ℕ × ℕ × ℕ) × List ℕ) FrameError
some_ecn_at false bytes = Ok (None, bytes)
some_ecn_at true bytes = do
  ecn ← ecn_at bytes
  Ok (Some ecn.0, ecn.1)

-- An ACK frame behind its type: greatest number, delay, count of further ranges, length of the
-- first range, further ranges, counts.
unfoldable pub ack_at : Bool → List ℕ → Result (AckValue × List ℕ) FrameError
ack_at ecn bytes = do
  largest ← var_at bytes
  delay ← var_at largest.1
  count ← var_at delay.1
  first ← var_at count.1
  if nat_lt largest.0 first.0 then Err Malformed else do
    ranges ← ranges_at count.0 (largest.0 - first.0) first.1
    counts ← some_ecn_at ecn ranges.1
    Ok (record { largest = largest.0; delay = delay.0; ranges = (largest.0 - first.0, largest.0) ∷ ranges.0; ecn = counts.0 }, counts.1)
