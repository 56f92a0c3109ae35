-- How often an end is asked to acknowledge (QUIC Acknowledgement Frequency, section 4), as an
-- observer of a run's lists reads it off the frames that the end took. The constants are the
-- observer's own.
use Rattle.std.specs.Prelude.{ℕ, ◌*◌, ◌-◌, ◌^◌, min, nat_lt, Bool, true, if◌then◌else◌, List, [], ◌∷◌, Option, Some, None}
use Rattle.quic_wire.specs.Value.{FrameValue, AckFrequencyValue, ack_frequency}
use Rattle.quic_headline.specs.Runs.{Packet}

-- what the newest ACK_FREQUENCY frame asks for: its number, if one came; how long an
-- acknowledgement may wait, in nanoseconds; how many packets may wait for one that ask for it; and
-- how far out of order one of them may come, where 0 is as far as it likes
pub record Requested : Type 0 where
  pub last : Option ℕ
  pub delay : ℕ
  pub threshold : ℕ
  pub reordering : ℕ

-- before one came: an acknowledgement may wait for 25 ms (RFC 9000, section 18.2), with the second
-- packet that asks one goes, and each of them has to come in order (sections 13.2.1 and 13.2.2)
abbrev pub nothing_requested : Requested
nothing_requested = record { last = None; delay = 25000000; threshold = 1; reordering = 1 }

-- whether a frame is newer than the one before, if there was one
abbrev pub is_newer : Option ℕ → ℕ → Bool
is_newer None n = true
is_newer (Some m) n = nat_lt m n

-- a newer frame takes the place of that; its delay is in microseconds
abbrev pub requested_after : Requested → AckFrequencyValue → Requested
requested_after r f =
    if is_newer r.last f.sequence then record { last = Some f.sequence; delay = min (f.delay * 1000) (2 ^ 64 - 1); threshold = f.threshold; reordering = f.reordering } else r

-- what is asked for behind frames, one behind another
abbrev pub requested_by : List FrameValue → Requested → Requested
requested_by [] r = r
requested_by (ack_frequency f ∷ fs) r = requested_by fs (requested_after r f)
requested_by (other ∷ fs) r = requested_by fs r

-- what is asked for behind packets that came, of which the latest stands first
abbrev pub requested : List Packet → Requested
requested [] = nothing_requested
requested (p ∷ ps) = requested_by p.frames (requested ps)
