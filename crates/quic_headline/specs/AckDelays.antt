-- Which delay an ACK frame says (RFC 9000, sections 13.2.5 and 19.3): how long ago the packet came
-- with the greatest number that its end took, in the units that its peer was told.
use Rattle.std.specs.Prelude.{ℕ, suc, ◌-◌, ◌/◌, ◌^◌, ◌<◌, ◌≤◌, ◌≡◌, min, max, ◌∷◌}
use Rattle.quic_wire_core.specs.declared.stream_id.Side.{Side}
use Rattle.quic_wire_core.specs.StreamId.{other_side}
use Rattle.quic_wire.specs.Value.{AckValue, ack}
use Rattle.quic_machine.specs.Machine.{end_at}
use Rattle.quic_headline.specs.Runs.{Run, Packet, In}
use Rattle.quic_headline.specs.Observer.{terms_of, watch, took}
use Rattle.quic_headline.specs.Polls.{GaveOne}

-- A packet was taken by one of the first so many answers, and its end had come to this moment by
-- then: that of the delivery, or a later one that it had taken over before.
pub record CameAt (r : Run) (side : Side) (i : ℕ) (p : Packet) (moment : ℕ) : Type 0 where
  pub place : ℕ
  pub before : place < i
  pub came : took r side (suc place) ≡ p ∷ took r side place
  pub clock : (watch r side (suc place)).clock ≡ moment

-- by how many bits an end shifts the delays in its ACK frames, as it told its peer when the
-- connection began (section 18.2)
abbrev pub exponent_told : Run → Side → ℕ
exponent_told r side = (terms_of (end_at (other_side side) r.start)).exponent

-- so many nanoseconds as an ACK frame says them: whole microseconds, shifted so, and no more than a
-- variable-length integer holds (section 16)
abbrev pub delay_said : ℕ → ℕ → ℕ
delay_said exponent nanos = min (nanos / 1000 / 2 ^ exponent) (2 ^ 62 - 1)

-- A delay is how long before a moment the packet came with the greatest number of all that an end
-- took before.
pub record IsSince (r : Run) (side : Side) (i moment delay : ℕ) : Type 0 where
  pub packet : Packet
  pub came_at : ℕ
  pub came : CameAt r side i packet came_at
  pub greatest : (other : Packet) → In other (took r side i) → other.number ≤ packet.number
  pub says : delay ≡ delay_said (exponent_told r side) (moment - came_at)

-- each ACK frame's delay is the time from the arrival of that packet until the frame goes, which
-- names it unless its peer is known to know of it
abbrev pub AcksSayDelay : Run → Type 0
AcksSayDelay r = (side : Side) (i now : ℕ) (given : GaveOne r side i now) (a : AckValue) → In (ack a) given.sent.frames → IsSince r side i (max (watch r side i).clock now) a.delay
