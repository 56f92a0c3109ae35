-- What is to be acknowledged, and when (RFC 9000, section 13.2).
use Rattle.std.specs.Prelude.{ℕ, ◌+◌, ◌-◌, ◌/◌, ◌^◌, ◌||◌, min, Bool, Option}
use Rattle.quic_wire.specs.Value.{AckValue}
use Rattle.quic_wire.specs.AckSet.{ack_of_set}
use Rattle.quic_recovery_core.specs.PendingAcks.{Pending, delay_of}
use Rattle.quic_spaces.specs.Marks.{Counts}

-- when an acknowledgement is due that may wait so long from a moment on, both in nanoseconds (RFC
-- 9000, section 13.2.1)
abbrev pub ack_due : ℕ → ℕ → ℕ
ack_due delay moment = min (moment + delay) (2 ^ 64 - 1)

-- an acknowledgement is due, if it was or is made so
abbrev pub with_due : Bool → Pending → Pending
with_due due p = record p { due = p.due || due }

-- so many nanoseconds as an ACK frame says them: whole microseconds, less their last three bits
-- (RFC 9000, sections 18.2 and 19.3)
abbrev pub written_delay : ℕ → ℕ
written_delay nanos = min (nanos / 1000 / 8) (2 ^ 62 - 1)

-- the delay that an ACK frame of a moment says: how long ago the packet of the greatest number came
abbrev pub delay_at : Pending → ℕ → ℕ
delay_at p now = written_delay (delay_of p.newest now)

-- what an ACK frame says at a moment, with these counts of marks or with none
abbrev pub ack_at : Pending → ℕ → Option Counts → AckValue
ack_at p now counts = ack_of_set (delay_at p now) p.runs counts

-- the most bytes of an ACK frame with 64 ranges: its type, four numbers, two for each further
-- range, and three counts
abbrev pub most_ack_bytes : ℕ
most_ack_bytes = 1065
