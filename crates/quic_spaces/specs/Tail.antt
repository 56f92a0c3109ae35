-- How the tail of what is tracked is counted.
use Rattle.std.specs.Prelude.{◌≡◌, ℕ, ◌+◌, ◌-◌, ◌≤◌, ◌^◌, min, Bool, true, false, Option, Some, None}
use Rattle.quic_streams_parts.specs.Table.{Table, at, without}
use Rattle.quic_sent_packets.specs.Packets.{TrackedPacket}
use Rattle.quic_spaces.specs.Tracking.{is_behind}

-- the first number above the greatest that asks, as far as 64 bits go
abbrev pub tail_start : Option ℕ → ℕ
tail_start None = 0
tail_start (Some greatest) = min (greatest + 1) (2 ^ 64 - 1)

-- a number above the greatest that asks lies at or above another
abbrev pub IsBehindFrom : Option ℕ → ℕ → ℕ → Type 0
IsBehindFrom greatest low n = is_behind greatest n ≡ true → low ≤ n

-- the packet of a number, if there is a number
abbrev pub at_if : Option ℕ → Table TrackedPacket → Option TrackedPacket
at_if None packets = None
at_if (Some n) packets = at packets n

-- the packets without it
abbrev pub without_if : Option ℕ → Table TrackedPacket → Table TrackedPacket
without_if None packets = packets
without_if (Some n) packets = without packets n

-- 1 where something holds, else 0
abbrev pub one_if : Bool → ℕ
one_if true = 1
one_if false = 0
