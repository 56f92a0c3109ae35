-- Packets that are tracked far apart, at worked values.
use Rattle.std.specs.Prelude.{true, false, []}
use Rattle.quic_streams_parts.specs.Table.{Table, added}
use Rattle.quic_sent_packets.specs.Packets.{TrackedPacket}
use Rattle.quic_recovery_rows.specs.Tracked.{packet}

-- 0, 5000 and 3 went, of which the last asks
abbrev pub three_apart : Table TrackedPacket
three_apart = added (added (added [] 0 (packet 0 false)) 5000 (packet 5000 false)) 3 (packet 3 true)
