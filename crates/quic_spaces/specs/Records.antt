-- Which packet has something that has to be sent again (RFC 9002, section 6.2.4).
use Rattle.std.specs.Prelude.{ℕ, Bool, false, not, if◌then◌else◌, [], ◌∷◌, Option, Some, None}
use Rattle.quic_streams_parts.specs.Table.{Table}
use Rattle.quic_streams_state.specs.declared.state.StreamsState.{StreamsState}
use Rattle.quic_streams_state.specs.Waiting.{is_empty}
use Rattle.quic_spaces.specs.Tracking.{TrackedPacket}

-- the first packet whose record has something that would be written
abbrev pub first_record : StreamsState → Table TrackedPacket → Option (ℕ × TrackedPacket)
first_record streams [] = None
first_record streams (p ∷ ps) = if is_empty p.1.carried.retransmits streams then first_record streams ps else Some p

-- whether a packet, if it is there, has such a record
abbrev pub has_record : StreamsState → Option TrackedPacket → Bool
has_record streams None = false
has_record streams (Some p) = not (is_empty p.carried.retransmits streams)
