-- What waits for a probe, before IMMEDIATE_ACK that is asked for does.
use Rattle.std.specs.Prelude.{ℕ, Bool, not, ◌||◌, Option, Some, None}
use Rattle.quic_streams_parts.specs.Table.{put}
use Rattle.quic_retransmits.specs.Retransmits.{Retransmits, merged}
use Rattle.quic_streams_state.specs.declared.state.StreamsState.{StreamsState}
use Rattle.quic_spaces.specs.Tracking.{TrackedPacket, without_record}
use Rattle.quic_spaces.specs.declared.space.PacketSpace.{PacketSpace}
use Rattle.quic_spaces.specs.Records.{first_record}
use Rattle.quic_spaces.specs.Space.{Probed}

-- a record moves from its packet, or PING waits unless IMMEDIATE_ACK does or is asked for
abbrev pub moved_for : Option (ℕ × TrackedPacket) → Bool → PacketSpace → Retransmits → Probed
moved_for None immediate s pending = record {
  space = record s { ping_pending = s.ping_pending || not (s.immediate_ack_pending || immediate) };
  pending = pending;
}
moved_for (Some p) immediate s pending = record {
  space = record s { tracking = record s.tracking { packets = put s.tracking.packets p.0 (without_record p.1) } };
  pending = merged pending p.1.carried.retransmits;
}

-- the first that has one
abbrev pub probe_filled_for : Bool → PacketSpace → Retransmits → StreamsState → Probed
probe_filled_for immediate s pending streams = moved_for (first_record streams s.tracking.packets) immediate s pending
