-- A packet number space of an end (RFC 9000, section 12.3; RFC 9002, section A.1): what it gave and
-- opened, what it has to acknowledge, and what it waits for.
use Rattle.std.specs.Prelude.{ℕ, Bool, true, false, not, nat_lt, ◌||◌, Option, Some, None}
use Rattle.std.proofs.Common.{lit<}
use Rattle.quic_wire.specs.declared.frame.ack.EcnCounts.{EcnCounts}
use Rattle.quic_recovery_core.specs.PendingAcks.{none_pending}
use Rattle.quic_streams_parts.specs.Table.{put}
use Rattle.quic_retransmits.specs.Retransmits.{Retransmits, merged}
use Rattle.quic_streams_state.specs.declared.state.StreamsState.{StreamsState}
use Rattle.quic_streams_state.specs.Waiting.{is_empty}
use Rattle.quic_spaces.specs.Numbers.{no_numbers}
use Rattle.quic_spaces.specs.Tracking.{TrackedPacket, nothing_tracked, without_record}
use Rattle.quic_spaces.specs.Records.{first_record}
use Rattle.quic_spaces.specs.declared.space.PacketSpace.{PacketSpace}

-- no packet came with a mark
abbrev pub no_counts : EcnCounts
no_counts = record { ect0 = 0; ect1 = 0; ce = 0; small = (lit< tt, lit< tt, lit< tt) }

-- nothing was given or opened since a moment
abbrev pub new_space : ℕ → PacketSpace
new_space now = record {
  numbers = no_numbers;
  acknowledging = none_pending;
  tracking = nothing_tracked now;
  ping_pending = false;
  immediate_ack_pending = false;
  ecn_counters = no_counts;
  ecn_feedback = no_counts;
}

-- whether something other than an acknowledgement waits to be sent, beside the bytes of streams
abbrev pub other_waits : PacketSpace → Retransmits → StreamsState → Bool
other_waits s pending streams = not (is_empty pending streams) || s.ping_pending || s.immediate_ack_pending

-- ---- a probe (RFC 9002, section 6.2.4)

-- what a space and what waits beside the bytes of streams become
pub record Probed : Type 0 where
  pub space : PacketSpace
  pub pending : Retransmits

-- a record moves from its packet, which stays tracked, to what waits; where there is none, PING
-- waits, unless IMMEDIATE_ACK does
abbrev pub record_moved : Option (ℕ × TrackedPacket) → PacketSpace → Retransmits → Probed
record_moved None s pending = record { space = record s { ping_pending = s.ping_pending || not s.immediate_ack_pending }; pending = pending }
record_moved (Some p) s pending = record {
  space = record s { tracking = record s.tracking { packets = put s.tracking.packets p.0 (without_record p.1) } };
  pending = merged pending p.1.carried.retransmits;
}

-- where nothing waits, a record does, or PING
abbrev pub probe_filled : Bool → PacketSpace → Retransmits → StreamsState → Probed
probe_filled true s pending streams = record_moved (first_record streams s.tracking.packets) s pending
probe_filled false s pending streams = record { space = s; pending = pending }

-- where probes wait, IMMEDIATE_ACK waits if it is asked for, and so does something else to send
abbrev pub probe_queued : Bool → Bool → PacketSpace → Retransmits → StreamsState → Probed
probe_queued true immediate s pending streams = probe_filled (is_empty pending streams) (record s { immediate_ack_pending = s.immediate_ack_pending || immediate }) pending streams
probe_queued false immediate s pending streams = record { space = s; pending = pending }

-- what waits for a probe
abbrev pub after_probe_queued : Bool → PacketSpace → Retransmits → StreamsState → Probed
after_probe_queued immediate s pending streams = probe_queued (nat_lt 0 s.tracking.probes) immediate s pending streams
