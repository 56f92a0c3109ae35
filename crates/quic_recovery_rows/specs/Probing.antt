-- Packet number spaces in which probes wait, at worked values.
use Rattle.std.specs.Prelude.{true, [], ◌∷◌}
use Rattle.quic_retransmits.specs.Retransmits.{Retransmits, nothing_waits}
use Rattle.quic_sent_packets.specs.Packets.{TrackedPacket}
use Rattle.quic_spaces.specs.declared.space.PacketSpace.{PacketSpace}
use Rattle.quic_spaces.specs.Space.{new_space}
use Rattle.quic_spaces.specs.Tracking.{after_sent, after_loss_timeout}
use Rattle.quic_recovery_rows.specs.Tracked.{packet}

-- the loss timer expired of a space that sent nothing
abbrev pub expired_space : PacketSpace
expired_space = record (new_space 0) { tracking = after_loss_timeout (new_space 0).tracking }

-- MAX_DATA, and RESET_STREAM of stream 0 with code 7
abbrev pub two_frames : Retransmits
two_frames = record nothing_waits { max_data = true; reset_stream = (0, 7) ∷ [] }

-- a packet that carried these
abbrev pub recorded_packet : TrackedPacket
recorded_packet = record (packet 0 true) { carried = record (packet 0 true).carried { retransmits = two_frames } }

-- it went under number 0, and the loss timer expired
abbrev pub lost_space : PacketSpace
lost_space = record (new_space 0) { tracking = after_loss_timeout (after_sent (new_space 0).tracking 0 recorded_packet) }
