use Rattle.std.proofs.Common.{arith}
use Rattle.quic_packet.proofs.Places.{behind_packet}
use Rattle.quic_packet.specs.Datagram.{protected}
use Rattle.quic_packet.proofs.sealing.protect_behind.Goals as goal

pub returns : goal.returns
returns g c = behind_packet c.args.start c.args.bytes.now c.protect.new.packet (protected (g.H.HeaderKey.protection c.args.header_key.now) (g.K.PacketKey.aead c.args.packet_key.now) c.args.number_at c.args.number) c.protect.ensures (omega arith)
