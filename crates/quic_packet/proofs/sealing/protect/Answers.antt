use Rattle.std.proofs.Common.{◌+◌, arith}
use Rattle.quic_packet.proofs.Places.{protects}
use Rattle.quic_packet.proofs.sealing.protect.Goals as goal

pub returns : goal.returns
returns g c = protects (g.H.HeaderKey.protection c.args.header_key.now) (g.K.PacketKey.aead c.args.packet_key.now) c.args.number_at c.args.number (c.args.number_at + c.width_in.result) c.args.packet.now c.encrypt.new.packet c.encrypt-2.new.packet c.encrypt-2.ensures c.encrypt.ensures (omega arith) c.requires.room
