use Rattle.std.proofs.Common.{◌-◌}
use Rattle.quic_packet.proofs.Numbers.{fewest}
use Rattle.quic_packet.proofs.packet.PacketNumber.new.Goals as goal

pub returns-clause-fewest : goal.returns-clause-fewest
returns-clause-fewest c = rw c.width_for-width.ensures.width (fewest (c.args.n - c.args.largest_acked) c.requires.near)
