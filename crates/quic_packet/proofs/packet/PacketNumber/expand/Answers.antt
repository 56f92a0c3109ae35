use Rattle.std.proofs.Common.{rules, ◌+◌, ◌/◌, ◌*◌, arith}
use Rattle.quic_packet.proofs.Numbers.{expansion_of}
use Rattle.quic_packet.proofs.packet.PacketNumber.expand.Goals as goal

pub returns-clause-expansion : goal.returns-clause-expansion
returns-clause-expansion c = expansion_of c.args.self c.args.expected (c.from-residue.result + c.saturating_sub.result / c.window-window.result * c.window-window.result) (search rules) (omega arith) (omega arith) (search rules)
