use Rattle.std.proofs.Common.{rules}
use Rattle.quic_peer_core.proofs.Coming.{receives-told}
use Rattle.quic_peer_core.proofs.end.take.Goals as goal

pub returns : goal.returns
returns c =
    let came = c.receive-received.ensures in
    receives-told c.args.remote c.args.datagram.now.now c.args.datagram.now.ecn c.args.datagram.now.bytes _ c.receive-received.result c.args.end.now c.receive-received.new.self _ (search rules) came.answer came.end came.failed (search rules)
