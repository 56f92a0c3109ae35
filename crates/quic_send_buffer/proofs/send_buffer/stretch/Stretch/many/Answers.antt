use Rattle.quic_send_buffer.proofs.Kept.Runs.{many_is}
use Rattle.quic_send_buffer.proofs.send_buffer.stretch.Stretch.many.Goals as goal

pub returns : goal.returns
returns c = (many_is c.args.end c.args.run c.requires.some c.requires.each c.requires.placed).1

pub invariant_of-result : goal.invariant_of-result
invariant_of-result c = (many_is c.args.end c.args.run c.requires.some c.requires.each c.requires.placed).0
