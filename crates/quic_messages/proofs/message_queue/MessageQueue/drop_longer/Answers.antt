use Rattle.std.proofs.Common.{sym, subst, arith}
use Rattle.quic_messages.proofs.Longest.{AreWithin, within_more, all_pass}
use Rattle.quic_messages.proofs.message_queue.MessageQueue.drop_longer.Goals as goal

pub returns-else-self-size : goal.returns-else-self-size
returns-else-self-size g c =
    let short = c.if-self-size.false in
    let within = within_more c.self.inside.longest c.args.size c.self.inside.messages.items (omega arith) c.self.invariant.1 in
    sym (all_pass c.args.size c.args.self.now (subst (AreWithin c.args.size) c.self.view_is within))
