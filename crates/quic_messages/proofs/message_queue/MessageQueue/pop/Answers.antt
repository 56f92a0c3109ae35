use Rattle.std.proofs.Common.{ap, ◌∙◌}
use Rattle.quic_messages.specs.Messages.{at_least, bytes_of}
use Rattle.quic_messages.proofs.Turning.{bytes_taken}
use Rattle.quic_messages.proofs.Longest.{rest_within}
use Rattle.quic_messages.proofs.message_queue.MessageQueue.pop.Goals as goal

pub invariant_of-self-2 : goal.invariant_of-self-2
invariant_of-self-2 g c =
    let m = c.in_ok-message.message in
    let rest = c.pop_front.new.self.items in
    let takes = at_least g.row.LEAST in
    let popped = c.in_ok-message.ensures.items in
    let sum = c.self.invariant.0 ∙ ap (bytes_of takes) popped in
    rw (c.size.ensures, sum) (bytes_taken takes m rest, rest_within c.self.inside.longest m rest c.self.inside.messages.items popped c.self.invariant.1)
