use Rattle.std.proofs.Common.{◌≡◌, ◌<◌, ◌≤◌, All, length}
use Rattle.quic_messages.specs.Messages.{at_least, bytes_of, left_for}
use Rattle.quic_messages.proofs.message_queue.MessageQueue.push.Given as goal

abbrev pub invariant-loop-self : goal.invariant-loop-self
invariant-loop-self g l = record {
  total : l.self-inside.total ≡ bytes_of (at_least g.row.LEAST) l.self-inside.messages.items;
  left : left_for (at_least g.row.LEAST) l.room l.bytes l.self-inside.messages.items ≡ left_for (at_least g.row.LEAST) l.room l.bytes l.fn.self;
  short : All (λ m. length m ≤ l.self-inside.longest) l.self-inside.messages.items;
  fits : length l.message ≤ l.self-inside.longest;
  place : l.self-inside.messages.len < l.self-inside.messages.cap;
}

abbrev pub decreases-loop-self : goal.decreases-loop-self
decreases-loop-self g l = l.self-inside.messages.len
