use Rattle.std.proofs.Common.{◌≡◌, ◌≤◌, ◌++◌, All, length, drop, take}
use Rattle.std.specs.List.{filter}
use Rattle.quic_messages.specs.Messages.{at_least, bytes_of, is_within}
use Rattle.quic_messages.proofs.message_queue.MessageQueue.walk_out.Given as goal

abbrev pub invariant-loop : goal.invariant-loop
invariant-loop g l = record {
  total : l.self-inside.total ≡ bytes_of (at_least g.row.LEAST) l.self-inside.messages.items;
  items : l.self-inside.messages.items ≡ drop l.counter l.fn.self ++ filter (is_within l.size) (take l.counter l.fn.self);
  short : All (λ m. length m ≤ l.self-inside.longest) l.self-inside.messages.items;
  longest : All (λ m. length m ≤ l.longest) (filter (is_within l.size) (take l.counter l.fn.self));
  end : l.end ≡ length l.fn.self;
}
