use Rattle.std.proofs.Common.{◌≡◌, ◌+◌, ◌≤◌, ◌++◌, length}
use Rattle.std.specs.VecDeque.{deque_len, deque_capacity}
use Rattle.std.specs.VecDeque.Iter.{deque_iter_rest}
use Rattle.quic_retransmits.proofs.lists.append.Given as goal

abbrev pub invariant-loop-item : goal.invariant-loop-item
invariant-loop-item g l = record {
  items : l.list.items ++ deque_iter_rest l.item-iterator ≡ l.initial.list.items ++ l.more.items;
  room : deque_len l.list + length (deque_iter_rest l.item-iterator) ≤ deque_capacity l.list;
}
