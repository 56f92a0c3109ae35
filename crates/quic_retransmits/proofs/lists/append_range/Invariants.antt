use Rattle.std.proofs.Common.{◌≡◌, ◌+◌, ◌++◌}
use Rattle.std.specs.List.{range_with_len}
use Rattle.std.specs.VecDeque.{deque_len, deque_capacity}
use Rattle.quic_retransmits.proofs.lists.append_range.Given as goal

abbrev pub invariant-loop-i : goal.invariant-loop-i
invariant-loop-i l = record {
  items : l.list.items ≡ l.initial.list.items ++ range_with_len l.start l.i;
  len : deque_len l.list ≡ deque_len l.initial.list + l.i;
  capacity : deque_capacity l.list ≡ deque_capacity l.initial.list;
}
