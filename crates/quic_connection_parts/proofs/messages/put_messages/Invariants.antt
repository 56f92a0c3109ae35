use Rattle.std.proofs.Common.{◌≡◌, ◌-◌, ◌+◌, ◌≤◌, ◌++◌, map, take, vec_len, vec_capacity, length}
use Rattle.quic_wire.specs.Value.{datagram}
use Rattle.quic_wire.specs.Writing.{spelled_all}
use Rattle.quic_messages.specs.Messages.{Messages}
use Rattle.quic_connection_parts.specs.Frames.{message_part, messages_left}
use Rattle.quic_connection_parts.proofs.messages.put_messages.Given as goal

abbrev pub invariant-loop-message : goal.invariant-loop-message
invariant-loop-message l = record {
  items : l.out.items ++ spelled_all (map datagram (message_part l.most (vec_len l.out - l.body) l.datagrams.outgoing)) ≡ l.initial.out.items ++ spelled_all (map datagram (message_part l.most (vec_len l.initial.out - l.body) l.initial.datagrams.outgoing));
  left : ◌≡◌ {A = Messages} (record l.datagrams { outgoing = messages_left l.most (vec_len l.out - l.body) l.datagrams.outgoing }) (record l.initial.datagrams { outgoing = messages_left l.most (vec_len l.initial.out - l.body) l.initial.datagrams.outgoing });
  within : vec_len l.out ≤ l.body + l.most;
  grows : vec_len l.initial.out ≤ vec_len l.out;
  capacity : vec_capacity l.initial.out ≤ vec_capacity l.out;
  front : take (vec_len l.initial.out) l.out.items ≡ l.initial.out.items;
}

abbrev pub decreases-loop-message : goal.decreases-loop-message
decreases-loop-message l = length l.datagrams.outgoing
