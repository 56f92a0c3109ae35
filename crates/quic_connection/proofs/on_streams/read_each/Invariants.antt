use Rattle.std.proofs.Common.{◌≡◌, ◌≤◌, length, take, vec_len, vec_capacity}
use Rattle.quic_streams_handles.specs.Told.{told_of}
use Rattle.quic_machine.specs.Calls.{AreNexts, after_nexts}
use Rattle.quic_machine.specs.Lacking.{NextsLack}
use Rattle.quic_connection.proofs.ReadAnswers.{told_after}
use Rattle.quic_connection.proofs.on_streams.read_each.Given as goal

abbrev pub invariant-loop-max_length : goal.invariant-loop-max_length
invariant-loop-max_length l = record {
  same_reference : l.chunks.streams.ghost_name ≡ l.initial.chunks.streams.ghost_name;
  same_stream : l.chunks.id ≡ l.initial.chunks.id;
  same_new : l.chunks.is_new ≡ l.initial.chunks.is_new;
  room : length l.nexts ≤ vec_capacity l.items;
  count : vec_len l.items ≡ l.max_length-index;
  answers : AreNexts (told_of l.initial.chunks.told) l.initial.chunks.streams.now.state l.initial.chunks.id (take l.max_length-index l.nexts) l.items.items;
  lacking : NextsLack (told_of l.initial.chunks.told) l.initial.chunks.streams.now.state l.initial.chunks.id (take l.max_length-index l.nexts) l.items.items;
  told : told_of l.chunks.told ≡ told_after (told_of l.initial.chunks.told) l.items.items;
  state : l.chunks.streams.now.state ≡ after_nexts (told_of l.initial.chunks.told) l.initial.chunks.streams.now.state l.initial.chunks.id (take l.max_length-index l.nexts) l.items.items;
  pending : l.chunks.streams.now.pending ≡ l.initial.chunks.streams.now.pending;
}
