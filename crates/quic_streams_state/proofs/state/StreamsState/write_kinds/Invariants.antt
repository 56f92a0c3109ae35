use Rattle.std.proofs.Common.{◌≡◌, ◌≤◌, take, drop, vec_len, vec_capacity}
use Rattle.std.specs.List.{fold}
use Rattle.quic_streams_state.specs.Control.{no_frames, with_kind}
use Rattle.quic_streams_state.proofs.Going.{Left}
use Rattle.quic_streams_state.proofs.state.StreamsState.write_kinds.Given as goal

-- what is left of the kinds gives the same
abbrev pub invariant-kinds : goal.invariant-kinds
invariant-kinds l = record {
  left : Left l.initial.out.items (fold (with_kind l.max_size) (no_frames (vec_len l.initial.out) l.initial.self l.initial.pending l.initial.sent) l.kinds) l.out.items (fold (with_kind l.max_size) (no_frames (vec_len l.out) l.self l.pending l.sent) (drop l.kind-index l.kinds));
  begins : take (vec_len l.initial.out) l.out.items ≡ l.initial.out.items;
  grows : vec_len l.initial.out ≤ vec_len l.out;
  stays : vec_len l.out ≤ l.max_size;
  capacity : vec_capacity l.initial.out ≤ vec_capacity l.out;
  room : l.max_size ≤ vec_capacity l.out;
}
