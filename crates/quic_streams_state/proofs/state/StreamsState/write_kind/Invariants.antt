use Rattle.std.proofs.Common.{◌≡◌, ◌≤◌, length, take, vec_len, vec_capacity}
use Rattle.quic_streams_state.specs.Control.{waiting, no_frames, with_kind}
use Rattle.quic_streams_state.proofs.Going.{Left}
use Rattle.quic_streams_state.proofs.state.StreamsState.write_kind.Given as goal

-- what is left gives the same
abbrev pub invariant-waiting : goal.invariant-waiting
invariant-waiting l = record {
  left : Left l.initial.out.items (with_kind l.max_size (no_frames (vec_len l.initial.out) l.initial.self l.initial.pending l.initial.sent) l.kind) l.out.items (with_kind l.max_size (no_frames (vec_len l.out) l.self l.pending l.sent) l.kind);
  begins : take (vec_len l.initial.out) l.out.items ≡ l.initial.out.items;
  grows : vec_len l.initial.out ≤ vec_len l.out;
  stays : vec_len l.out ≤ l.max_size;
  capacity : vec_capacity l.initial.out ≤ vec_capacity l.out;
  room : l.max_size ≤ vec_capacity l.out;
}

abbrev pub decreases-waiting : goal.decreases-waiting
decreases-waiting l = length (waiting l.kind l.pending)
