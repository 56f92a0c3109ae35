use Rattle.std.proofs.Common.{◌≡◌, ◌-◌, ◌≤◌, take, vec_len, vec_capacity}
use Rattle.quic_streams_state.specs.Frames.{stream_frames_in}
use Rattle.quic_streams_state.proofs.Framing.{Framed}
use Rattle.quic_streams_state.proofs.state.StreamsState.write_stream_frames.Given as goal

-- the frames so far went, and those that are left go behind them
abbrev pub invariant-frames : goal.invariant-frames
invariant-frames l = record {
  framed : Framed l.fair (l.max_size - vec_len l.initial.out) (stream_frames_in l.fair (l.max_size - vec_len l.initial.out) l.initial.self) l.initial.out.items l.initial.sent.items l.out.items l.sent.items l.self;
  begins : take (vec_len l.initial.out) l.out.items ≡ l.initial.out.items;
  grows : vec_len l.initial.out ≤ vec_len l.out;
  stays : vec_len l.out ≤ l.max_size;
  capacity : vec_capacity l.initial.out ≤ vec_capacity l.out;
  room : l.max_size ≤ vec_capacity l.out;
}

abbrev pub decreases-frames : goal.decreases-frames
decreases-frames l = l.max_size - vec_len l.out
