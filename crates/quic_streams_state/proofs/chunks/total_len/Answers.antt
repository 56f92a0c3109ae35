use Rattle.std.proofs.Common.{◌≡◌, ◌-◌, ◌^◌, length, min, rules, arith}
use Rattle.quic_streams_state.proofs.Buffers.{none_left}
use Rattle.quic_send_buffer.specs.Source.{bytes_of}
use Rattle.quic_streams_state.proofs.chunks.total_len.Goals as goal

pub returns : goal.returns
returns c =
    let none : length c.loop-chunk.rest.now ≡ 0 = search rules in
    let small = c.loop-chunk.invariant.small in
    none_left c.loop-chunk.total (2 ^ 64 - 1) (min (bytes_of c.args.chunks.now) (2 ^ 64 - 1)) c.loop-chunk.rest.now none c.loop-chunk.invariant.counted (omega (arith, small))
