use Rattle.std.proofs.Common.{◌≡◌, ◌-◌, subst, length, arith}
use Rattle.quic_send_buffer.specs.KeptBytes.{KeptBytes, pieces_of}
use Rattle.quic_send_buffer.proofs.Kept.Pieces.{end_is}
use Rattle.quic_send_buffer.proofs.send_buffer.pieces.Pieces.len.Goals as goal

pub overflow_sub-result : goal.overflow_sub-result
overflow_sub-result c =
    let v = c.self.inside in
    let ends = end_is v.base v.end (pieces_of v.queue) c.self.invariant.0 in
    omega (arith, ends)

pub returns : goal.returns
returns c =
    let v = c.self.inside in
    let ends = end_is v.base v.end (pieces_of v.queue) c.self.invariant.0 in
    subst (λ (k : KeptBytes). v.end - v.base ≡ length k.bytes) c.self.view_is (omega (arith, ends))
