use Rattle.std.proofs.Common.{◌≡◌, ◌+◌, sym, subst, length}
use Rattle.quic_send_buffer.specs.KeptBytes.{KeptBytes, pieces_of}
use Rattle.quic_send_buffer.proofs.Kept.Pieces.{end_is}
use Rattle.quic_send_buffer.proofs.send_buffer.pieces.Pieces.end.Goals as goal

pub returns-clause-value : goal.returns-clause-value
returns-clause-value c =
    let v = c.self.inside in
    subst (λ (k : KeptBytes). v.end ≡ k.base + length k.bytes) c.self.view_is (sym (end_is v.base v.end (pieces_of v.queue) c.self.invariant.0))
