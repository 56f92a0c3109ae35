use Rattle.std.proofs.Common.{◌≡◌, ◌∷◌, arith}
use Rattle.quic_wire.specs.FrameView.{stream_view}
use Rattle.quic_wire.proofs.Unpadded.{stream_next}
use Rattle.quic_wire.proofs.frame.unpadded.Unpadded.next_stream.Goals as goal

pub returns-in-Ok-clause-some : goal.returns-in-Ok-clause-some
returns-in-Ok-clause-some c =
    let ty = c.in_ok-first.first.now in
    let parts : c.args.self.now ≡ ty ∷ c.in_ok-first.behind.now = rw c.self.view_is at c.in_ok-first.ensures.cases.0 in
    stream_next ty c.args.self.now c.in_ok-first.behind.now c.stream_of.new.bytes.now (stream_view c.in-Ok.frame) (omega (arith, c.if-ty-lt8.false)) (omega (arith, c.if-ty-gt15.false)) parts (rw c.into.ensures at c.in-Ok.ensures)
