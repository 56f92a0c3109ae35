use Rattle.std.proofs.Common.{◌≡◌, ◌∷◌, arith}
use Rattle.quic_wire.proofs.Unpadded.{message_next}
use Rattle.quic_wire.proofs.frame.unpadded.Unpadded.next_message.Goals as goal

pub returns-in-Ok-clause-some : goal.returns-in-Ok-clause-some
returns-in-Ok-clause-some c =
    let ty = c.in_ok-first.first.now in
    let parts : c.args.self.now ≡ ty ∷ c.in_ok-first.behind.now = rw c.self.view_is at c.in_ok-first.ensures.cases.0 in
    message_next ty c.args.self.now c.in_ok-first.behind.now c.data_of.new.bytes.now c.in-Ok.message.now (omega (arith, c.if-ty-lt48.false)) (omega (arith, c.if-ty-gt49.false)) parts c.in-Ok.ensures
