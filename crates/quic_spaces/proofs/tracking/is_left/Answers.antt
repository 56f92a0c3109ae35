use Rattle.std.proofs.Common.{true, false, sym, ◌∙◌, refl}
use Rattle.quic_spaces.proofs.Tails.{left_other}
use Rattle.quic_spaces.proofs.tracking.is_left.Goals as goal

pub returns-then-there : goal.returns-then-there
returns-then-there c =
    let there = sym c.if-there.true ∙ c.is_there-there.ensures.there in
    rw c.in-Some.is (left_other c.args.packets.now c.args.number c.in-Some.other true _ c.is_there-there.ensures.ascends there refl)

pub returns-else-there : goal.returns-else-there
returns-else-there c =
    let there = sym c.if-there.false ∙ c.is_there-there.ensures.there in
    rw c.in-Some.is (c.if-there.false ∙ left_other c.args.packets.now c.args.number c.in-Some.other false _ c.is_there-there.ensures.ascends there refl)
