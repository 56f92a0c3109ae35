use Rattle.std.proofs.Common.{sym, ap, ◌∙◌}
use Rattle.quic_streams_parts.specs.Table.{at}
use Rattle.quic_spaces.proofs.Tails.{exchanged, found_apart, replaced}
use Rattle.quic_spaces.proofs.tracking.exchange.Goals as goal

pub returns-then-other-number-clause-taken : goal.returns-then-other-number-clause-taken
returns-then-other-number-clause-taken c = rw c.in-Some.is (c.in_ok-replaced.ensures.replaced ∙ ap (λ m. at c.args.packets.now m) (sym c.if-other-number.true))

pub returns-then-other-number-clause-left : goal.returns-then-other-number-clause-left
returns-then-other-number-clause-left c = rw c.in-Some.is (replaced c.args.packets.now c.insert.new.self c.args.number c.in-Some.other c.args.packet c.insert.ensures.ascends c.if-other-number.true c.in_ok-replaced.ensures.ok)

pub returns-clause-taken : goal.returns-clause-taken
returns-clause-taken c =
    rw c.in-Some.is
    (found_apart c.args.packets.now c.insert.new.self c.args.number c.in-Some.other c.args.packet c.remove.result c.if-other-number.false c.in_ok-replaced.ensures.ok c.remove.ensures.taken)

pub returns-clause-left : goal.returns-clause-left
returns-clause-left c =
    rw c.in-Some.is
    (exchanged c.args.packets.now c.insert.new.self c.remove.new.self c.args.number c.in-Some.other c.args.packet c.insert.ensures.ascends c.if-other-number.false c.in_ok-replaced.ensures.ok c.remove.ensures.left)
