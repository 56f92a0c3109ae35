use Rattle.std.proofs.Common.{arith, refl}
use Rattle.quic_assembler.proofs.Parts.Last.{last_ends, last_found, last_passed}
use Rattle.quic_assembler.proofs.assembler.parts.ends_at_last.Goals as goal

pub returns-then-at-end-2-clause-behind : goal.returns-then-at-end-2-clause-behind
returns-then-at-end-2-clause-behind c =
    let le = c.if-at-end.false in
    (last_ends 0 c.args.at (c.in-Some.end, c.in-Some.field-0-1.now) c.args.parts.now c.requires c.in-Some.ensures.last (omega arith)).1

pub returns-else-at-end-2-clause-behind : goal.returns-else-at-end-2-clause-behind
returns-else-at-end-2-clause-behind c =
    let le = c.if-at-end.false in
    (last_ends 0 c.args.at (c.in-Some.end, c.in-Some.field-0-1.now) c.args.parts.now c.requires c.in-Some.ensures.last (omega arith)).1

pub returns-then-at-end-2-clause-touching : goal.returns-then-at-end-2-clause-touching
returns-then-at-end-2-clause-touching c =
    rw (last_found c.args.at (c.in-Some.end, c.in-Some.field-0-1.now) c.args.parts.now c.in-Some.ensures.last c.if-at-end-2.true) refl

pub returns-else-at-end-2-clause-touching : goal.returns-else-at-end-2-clause-touching
returns-else-at-end-2-clause-touching c =
    let le = c.if-at-end.false in
    let other = c.if-at-end-2.false in
    rw (last_passed 0 c.args.at (c.in-Some.end, c.in-Some.field-0-1.now) c.args.parts.now c.requires c.in-Some.ensures.last (omega arith)) refl
