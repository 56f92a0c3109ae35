use Rattle.std.proofs.Common.{◌≡◌, false, rules, arith}
use Rattle.quic_lines.specs.Reading.{left_of}
use Rattle.quic_lines.proofs.Taking.{begun_more, begun_whole, begun_long, begun_filled, begun_end}
use Rattle.quic_lines.proofs.lines.Lines.next.Goals as goal

pub returns-then-branch-clause-line : goal.returns-then-branch-clause-line
returns-then-branch-clause-line g c =
    let left = left_of g.R.Read.remaining in
    begun_whole (left c.args.self.now) (left c.loop.self) (left c.take_piece.new.self) c.loop.line.items c.take_piece.new.line.items c.loop.invariant.1 (rw c.if-branch.true at c.in_ok-take_piece.ensures.moved)

pub returns-then-len-gt-MAX_LINE-clause-line : goal.returns-then-len-gt-MAX_LINE-clause-line
returns-then-len-gt-MAX_LINE-clause-line g c =
    let left = left_of g.R.Read.remaining in
    let line = c.take_piece.new.line in
    let more = begun_more (left c.args.self.now) (left c.loop.self) (left c.take_piece.new.self) c.loop.line.items line.items c.loop.invariant.1 (rw c.if-branch.false at c.in_ok-take_piece.ensures.moved) in
    begun_long (left c.args.self.now) (left c.take_piece.new.self) line.items more (omega (arith, line.ok.0))

pub returns-then-not-branch-clause-line : goal.returns-then-not-branch-clause-line
returns-then-not-branch-clause-line g c =
    let left = left_of g.R.Read.remaining in
    let line = c.take_piece.new.line in
    let more = begun_more (left c.args.self.now) (left c.loop.self) (left c.take_piece.new.self) c.loop.line.items line.items c.loop.invariant.1 (rw c.if-branch.false at c.in_ok-take_piece.ensures.moved) in
    let none : c.in_ok-fill.field-0 ≡ false = first_of (cc, search rules) in
    begun_end (left c.args.self.now) (left c.take_piece.new.self) (left c.fill.new.self) line.items c.is_empty.result _ c.is_empty.ensures line.ok.0 more (c.in_ok-fill.ensures.end none) c.in_ok-fill.ensures.left

pub loop-preserved : goal.loop-preserved
loop-preserved g c =
    let left = left_of g.R.Read.remaining in
    let line = c.take_piece.new.line in
    let more = begun_more (left c.args.self.now) (left c.loop.self) (left c.take_piece.new.self) c.loop.line.items line.items c.loop.invariant.1 (rw c.if-branch.false at c.in_ok-take_piece.ensures.moved) in
    (c.in_ok-fill.ensures.known, begun_filled (left c.args.self.now) (left c.take_piece.new.self) (left c.fill.new.self) line.items more c.in_ok-fill.ensures.left)
