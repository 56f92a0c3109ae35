use Rattle.std.proofs.Common.{◌+◌, ◌-◌, ◌++◌, ◌∷◌, [], ◌∙◌, sym, arith}
use Rattle.std.proofs.lemmas.List.{append-nil}
use Rattle.std.proofs.lemmas.Result.{err_from_is_err_and}
use Rattle.quic_wire.specs.AckGrammar.{range_numbers}
use Rattle.quic_wire.specs.Writing.{written}
use Rattle.quic_wire.proofs.AckWritten.{begins_trans, begins_still, one_range, range_sizes, first_left, none_left}
use Rattle.quic_wire.proofs.frame.ack.writing.write_ranges.Goals as goal

-- the range that comes next is below what was written
pub overflow_add-end : goal.overflow_add-end
overflow_add-end g c =
    let e = first_left c.loop-range.range-iterator c.next.new.self c.in-Some.range c.start.result.now c.end.result.now c.in-Some.ensures.steps c.start.ensures c.end.ensures in
    let down = rw e at c.loop-range.invariant.down in
    let small = c.loop-range.invariant.small in
    let under = down.1 in
    omega (arith, small, under)

pub overflow_sub-low : goal.overflow_sub-low
overflow_sub-low g c =
    let e = first_left c.loop-range.range-iterator c.next.new.self c.in-Some.range c.start.result.now c.end.result.now c.in-Some.ensures.steps c.start.ensures c.end.ensures in
    (rw e at c.loop-range.invariant.down).1

pub overflow_sub-end : goal.overflow_sub-end
overflow_sub-end g c =
    let e = first_left c.loop-range.range-iterator c.next.new.self c.in-Some.range c.start.result.now c.end.result.now c.in-Some.ensures.steps c.start.ensures c.end.ensures in
    (rw e at c.loop-range.invariant.down).0

pub write_numbers-requires : goal.write_numbers-requires
write_numbers-requires g c =
    let e = first_left c.loop-range.range-iterator c.next.new.self c.in-Some.range c.start.result.now c.end.result.now c.in-Some.ensures.steps c.start.ensures c.end.ensures in
    let down = rw e at c.loop-range.invariant.down in
    let small = c.loop-range.invariant.small in
    let under = down.1 in
    (omega (arith, small), (omega (arith, small, under), tt))

pub returns-in_err-write_numbers-clause-err : goal.returns-in_err-write_numbers-clause-err
returns-in_err-write_numbers-clause-err g c =
    let p = err_from_is_err_and c.from_residual.result c.from_residual.ensures.1 in
    rw p.1 (begins_trans (g.B.BufMut.written c.args.buf.now) (g.B.BufMut.written c.loop-range.buf) (g.B.BufMut.written c.write_numbers.new.buf) c.loop-range.invariant.begins c.in_err-write_numbers.ensures.err)

pub returns-in_err-write_numbers-clause-spare : goal.returns-in_err-write_numbers-clause-spare
returns-in_err-write_numbers-clause-spare g c =
    let p = err_from_is_err_and c.from_residual.result c.from_residual.ensures.1 in
    let e = first_left c.loop-range.range-iterator c.next.new.self c.in-Some.range c.start.result.now c.end.result.now c.in-Some.ensures.steps c.start.ensures c.end.ensures in
    let sizes = range_sizes c.loop-range.low (c.start.result.now, c.end.result.now) c.next.new.self c.loop-range.range-iterator e in
    let so_far = c.loop-range.invariant.spare in
    let short = c.in_err-write_numbers.ensures.spare in
    rw p.1 (omega (arith, sizes, so_far, short))

pub loop-range-preserved : goal.loop-range-preserved
loop-range-preserved g c =
    let w = g.B.BufMut.written in
    let e = first_left c.loop-range.range-iterator c.next.new.self c.in-Some.range c.start.result.now c.end.result.now c.in-Some.ensures.steps c.start.ensures c.end.ensures in
    let down = rw e at c.loop-range.invariant.down in
    let sizes = range_sizes c.loop-range.low (c.start.result.now, c.end.result.now) c.next.new.self c.loop-range.range-iterator e in
    let small = c.loop-range.invariant.small in
    let so_far = c.loop-range.invariant.spare in
    let took = c.in_ok-write_numbers.ensures.spare in
    let start = down.0 in
    let under = down.1 in
    record {
      down = down.2;
      small = omega (arith, small, start, under);
      begins = begins_still (w c.args.buf.now) (w c.loop-range.buf) (w c.write_numbers.new.buf) (written ((c.loop-range.low - (c.end.result.now + 2)) ∷ (c.end.result.now - c.start.result.now) ∷ [])) c.loop-range.invariant.begins c.in_ok-write_numbers.ensures.ok;
      so_far = one_range (w c.loop-range.buf) (w c.write_numbers.new.buf) (w c.args.buf.now ++ written (range_numbers c.args.below c.args.ranges)) c.loop-range.low (c.start.result.now, c.end.result.now) c.next.new.self c.loop-range.range-iterator e c.loop-range.invariant.so_far c.in_ok-write_numbers.ensures.ok;
      spare = omega (arith, sizes, so_far, took);
    }

pub returns-clause-ok : goal.returns-clause-ok
returns-clause-ok g c =
    let e = none_left c.loop-range.range-iterator c.in-None.ensures.steps.0 in
    sym (append-nil (g.B.BufMut.written c.loop-range.buf)) ∙ (rw e at c.loop-range.invariant.so_far)
