use Rattle.std.proofs.Common.{arith}
use Rattle.quic_wire.proofs.AckWritten.{range_sizes, first_left, none_left}
use Rattle.quic_wire.proofs.frame.ack.size.size_of_ranges.Goals as goal

pub overflow_add-end : goal.overflow_add-end
overflow_add-end c =
    let e = first_left c.loop-range.range-iterator c.next.new.self c.in-Some.range c.start.result.now c.end.result.now c.in-Some.ensures.steps c.start.ensures c.end.ensures in
    let down = rw e at c.loop-range.invariant.down in
    let small = c.loop-range.invariant.small in
    let under = down.1 in
    omega (arith, small, under)

pub overflow_sub-low : goal.overflow_sub-low
overflow_sub-low c =
    let e = first_left c.loop-range.range-iterator c.next.new.self c.in-Some.range c.start.result.now c.end.result.now c.in-Some.ensures.steps c.start.ensures c.end.ensures in
    (rw e at c.loop-range.invariant.down).1

pub overflow_sub-end : goal.overflow_sub-end
overflow_sub-end c =
    let e = first_left c.loop-range.range-iterator c.next.new.self c.in-Some.range c.start.result.now c.end.result.now c.in-Some.ensures.steps c.start.ensures c.end.ensures in
    (rw e at c.loop-range.invariant.down).0

pub size_of_numbers-size-requires-clause-form : goal.size_of_numbers-size-requires-clause-form
size_of_numbers-size-requires-clause-form c =
    let e = first_left c.loop-range.range-iterator c.next.new.self c.in-Some.range c.start.result.now c.end.result.now c.in-Some.ensures.steps c.start.ensures c.end.ensures in
    let down = rw e at c.loop-range.invariant.down in
    let small = c.loop-range.invariant.small in
    let under = down.1 in
    (omega (arith, small), (omega (arith, small, under), tt))

pub loop-range-preserved : goal.loop-range-preserved
loop-range-preserved c =
    let e = first_left c.loop-range.range-iterator c.next.new.self c.in-Some.range c.start.result.now c.end.result.now c.in-Some.ensures.steps c.start.ensures c.end.ensures in
    let down = rw e at c.loop-range.invariant.down in
    let sizes = range_sizes c.loop-range.low (c.start.result.now, c.end.result.now) c.next.new.self c.loop-range.range-iterator e in
    let small = c.loop-range.invariant.small in
    let so_far = c.loop-range.invariant.so_far in
    let took = c.size_of_numbers-size.ensures.size in
    let start = down.0 in
    let under = down.1 in
    record { down = down.2; small = omega (arith, small, start, under); so_far = omega (arith, sizes, so_far, took) }

pub returns : goal.returns
returns c =
    let e = none_left c.loop-range.range-iterator c.in-None.ensures.steps.0 in
    let so_far = rw e at c.loop-range.invariant.so_far in
    omega (arith, so_far)
