use Rattle.std.proofs.lemmas.Result.{err_from_is_err_and}
use Rattle.quic_wire.specs.AckReading.{ranges_at, behind}
use Rattle.quic_wire.proofs.AckSteps.{goes_on, ends, is_done}
use Rattle.quic_wire.proofs.frame.ack.reading.skip_ranges.Goals as goal

pub returns-in_err-low : goal.returns-in_err-low
returns-in_err-low c =
    let p = err_from_is_err_and c.from_residual.result c.from_residual.ensures.1 in
    let e = ends c.args.count c.loop.counter c.loop.low c.loop.bytes.now c.in_err-low.field-0.0 (behind (ranges_at c.args.count c.args.below c.args.bytes.now.now)) c.loop-test.true c.in_err-low.ensures c.loop.invariant in
    rw (p.1, p.2) e

pub loop-preserved : goal.loop-preserved
loop-preserved c = goes_on c.args.count c.loop.counter c.loop.low c.loop.bytes.now c.in_ok-low.field-0 c.range_of.new.bytes.now (behind (ranges_at c.args.count c.args.below c.args.bytes.now.now)) c.loop-test.true c.in_ok-low.ensures c.loop.invariant

pub returns : goal.returns
returns c = is_done c.args.count c.loop.counter c.loop.low c.loop.bytes.now (behind (ranges_at c.args.count c.args.below c.args.bytes.now.now)) c.loop-test.false c.loop.invariant
