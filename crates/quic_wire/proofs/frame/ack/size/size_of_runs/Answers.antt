use Rattle.std.proofs.Common.{ap, ◌∙◌, arith}
use Rattle.quic_wire.specs.AckSet.{range_of_run, ranges_of_set}
use Rattle.quic_wire.proofs.AckSet.{set_snoc, runs_snoc}
use Rattle.quic_wire.proofs.AckWritten.{range_sizes}
use Rattle.quic_wire.proofs.frame.ack.size.size_of_runs.Goals as goal

pub overflow_sub-high : goal.overflow_sub-high
overflow_sub-high c =
    let some = (runs_snoc c.in-Some.lower.now 0 c.in-Some.run'.now (rw c.in-Some.ensures.cases.0 at c.loop-run.invariant.runs)).1 in
    omega (arith, some)

pub loop-run-preserved : goal.loop-run-preserved
loop-run-preserved c =
    let ranges = ap ranges_of_set c.in-Some.ensures.cases.0 ∙ set_snoc c.in-Some.lower.now c.in-Some.run'.now in
    let down = rw ranges at c.loop-run.invariant.down in
    let runs = runs_snoc c.in-Some.lower.now 0 c.in-Some.run'.now (rw c.in-Some.ensures.cases.0 at c.loop-run.invariant.runs) in
    let sizes = range_sizes c.loop-run.low (range_of_run c.in-Some.run'.now) (ranges_of_set c.in-Some.lower.now) (ranges_of_set c.loop-run.left.now) ranges in
    let small = c.loop-run.invariant.small in
    let so_far = c.loop-run.invariant.so_far in
    let most = c.loop-run.invariant.most in
    let fewer = c.in-Some.ensures.cases.1 in
    let took = c.size_of_numbers-size.ensures.size in
    let bound = c.size_of_numbers-size.ensures.bound in
    let start = down.0 in
    let under = down.1 in
    record {
      runs = runs.0;
      down = down.2;
      small = omega (arith, small, start, under);
      so_far = omega (arith, sizes, so_far, took);
      most = omega (arith, most, fewer, bound);
    }
