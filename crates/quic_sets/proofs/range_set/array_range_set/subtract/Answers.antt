use Rattle.std.proofs.Common.{arith}
use Rattle.quic_sets.proofs.RunEdits.{difference_more}
use Rattle.quic_sets.proofs.range_set.array_range_set.subtract.Goals as goal

pub loop-run-preserved : goal.loop-run-preserved
loop-run-preserved c =
    let done = rw c.unwrap.ensures at c.remove.ensures.ok in
    record {
      runs = c.remove.ensures.runs;
      room = omega (arith, c.remove.ensures.len, c.remove.ensures.capacity, c.loop-run.invariant.room, c.loop-run-test.true);
      so_far = difference_more c.args.runs.now.items c.args.other.now c.loop-run.runs.items c.remove.new.runs.items c.loop-run.run-index c.loop-run-test.true c.loop-run.invariant.so_far done;
    }
