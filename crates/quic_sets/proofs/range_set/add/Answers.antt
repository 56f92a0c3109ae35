use Rattle.std.proofs.Common.{arith}
use Rattle.quic_sets.proofs.RunEdits.{union_more}
use Rattle.quic_sets.proofs.range_set.add.Goals as goal

pub loop-run-preserved : goal.loop-run-preserved
loop-run-preserved c =
    let done = rw c.unwrap.ensures at c.insert.ensures.ok in
    record {
      runs = c.insert.ensures.runs;
      room = omega (arith, c.insert.ensures.len, c.insert.ensures.capacity, c.loop-run.invariant.room, c.loop-run-test.true);
      so_far = union_more c.args.runs.now.items c.args.other.now c.loop-run.runs.items c.insert.new.runs.items c.loop-run.run-index c.loop-run-test.true c.loop-run.invariant.so_far done;
    }
