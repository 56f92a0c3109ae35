use Rattle.std.proofs.Common.{◌≡◌, ◌+◌, ◌-◌, ◌<◌, ◌++◌, ◌∷◌, [], List, ap, ◌∙◌, arith}
use Rattle.std.proofs.lemmas.Result.{err_from_is_err_and}
use Rattle.quic_sets.specs.Runs.{Run, AreRuns}
use Rattle.quic_wire.specs.AckGrammar.{range_numbers}
use Rattle.quic_wire.specs.AckSet.{range_of_run, ranges_of_set}
use Rattle.quic_wire.specs.Writing.{written}
use Rattle.quic_wire.proofs.AckSet.{set_snoc, runs_snoc}
use Rattle.quic_wire.proofs.AckWritten.{begins_trans, begins_still, one_range, range_sizes}
use Rattle.quic_wire.proofs.frame.ack.writing.write_runs.Goals as goal

-- the runs that are left, and their ranges
runs_left : (left lower : List Run) (run : Run) → left ≡ lower ++ run ∷ [] → AreRuns left → AreRuns lower × (run.start < run.end)
runs_left left lower run is h = runs_snoc lower 0 run (rw is at h)

ranges_left : (left lower : List Run) (run : Run) → left ≡ lower ++ run ∷ [] → ranges_of_set left ≡ range_of_run run ∷ ranges_of_set lower
ranges_left left lower run is = ap ranges_of_set is ∙ set_snoc lower run

pub overflow_sub-high : goal.overflow_sub-high
overflow_sub-high g c =
    let some = (runs_left c.loop-run.left.now c.in-Some.lower.now c.in-Some.run'.now c.in-Some.ensures.cases.0 c.loop-run.invariant.runs).1 in
    omega (arith, some)

pub returns-in_err-write_numbers-clause-err : goal.returns-in_err-write_numbers-clause-err
returns-in_err-write_numbers-clause-err g c =
    let p = err_from_is_err_and c.from_residual.result c.from_residual.ensures.1 in
    rw p.1 (begins_trans (g.B.BufMut.written c.args.buf.now) (g.B.BufMut.written c.loop-run.buf) (g.B.BufMut.written c.write_numbers.new.buf) c.loop-run.invariant.begins c.in_err-write_numbers.ensures.err)

pub returns-in_err-write_numbers-clause-spare : goal.returns-in_err-write_numbers-clause-spare
returns-in_err-write_numbers-clause-spare g c =
    let p = err_from_is_err_and c.from_residual.result c.from_residual.ensures.1 in
    let ranges = ranges_left c.loop-run.left.now c.in-Some.lower.now c.in-Some.run'.now c.in-Some.ensures.cases.0 in
    let sizes = range_sizes c.loop-run.low (range_of_run c.in-Some.run'.now) (ranges_of_set c.in-Some.lower.now) (ranges_of_set c.loop-run.left.now) ranges in
    let so_far = c.loop-run.invariant.spare in
    let short = c.in_err-write_numbers.ensures.spare in
    rw p.1 (omega (arith, sizes, so_far, short))

pub loop-run-preserved : goal.loop-run-preserved
loop-run-preserved g c =
    let w = g.B.BufMut.written in
    let r = range_of_run c.in-Some.run'.now in
    let lower = ranges_of_set c.in-Some.lower.now in
    let ranges = ranges_left c.loop-run.left.now c.in-Some.lower.now c.in-Some.run'.now c.in-Some.ensures.cases.0 in
    let down = rw ranges at c.loop-run.invariant.down in
    let runs = runs_left c.loop-run.left.now c.in-Some.lower.now c.in-Some.run'.now c.in-Some.ensures.cases.0 c.loop-run.invariant.runs in
    let sizes = range_sizes c.loop-run.low r lower (ranges_of_set c.loop-run.left.now) ranges in
    let small = c.loop-run.invariant.small in
    let so_far = c.loop-run.invariant.spare in
    let took = c.in_ok-write_numbers.ensures.spare in
    let start = down.0 in
    let under = down.1 in
    record {
      runs = runs.0;
      down = down.2;
      small = omega (arith, small, start, under);
      begins = begins_still (w c.args.buf.now) (w c.loop-run.buf) (w c.write_numbers.new.buf) (written ((c.loop-run.low - (r.1 + 2)) ∷ (r.1 - r.0) ∷ [])) c.loop-run.invariant.begins c.in_ok-write_numbers.ensures.ok;
      so_far = one_range (w c.loop-run.buf) (w c.write_numbers.new.buf) (w c.args.buf.now ++ written (range_numbers c.args.below (ranges_of_set c.args.runs.now))) c.loop-run.low r lower (ranges_of_set c.loop-run.left.now) ranges c.loop-run.invariant.so_far c.in_ok-write_numbers.ensures.ok;
      spare = omega (arith, sizes, so_far, took);
    }
