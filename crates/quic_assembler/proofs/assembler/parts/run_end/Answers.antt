use Rattle.std.proofs.Common.{arith}
use Rattle.quic_assembler.proofs.Parts.Joining.{run_less, found_past}
use Rattle.quic_assembler.proofs.assembler.parts.run_end.Goals as goal

pub loop-next-smaller : goal.loop-next-smaller
loop-next-smaller c = run_less c.loop-next.last c.args.parts.now (c.in-Some.next, c.in-Some.field-0-1.now) c.requires.apart c.in-Some.ensures

pub loop-next-preserved : goal.loop-next-preserved
loop-next-preserved c =
    let above = c.loop-next.invariant.above in
    let past = found_past c.loop-next.last c.args.parts.now (c.in-Some.next, c.in-Some.field-0-1.now) c.requires.apart c.in-Some.ensures in
    let far = past.0 in
    record {
      above = omega arith;
      small = past.1;
    }
