use Rattle.std.proofs.Common.{◌≡◌, ◌∙◌, ◌++◌, sym, ap, arith, ℕ, List}
use Rattle.quic_assembler.specs.Arrived.{in_front, joined}
use Rattle.quic_assembler.specs.PartSteps.{from_after}
use Rattle.quic_assembler.proofs.Parts.Joining.{run_more, run_less, run_done, found_past}
use Rattle.quic_assembler.proofs.assembler.parts.run_from.Goals as goal

pub loop-next-smaller : goal.loop-next-smaller
loop-next-smaller c = run_less c.loop-next.last c.args.parts.now (c.in-Some.next, c.in-Some.more.now) c.requires.apart c.in-Some.ensures

pub loop-next-preserved : goal.loop-next-preserved
loop-next-preserved c =
    let i = c.loop-next.invariant in
    let past = found_past c.loop-next.last c.args.parts.now (c.in-Some.next, c.in-Some.more.now) c.requires.apart c.in-Some.ensures in
    let far = past.0 in
    let above = i.above in
    let run : c.extend_from_slice.new.self.items ≡ c.loop-next.run.items ++ c.in-Some.more.now = cc (c.in_ok-extend_from_slice.ensures.items, c.deref.ensures) in
    record {
      above = omega arith;
      small = past.1;
      same = ap (λ (bs : List ℕ). in_front (c.in-Some.next, bs) (joined (from_after c.in-Some.next c.args.parts.now))) run ∙ sym (run_more c.loop-next.last c.in-Some.next c.loop-next.run.items c.in-Some.more.now c.args.parts.now c.requires.apart i.small c.in-Some.ensures) ∙ i.same;
    }

pub returns-clause-run : goal.returns-clause-run
returns-clause-run c =
    let i = c.loop-next.invariant in
    let e = c.in_ok-from_vec.ensures.ok in
    rw e (sym i.same ∙ run_done c.loop-next.last c.loop-next.run.items c.args.parts.now c.requires.apart i.small c.in_default.ensures)
