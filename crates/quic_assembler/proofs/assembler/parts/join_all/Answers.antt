use Rattle.std.proofs.Common.{◌∙◌, ◌++◌, sym, ap, List, lit<, subst}
use Rattle.quic_assembler.specs.Arrived.{joined}
use Rattle.quic_sets.specs.Parts.{Part}
use Rattle.quic_assembler.specs.PartSteps.{from_after}
use Rattle.quic_assembler.proofs.Parts.Joining.{AreUpTo, from_start, part_past, join_step, join_up, join_less, join_done}
use Rattle.quic_assembler.proofs.assembler.parts.join_all.Goals as goal

pub loop-end-init : goal.loop-end-init
loop-end-init c =
    let none = c.new-new.ensures in
    let start = from_start c.args.parts.now c.requires in
    record {
      small = lit< tt;
      below = subst (λ (es : List Part). AreUpTo 0 es) (sym none) tt;
      same = sym (ap (λ (es : List Part). es ++ joined (from_after 0 c.args.parts.now)) none ∙ ap (λ (es : List Part). joined es) start);
    }

pub run_of-requires-clause-small : goal.run_of-requires-clause-small
run_of-requires-clause-small c = (part_past c.loop-end.at c.args.parts.now (c.in-Some.end, c.in-Some.bytes.now) c.requires c.in-Some.ensures).1

pub loop-end-smaller : goal.loop-end-smaller
loop-end-smaller c = join_less c.loop-end.at c.in-Some.end c.in_ok-last.last c.in-Some.bytes.now c.args.parts.now c.requires c.in-Some.ensures c.in_ok-last.ensures.above

pub loop-end-preserved : goal.loop-end-preserved
loop-end-preserved c =
    let i = c.loop-end.invariant in
    let ps = c.args.parts.now in
    let found = c.in-Some.ensures in
    let put = c.in_ok-keep.ensures.ok in
    let last = c.in_ok-last.ensures in
    record {
      small = last.small;
      below = join_up c.loop-end.at c.in-Some.end c.in_ok-last.last _ c.in_ok-last.run' ps c.loop-end.new _ found last.above i.below put;
      same = join_step c.loop-end.at c.in-Some.end c.in_ok-last.last _ c.in_ok-last.run' ps c.loop-end.new _ c.requires found last.run last.above i.below i.same put;
    }

pub returns : goal.returns
returns c = join_done c.loop-end.at c.args.parts.now c.loop-end.new c.in_default.ensures c.loop-end.invariant.same
