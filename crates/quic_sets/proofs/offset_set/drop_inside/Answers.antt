use Rattle.std.proofs.Common.{◌∙◌}
use Rattle.quic_sets.proofs.Offsets.OffsetSet.{drop_step}
use Rattle.quic_sets.proofs.offset_set.drop_inside.Goals as goal

pub loop-last-smaller : goal.loop-last-smaller
loop-last-smaller c =
    let i = c.loop-last.invariant in
    (drop_step c.args.start c.args.end c.in-Some.last c.loop-last.spans.entries c.remove.new.spans.entries i.loose i.cut c.in-Some.ensures c.remove.ensures).less

pub loop-last-preserved : goal.loop-last-preserved
loop-last-preserved c =
    let i = c.loop-last.invariant in
    let d = drop_step c.args.start c.args.end c.in-Some.last c.loop-last.spans.entries c.remove.new.spans.entries i.loose i.cut c.in-Some.ensures c.remove.ensures in
    record {
      loose = d.loose;
      cut = d.cut;
      touch = λ o t. i.touch o (d.touch o t);
      out = λ o e. d.out o e ∙ i.out o e;
    }
