use Rattle.std.proofs.Common.{◌∙◌, arith}
use Rattle.quic_sets.proofs.Offsets.OffsetSet.{walk_past, walk_on, walk_next, walk_done}
use Rattle.quic_sets.proofs.offset_set.join_between.Goals as goal

pub loop-next-init : goal.loop-next-init
loop-next-init c =
    let a = c.args in
    let j = c.join_at.ensures in
    record {
      within = c.requires.ordered;
      loose = j.loose;
      same = j.offsets;
      touch = walk_past a.start a.end a.spans.now.entries c.join_at.new.spans.entries j.touch j.apart c.requires.touch;
    }

pub loop-next-smaller : goal.loop-next-smaller
loop-next-smaller c =
    let w = walk_on c.loop-next.at c.args.end c.in-Some.next c.loop-next.spans.entries c.in-Some.ensures in
    let on = w.0 in
    let within = w.1 in
    omega (arith, on, within)

pub loop-next-preserved : goal.loop-next-preserved
loop-next-preserved c =
    let a = c.args in
    let l = c.loop-next in
    let i = l.invariant in
    let j = c.join_at-in-Some.ensures in
    record {
      within = (walk_on l.at a.end c.in-Some.next l.spans.entries c.in-Some.ensures).1;
      loose = j.loose;
      same = λ o. j.offsets o ∙ i.same o;
      touch = walk_past c.in-Some.next a.end l.spans.entries c.join_at-in-Some.new.spans.entries j.touch j.apart (walk_next l.at a.end c.in-Some.next l.spans.entries i.loose c.in-Some.ensures i.touch);
    }

pub returns-clause-maximal : goal.returns-clause-maximal
returns-clause-maximal c =
    let i = c.loop-next.invariant in
    walk_done c.loop-next.at c.args.end c.loop-next.spans.entries i.loose c.in_default.ensures i.touch
