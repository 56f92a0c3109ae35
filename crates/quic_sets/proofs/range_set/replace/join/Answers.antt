use Rattle.std.proofs.Common.{◌≡◌, ◌+◌, ◌≤◌, length, sym, arith, ◌∙◌}
use Rattle.std.proofs.lemmas.List.{length-drop}
use Rattle.quic_sets.proofs.JoinSteps.{joined_with, joined_none, met_at}
use Rattle.quic_sets.proofs.range_set.replace.join.Goals as goal

pub returns-then-count-gt0 : goal.returns-then-count-gt0
returns-then-count-gt0 c =
    let runs = c.args.runs.now.items in
    let front = rw c.deref.ensures.value at c.ended_below-front.ensures.value in
    let count = rw c.deref-2.ensures.value at c.started-count.ensures.value in
    let bound = rw c.deref-2.ensures.value at c.started-count.ensures.bound in
    let room : c.ended_below-front.result + c.started-count.result ≤ length runs = omega (arith, bound, length-drop c.ended_below-front.result runs, c.if-count-gt0.true) in
    c.remove.ensures ∙ joined_with c.args.range.start c.args.range.end c.ended_below-front.result c.started-count.result c.min-start.result c.max-end.result runs c.index.result.now c.index-then-count-gt0.result.now
    c.requires.runs c.requires.range front count c.if-count-gt0.true room c.index.ensures c.index-then-count-gt0.ensures c.min-start.ensures c.max-end.ensures

pub returns-else-count-gt0 : goal.returns-else-count-gt0
returns-else-count-gt0 c =
    let front = rw c.deref.ensures.value at c.ended_below-front.ensures.value in
    let count = rw c.deref-2.ensures.value at c.started-count.ensures.value in
    let none : c.started-count.result ≡ 0 = omega (arith, c.if-count-gt0.false) in
    sym (joined_none c.args.range.start c.args.range.end c.args.runs.now.items (met_at c.args.range.start c.args.range.end c.ended_below-front.result c.started-count.result c.args.runs.now.items front count ∙ none))
