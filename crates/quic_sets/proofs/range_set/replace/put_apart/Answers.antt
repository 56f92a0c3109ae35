use Rattle.std.proofs.Common.{◌∙◌}
use Rattle.quic_sets.proofs.JoinSteps.{put_at}
use Rattle.quic_sets.proofs.range_set.replace.put_apart.Goals as goal

pub returns-then-apart : goal.returns-then-apart
returns-then-apart c =
    let front = rw c.deref.ensures.value at c.ended_below-front.ensures.value in
    let count = rw c.deref-2.ensures.value at c.started-apart.ensures.value in
    let put = rw c.unwrap.ensures at c.insert.ensures.items in
    let both = put_at c.args.range.now.start c.args.range.now.end c.ended_below-front.result c.started-apart.result c.args.runs.now.items front count c.if-apart.true in
    rw c.if-apart.true (both.0, put ∙ both.1)
