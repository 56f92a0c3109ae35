use Rattle.quic_sets.proofs.Offsets.OffsetSet.{join_is, apart_before, apart_behind}
use Rattle.std.proofs.Common.{◌≤◌, subst, inl, inr}
use Rattle.quic_sets.proofs.offset_set.join_at.Goals as goal

pub returns-then-at-last-clause-loose : goal.returns-then-at-last-clause-loose
returns-then-at-last-clause-loose c =
    let a = c.args in
    let j = join_is a.at c.begin_of-first.result c.finish_of-last.result a.spans.now.entries c.requires.loose c.begin_of-first.ensures c.finish_of-last.ensures c.if-first-at.true c.if-at-last.true in
    rw (c.remove.ensures, c.set_start.ensures) j.loose

pub returns-then-at-last-clause-offsets : goal.returns-then-at-last-clause-offsets
returns-then-at-last-clause-offsets c =
    let a = c.args in
    let j = join_is a.at c.begin_of-first.result c.finish_of-last.result a.spans.now.entries c.requires.loose c.begin_of-first.ensures c.finish_of-last.ensures c.if-first-at.true c.if-at-last.true in
    λ o. rw (c.remove.ensures, c.set_start.ensures) (j.has o)

pub returns-then-at-last-clause-touch : goal.returns-then-at-last-clause-touch
returns-then-at-last-clause-touch c =
    let a = c.args in
    let j = join_is a.at c.begin_of-first.result c.finish_of-last.result a.spans.now.entries c.requires.loose c.begin_of-first.ensures c.finish_of-last.ensures c.if-first-at.true c.if-at-last.true in
    rw (c.remove.ensures, c.set_start.ensures) j.touch

pub returns-then-at-last-clause-apart : goal.returns-then-at-last-clause-apart
returns-then-at-last-clause-apart c =
    let a = c.args in
    let j = join_is a.at c.begin_of-first.result c.finish_of-last.result a.spans.now.entries c.requires.loose c.begin_of-first.ensures c.finish_of-last.ensures c.if-first-at.true c.if-at-last.true in
    rw (c.remove.ensures, c.set_start.ensures) j.apart

pub returns-else-first-at-clause-apart : goal.returns-else-first-at-clause-apart
returns-else-first-at-clause-apart c =
    let a = c.args in
    elim c.else-first-at.either [
      | inl p ↦ apart_behind a.at a.spans.now.entries c.requires.loose (subst (λ n. n ≤ a.at) c.finish_of-last.ensures p.1)
      | inr p ↦ apart_before a.at a.spans.now.entries c.requires.loose (subst (λ n. a.at ≤ n) c.begin_of-first.ensures p)
    ]
