use Rattle.quic_sets.proofs.Offsets.OffsetSet.{next_is, cut_has}
use Rattle.quic_sets.proofs.Outcomes.{of_error}
use Rattle.quic_sets.proofs.Offsets.LooseSteps.{cut_at}
use Rattle.quic_sets.specs.Spans.{next_span}
use Rattle.quic_sets.proofs.offset_set.split.Goals as goal

pub returns-in_ok-keep-clause-loose : goal.returns-in_ok-keep-clause-loose
returns-in_ok-keep-clause-loose c =
    let a = c.args in
    let g = next_is c.in-Some.start c.in-Some.end (next_span a.at a.spans.now.entries) c.in-Some.ensures in
    let k = cut_at a.at (c.in-Some.end, c.in-Some.start) a.spans.now.entries c.requires.loose g c.if-start-at.true in
    rw (c.set_start.ensures, c.in_ok-keep.ensures.ok) k.loose

pub returns-in_ok-keep-clause-offsets : goal.returns-in_ok-keep-clause-offsets
returns-in_ok-keep-clause-offsets c =
    let a = c.args in
    let g = next_is c.in-Some.start c.in-Some.end (next_span a.at a.spans.now.entries) c.in-Some.ensures in
    let k = cut_at a.at (c.in-Some.end, c.in-Some.start) a.spans.now.entries c.requires.loose g c.if-start-at.true in
    λ o. rw (c.set_start.ensures, c.in_ok-keep.ensures.ok) (k.has o)

pub returns-in_ok-keep-clause-cut : goal.returns-in_ok-keep-clause-cut
returns-in_ok-keep-clause-cut c =
    let a = c.args in
    let g = next_is c.in-Some.start c.in-Some.end (next_span a.at a.spans.now.entries) c.in-Some.ensures in
    let k = cut_at a.at (c.in-Some.end, c.in-Some.start) a.spans.now.entries c.requires.loose g c.if-start-at.true in
    rw (c.set_start.ensures, c.in_ok-keep.ensures.ok) k.cut

pub returns-in_ok-keep-clause-touch : goal.returns-in_ok-keep-clause-touch
returns-in_ok-keep-clause-touch c =
    let a = c.args in
    let g = next_is c.in-Some.start c.in-Some.end (next_span a.at a.spans.now.entries) c.in-Some.ensures in
    let k = cut_at a.at (c.in-Some.end, c.in-Some.start) a.spans.now.entries c.requires.loose g c.if-start-at.true in
    rw (c.set_start.ensures, c.in_ok-keep.ensures.ok) k.touch

pub returns-in_err-keep-clause-held : goal.returns-in_err-keep-clause-held
returns-in_err-keep-clause-held c =
    let a = c.args in
    of_error c.from_residual.result (cut_has a.at c.in-Some.start c.in-Some.end a.spans.now.entries c.in-Some.ensures c.if-start-at.true)
