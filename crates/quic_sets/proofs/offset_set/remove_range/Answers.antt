use Rattle.std.proofs.Common.{ap, ◌∙◌, ◌&&◌, not}
use Rattle.quic_sets.specs.Spans.{in_span}
use Rattle.quic_sets.proofs.Offsets.Loose.{runs_have}
use Rattle.quic_sets.proofs.Offsets.OffsetSet.{apart_again, apart_out}
use Rattle.quic_sets.proofs.Offsets.OffsetCalls.{drops_made}
use Rattle.quic_sets.proofs.Outcomes.{of_error}
use Rattle.quic_sets.proofs.offset_set.remove_range.Goals as goal

pub returns-in_err-split-clause-held : goal.returns-in_err-split-clause-held
returns-in_err-split-clause-held c =
    let a = c.args in
    of_error c.from_residual.result ((runs_have a.start a.spans.now.entries).1 c.in_err-split.ensures.held)

pub returns-clause-maximal : goal.returns-clause-maximal
returns-clause-maximal c =
    let a = c.args in
    let t = c.take_out.ensures in
    let out = apart_out a.start a.end c.split.new.spans.entries c.take_out.new.spans.entries c.if-end-start.false t.loose t.offsets in
    apart_again a.start a.spans.now.entries c.split.new.spans.entries c.take_out.new.spans.entries c.requires.maximal c.split.ensures.touch t.loose t.touch out

pub returns-clause-ok : goal.returns-clause-ok
returns-clause-ok c =
    let a = c.args in
    drops_made a.start a.end a.spans.now.entries c.take_out.new.spans.entries (λ o. c.take_out.ensures.offsets o ∙ ap (λ b. b && not (in_span o (a.end, a.start))) (c.split.ensures.offsets o))
