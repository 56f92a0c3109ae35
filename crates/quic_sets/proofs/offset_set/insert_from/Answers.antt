use Rattle.std.proofs.Common.{ap, ◌∙◌, ◌&&◌, not}
use Rattle.std.proofs.lemmas.List.{nil_from_length}
use Rattle.std.proofs.lemmas.Result.{on_ok_weaker, on_err_weaker}
use Rattle.quic_sets.specs.Spans.{in_span}
use Rattle.quic_sets.proofs.Offsets.OffsetSet.{apart_again, apart_out}
use Rattle.quic_sets.proofs.Offsets.OffsetCalls.{adds_made, drops_made, same_made, moves_in, moves_out}
use Rattle.quic_sets.proofs.Outcomes.{of_error}
use Rattle.quic_sets.proofs.offset_set.insert_from.Goals as goal

pub returns-then-is_empty-clause-ok : goal.returns-then-is_empty-clause-ok
returns-then-is_empty-clause-ok c =
    let a = c.args in
    let none = nil_from_length a.others.now.entries (c.is_empty.ensures.0 c.if-is_empty.true) in
    on_ok_weaker c.add_lacking.result (adds_made a.x.start a.x.end a.spans.now.entries c.add_lacking.new.spans.entries a.others.now.entries none) c.add_lacking.ensures.ok

pub returns-then-is_empty-clause-moving : goal.returns-then-is_empty-clause-moving
returns-then-is_empty-clause-moving c =
    let a = c.args in
    on_err_weaker c.add_lacking.result (moves_in a.x.start a.x.end a.spans.now.entries a.others.now.entries a.others.now.entries) c.add_lacking.ensures.free

pub returns-clause-others_err : goal.returns-clause-others_err
returns-clause-others_err c =
    let a = c.args in
    let j = c.join_at.ensures in
    let m = apart_again a.x.start a.others.now.entries c.split.new.spans.entries c.join_at.new.spans.entries c.requires.others c.split.ensures.touch j.loose j.touch j.apart in
    same_made a.others.now.entries c.join_at.new.spans.entries c.requires.others m (λ o. c.join_at.ensures.offsets o ∙ c.split.ensures.offsets o)

pub returns-in-Ok-clause-ok : goal.returns-in-Ok-clause-ok
returns-in-Ok-clause-ok c =
    let a = c.args in
    adds_made a.x.start a.x.end a.spans.now.entries c.add_lacking-2.new.spans.entries c.new-nothing.result.entries c.new-nothing.ensures.empty c.in-Ok.ensures.ok

pub returns-in-Ok-clause-others : goal.returns-in-Ok-clause-others
returns-in-Ok-clause-others c =
    let a = c.args in
    drops_made a.x.start a.x.end a.others.now.entries c.take_out.new.spans.entries (λ o. c.take_out.ensures.offsets o ∙ ap (λ b. b && not (in_span o (a.x.end, a.x.start))) (c.split.ensures.offsets o))

pub returns-in-Ok-clause-others_maximal : goal.returns-in-Ok-clause-others_maximal
returns-in-Ok-clause-others_maximal c =
    let a = c.args in
    let t = c.take_out.ensures in
    let out = apart_out a.x.start a.x.end c.split.new.spans.entries c.take_out.new.spans.entries c.if-x.false t.loose t.offsets in
    apart_again a.x.start a.others.now.entries c.split.new.spans.entries c.take_out.new.spans.entries c.requires.others c.split.ensures.touch t.loose t.touch out

pub returns-clause-others_maximal : goal.returns-clause-others_maximal
returns-clause-others_maximal c =
    let a = c.args in
    let j = c.join_at.ensures in
    apart_again a.x.start a.others.now.entries c.split.new.spans.entries c.join_at.new.spans.entries c.requires.others c.split.ensures.touch j.loose j.touch j.apart

pub returns-in_err-split-clause-moving : goal.returns-in_err-split-clause-moving
returns-in_err-split-clause-moving c =
    let a = c.args in
    of_error c.from_residual.result (moves_out a.x.start a.x.end a.spans.now.entries a.others.now.entries c.if-x.false c.in_err-split.ensures.held)

pub returns-clause-moving : goal.returns-clause-moving
returns-clause-moving c =
    let a = c.args in
    moves_in a.x.start a.x.end a.spans.now.entries a.others.now.entries c.new-nothing.result.entries c.in-Err.ensures.free
