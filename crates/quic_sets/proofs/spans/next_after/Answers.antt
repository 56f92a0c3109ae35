use Rattle.std.proofs.Common.{sym, ◌∙◌, refl}
use Rattle.quic_sets.proofs.Parts.First.{from_next}
use Rattle.quic_sets.proofs.Offsets.Spans.{next_filter, next_filter_none}
use Rattle.quic_sets.proofs.spans.next_after.Goals as goal

pub returns-in-Some : goal.returns-in-Some
returns-in-Some c =
    let found = next_filter _ c.args.at (λ x. from_next c.args.at x.0) c.args.spans.now.entries (c.in-Some.end.now, c.in-Some.start.now) c.next.new.self (sym (c.range.ensures.between tt) ∙ c.in-Some.ensures.steps) in
    rw found refl

pub returns-in-None : goal.returns-in-None
returns-in-None c =
    let found = next_filter_none _ c.args.at (λ x. from_next c.args.at x.0) c.args.spans.now.entries (sym (c.range.ensures.between tt) ∙ c.in-None.ensures.steps.0) in
    rw found refl
