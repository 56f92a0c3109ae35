use Rattle.std.proofs.Common.{sym, ◌∙◌}
use Rattle.quic_sets.proofs.Parts.First.{after_filter, after_filter_none, from_next}
use Rattle.quic_sets.proofs.by_end.next_part.Goals as goal

pub returns-in-Some : goal.returns-in-Some
returns-in-Some c = sym (after_filter _ c.args.at (λ x. from_next c.args.at x.0) c.args.parts.now.entries (c.in-Some.end.now, c.in-Some.bytes.now) c.next.new.self (sym (c.range.ensures.between tt) ∙ c.in-Some.ensures.steps))

pub returns-in-None : goal.returns-in-None
returns-in-None c = sym (after_filter_none _ c.args.at (λ x. from_next c.args.at x.0) c.args.parts.now.entries (sym (c.range.ensures.between tt) ∙ c.in-None.ensures.steps.0))
