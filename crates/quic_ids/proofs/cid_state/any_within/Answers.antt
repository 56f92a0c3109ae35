use Rattle.std.proofs.Common.{sym, ◌∙◌}
use Rattle.quic_ids.proofs.OwnIdSteps.{none_within, within_is, some_filtered, none_filtered}
use Rattle.quic_ids.proofs.cid_state.any_within.Goals as goal

pub returns-in-Some : goal.returns-in-Some
returns-in-Some c = sym (some_filtered _ c.args.start c.args.end (λ q. within_is c.args.start c.args.end q) c.args.living.now.keys _ _ (sym (c.range.ensures.between tt) ∙ c.in-Some.ensures.steps))

pub returns-in-None : goal.returns-in-None
returns-in-None c = sym (none_filtered _ c.args.start c.args.end (λ q. within_is c.args.start c.args.end q) c.args.living.now.keys (sym (c.range.ensures.between tt) ∙ c.in-None.ensures.steps.0))

pub returns-then-end-start : goal.returns-then-end-start
returns-then-end-start c = sym (none_within c.args.start c.args.end c.args.living.now.keys c.if-end-start.true)
