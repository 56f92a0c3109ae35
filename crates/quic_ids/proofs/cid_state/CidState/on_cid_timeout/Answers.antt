use Rattle.std.proofs.Common.{sym, ap, ◌∙◌}
use Rattle.quic_ids.specs.CidState.{OwnIds, is_owed}
use Rattle.quic_ids.proofs.OwnIdSteps.{owed_answer}
use Rattle.quic_ids.proofs.cid_state.CidState.on_cid_timeout.Goals as goal

pub returns-then-any_within-clause-answer : goal.returns-then-any_within-clause-answer
returns-then-any_within-clause-answer c = owed_answer c.args.self.now (sym (ap (λ (s : OwnIds). is_owed s) c.self.view_is) ∙ sym c.if-any_within.ensures)
