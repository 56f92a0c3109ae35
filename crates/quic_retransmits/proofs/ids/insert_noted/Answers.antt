use Rattle.std.proofs.Common.{sym, ◌∙◌}
use Rattle.std.proofs.lemmas.Bool.{not-true}
use Rattle.quic_retransmits.proofs.IdSteps.{noted_back}
use Rattle.quic_retransmits.proofs.ids.insert_noted.Goals as goal

pub returns-then-branch-clause-back : goal.returns-then-branch-clause-back
returns-then-branch-clause-back c =
    rw (c.push_reserved.ensures.items, c.in_ok-insert.ensures.keys, c.reserve.ensures.items)
    (noted_back c.args.added.now.items c.args.id c.args.ids.now.keys
    (not-true _ (sym c.in_ok-insert.ensures.added ∙ c.if-branch.true)))
