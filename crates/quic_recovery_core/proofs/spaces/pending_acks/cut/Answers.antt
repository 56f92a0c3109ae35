use Rattle.std.proofs.Common.{List, sym, subst}
use Rattle.quic_sets.specs.Runs.{Run}
use Rattle.quic_recovery_core.specs.PendingAcks.{IsKept}
use Rattle.quic_recovery_core.proofs.AckRunSteps.{cut_is, above_kept}
use Rattle.quic_recovery_core.proofs.spaces.pending_acks.cut.Goals as goal

pub returns-clause-cut : goal.returns-clause-cut
returns-clause-cut c =
    let drops = rw c.unwrap.ensures at c.remove.ensures.ok in
    cut_is c.args.ranges.now c.remove.new.self c.args.max c.saturating_add.result c.requires c.remove.ensures.runs c.saturating_add.ensures drops

pub returns-clause-kept : goal.returns-clause-kept
returns-clause-kept c = subst (λ (rs : List Run). IsKept rs) (sym (returns-clause-cut c)) (above_kept c.args.ranges.now c.args.max c.requires)
