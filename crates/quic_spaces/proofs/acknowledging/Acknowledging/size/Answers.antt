use Rattle.std.proofs.Common.{rules, ◌≤◌, length, subst}
use Rattle.quic_recovery_core.specs.declared.spaces.pending_acks.TheConstants.{MAX_ACK_RUNS}
use Rattle.quic_recovery_core.specs.PendingAcks.{Pending}
use Rattle.quic_wire.specs.AckView.{shown_ecn}
use Rattle.quic_spaces.specs.Acknowledging.{delay_at}
use Rattle.quic_spaces.proofs.AckSize.{few_runs}
use Rattle.quic_spaces.proofs.acknowledging.Acknowledging.size.Goals as goal

pub returns-clause-size : goal.returns-clause-size
returns-clause-size c = search rules

pub returns-clause-most : goal.returns-clause-most
returns-clause-most c =
    let few = subst (λ (p : Pending). length p.runs ≤ MAX_ACK_RUNS) c.self.view_is c.ranges-2.ensures.few in
    rw (returns-clause-size c) (few_runs (delay_at c.args.self.now c.args.now) (shown_ecn c.args.ecn) c.args.self.now.runs few)
