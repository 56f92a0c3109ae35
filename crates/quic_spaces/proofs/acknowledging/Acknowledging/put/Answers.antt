use Rattle.std.proofs.Common.{◌≤◌, length, subst}
use Rattle.quic_recovery_core.specs.declared.spaces.pending_acks.TheConstants.{MAX_ACK_RUNS}
use Rattle.quic_recovery_core.specs.PendingAcks.{Pending}
use Rattle.quic_wire.specs.AckView.{shown_ecn}
use Rattle.quic_spaces.specs.Acknowledging.{delay_at}
use Rattle.quic_spaces.proofs.AckSize.{few_runs}
use Rattle.quic_spaces.proofs.acknowledging.Acknowledging.put.Goals as goal

pub returns-clause-most : goal.returns-clause-most
returns-clause-most c =
    let few = subst (λ (p : Pending). length p.runs ≤ MAX_ACK_RUNS) c.self.view_is c.ranges-2.ensures.few in
    few_runs (delay_at c.args.self.now c.args.now) (shown_ecn c.args.ecn) c.args.self.now.runs few
