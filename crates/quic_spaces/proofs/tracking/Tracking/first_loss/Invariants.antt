use Rattle.std.proofs.Common.{◌≡◌, ◌-◌}
use Rattle.quic_spaces.specs.Loss.{loss_time_of}
use Rattle.quic_spaces.specs.Walks.{lesser_of, loss_time_from}
use Rattle.quic_spaces.proofs.tracking.Tracking.first_loss.Given as goal

abbrev pub invariant-loop-number : goal.invariant-loop-number
invariant-loop-number l = lesser_of l.first (loss_time_from l.low l.verdict.greatest l.verdict.delay l.self.packets) ≡ loss_time_of l.verdict l.self.packets

abbrev pub decreases-loop-number : goal.decreases-loop-number
decreases-loop-number l = l.verdict.greatest - l.low
