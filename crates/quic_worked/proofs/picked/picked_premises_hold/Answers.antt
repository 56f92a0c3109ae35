use Rattle.quic_worked.specs.Reordered.{abc, def, blocked_nexts}
use Rattle.quic_worked.specs.Picked.{picks_at, again_nexts}
use Rattle.quic_worked.proofs.PickedRun.{is_honest}
use Rattle.quic_worked.proofs.picked.picked_premises_hold.Goals as goal

pub returns : goal.returns
returns c = record { run = is_honest (picks_at 3 def) (picks_at 0 abc); again = is_honest (picks_at 3 def) again_nexts; never = is_honest blocked_nexts (picks_at 0 abc) }
