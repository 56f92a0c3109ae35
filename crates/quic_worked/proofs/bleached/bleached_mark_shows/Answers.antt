use Rattle.quic_worked.proofs.BleachedRun.{marking_on_not, marking_on_is_honest, marking_on_is_none}
use Rattle.quic_worked.proofs.bleached.bleached_mark_shows.Goals as goal

pub returns : goal.returns
returns c = record { clause = marking_on_not; premises = marking_on_is_honest; machine = marking_on_is_none }
