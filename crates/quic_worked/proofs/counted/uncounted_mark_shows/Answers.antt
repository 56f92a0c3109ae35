use Rattle.quic_worked.proofs.CountedRuns.{not_counted, uncounted_is_honest, uncounted_is_none}
use Rattle.quic_worked.proofs.counted.uncounted_mark_shows.Goals as goal

pub returns : goal.returns
returns c = record { counts = not_counted; honest = uncounted_is_honest; machine = uncounted_is_none }
