use Rattle.quic_worked.proofs.FittingRuns.{message_fits, long_not, unasked_not, behind_fits, dropped_fits}
use Rattle.quic_worked.proofs.kept.taken_message_shows.Goals as goal

pub returns : goal.returns
returns c = record { fits = message_fits; long = long_not; unasked = unasked_not; behind = behind_fits; dropped = dropped_fits }
