use Rattle.quic_congestion.proofs.PacerWaits.{gained_most, gained_least}
use Rattle.quic_congestion.proofs.laws.pacing.waits_are_for_what_lacks.Goals as goal

pub returns-clause-most : goal.returns-clause-most
returns-clause-most c = gained_most

pub returns-clause-least : goal.returns-clause-least
returns-clause-least c = gained_least
