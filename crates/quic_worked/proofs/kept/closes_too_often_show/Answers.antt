use Rattle.quic_worked.proofs.KeptEnds.{once_more_closes, unasked_not}
use Rattle.quic_worked.proofs.kept.closes_too_often_show.Goals as goal

pub returns : goal.returns
returns c = record { once_more = once_more_closes; unasked = unasked_not }
