use Rattle.quic_worked.proofs.BoundedRun.{one_shows, one_is_honest, no_one}
use Rattle.quic_worked.proofs.bounded.twice_on_one_shows.Goals as goal

pub returns : goal.returns
returns c = record { credit = one_shows; premises = one_is_honest; machine = no_one }
