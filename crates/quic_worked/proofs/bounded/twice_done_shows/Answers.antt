use Rattle.quic_worked.proofs.BoundedRun.{twice_shows, twice_is_honest, no_twice}
use Rattle.quic_worked.proofs.bounded.twice_done_shows.Goals as goal

pub returns : goal.returns
returns c = record { credit = twice_shows; premises = twice_is_honest; machine = no_twice }
