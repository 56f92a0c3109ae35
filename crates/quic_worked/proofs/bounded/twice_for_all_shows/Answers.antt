use Rattle.quic_worked.proofs.BoundedRun.{all_shows, all_is_honest, no_all}
use Rattle.quic_worked.proofs.bounded.twice_for_all_shows.Goals as goal

pub returns : goal.returns
returns c = record { credit = all_shows; premises = all_is_honest; machine = no_all }
