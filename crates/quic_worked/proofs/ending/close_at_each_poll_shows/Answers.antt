use Rattle.quic_worked.proofs.EndingMachines.{twice_not, twice_is_honest, no_twice}
use Rattle.quic_worked.proofs.ending.close_at_each_poll_shows.Goals as goal

pub returns : goal.returns
returns c = record { owed = twice_not; premises = twice_is_honest; machine = no_twice }
