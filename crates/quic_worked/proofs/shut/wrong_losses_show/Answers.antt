use Rattle.quic_worked.proofs.LossRuns.{untold_not, twice_not, other_not, untold_is_honest, twice_is_honest, other_is_honest, no_untold, no_twice, no_other}
use Rattle.quic_worked.proofs.shut.wrong_losses_show.Goals as goal

pub returns : goal.returns
returns c = record { untold = untold_not; twice = twice_not; other = other_not; untold_premises = untold_is_honest; twice_premises = twice_is_honest; other_premises = other_is_honest; untold_machine = no_untold; twice_machine = no_twice; other_machine = no_other }
