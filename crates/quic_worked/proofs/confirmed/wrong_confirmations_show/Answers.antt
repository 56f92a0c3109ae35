use Rattle.quic_worked.proofs.ConfirmedRun.{told_of_nothing_shows, told_twice_shows, never_told_shows, told_of_nothing_is_honest, told_twice_is_honest, never_told_is_honest, told_of_nothing_is_none, told_twice_is_none, never_told_is_none}
use Rattle.quic_worked.proofs.confirmed.wrong_confirmations_show.Goals as goal

pub returns : goal.returns
returns c = record { nothing = told_of_nothing_shows; twice = told_twice_shows; never = never_told_shows; nothing_premises = told_of_nothing_is_honest; twice_premises = told_twice_is_honest; never_premises = never_told_is_honest; machine_nothing = told_of_nothing_is_none; machine_twice = told_twice_is_none; machine_never = never_told_is_none }
