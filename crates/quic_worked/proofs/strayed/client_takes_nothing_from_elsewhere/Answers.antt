use Rattle.quic_headline.proofs.Moves.Clause.{drops_other_addresses}
use Rattle.quic_worked.specs.Strayed.{once_foreign, foreign_run}
use Rattle.quic_worked.proofs.StrayedRuns.{foreign_is_honest, foreign_is_run, takes_none, takes_home, client_stays}
use Rattle.quic_worked.proofs.strayed.client_takes_nothing_from_elsewhere.Goals as goal

pub returns : goal.returns
returns c = record { honest = foreign_is_honest; run = foreign_is_run; elsewhere = takes_none; home = takes_home; stays = client_stays; drops = drops_other_addresses foreign_run (once_foreign 3) foreign_is_honest foreign_is_run }
