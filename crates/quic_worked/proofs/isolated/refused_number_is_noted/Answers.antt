use Rattle.quic_worked.proofs.IsolatedRuns.{noted_isolated, noted_by_lists, no_noted}
use Rattle.quic_worked.proofs.isolated.refused_number_is_noted.Goals as goal

pub returns : goal.returns
returns c = record { isolated = noted_isolated; by_lists = noted_by_lists; machine = no_noted }
