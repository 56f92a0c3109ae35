use Rattle.quic_worked.proofs.MisstatedRun.{misstated_not, misstated_on_not, misstated_is_honest, misstated_on_is_honest, never_misstated, never_misstated_on}
use Rattle.quic_worked.proofs.misstated.other_limit_shows.Goals as goal

pub returns : goal.returns
returns c = record { all = misstated_not; stream = misstated_on_not; all_premises = misstated_is_honest; stream_premises = misstated_on_is_honest; machine_all = never_misstated; machine_stream = never_misstated_on }
