use Rattle.quic_worked.proofs.IsolatedRuns.{ticked_isolated, ticked_by_answers, no_ticked}
use Rattle.quic_worked.proofs.isolated.refused_moment_is_taken.Goals as goal

pub returns : goal.returns
returns c = record { isolated = ticked_isolated; by_answers = ticked_by_answers; machine = no_ticked }
