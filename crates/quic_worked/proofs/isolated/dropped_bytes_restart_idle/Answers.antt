use Rattle.quic_worked.proofs.IsolatedRuns.{anew_isolated, anew_by_answers, anew_by_lists, anew_is_honest, no_anew}
use Rattle.quic_worked.proofs.isolated.dropped_bytes_restart_idle.Goals as goal

pub returns : goal.returns
returns c = record { isolated = anew_isolated; by_answers = anew_by_answers; by_lists = anew_by_lists; premises = anew_is_honest; machine = no_anew }
