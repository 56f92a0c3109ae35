use Rattle.quic_worked.proofs.RenamedRuns.{renaming_is_honest, renaming_is_run, both_sent, ids_taken, is_issued, was_retired, none_used, next_used, told_is_used}
use Rattle.quic_worked.proofs.renamed.next_id_is_used.Goals as goal

pub returns : goal.returns
returns c = record { honest = renaming_is_honest; run = renaming_is_run; sent = both_sent; took = ids_taken; issued = is_issued; retired = was_retired; before = none_used; behind = next_used; used = told_is_used }
