use Rattle.quic_worked.proofs.EndingRuns.{owed_first, owed_gone, owed_again, owed_over, may_close, gave_again, owed_so, go_so, silent_so}
use Rattle.quic_worked.proofs.ending.close_is_owed.Goals as goal

pub returns : goal.returns
returns c = record { first = owed_first; gone = owed_gone; again = owed_again; over = owed_over; may = may_close; gave = gave_again; owed = owed_so; go = go_so; silent = silent_so }
