use Rattle.quic_worked.proofs.PacedRun.{paced_is_run, names_later, sets_timer, gave_nothing, byte_waits, is_paced, goes_then, names_none, stops_timer}
use Rattle.quic_worked.proofs.paced.pacer_holds_back.Goals as goal

pub returns : goal.returns
returns c = record { run = paced_is_run; names = names_later; sets = sets_timer; gave = gave_nothing; waits = byte_waits; held = is_paced; goes = goes_then; names_none = names_none; stops = stops_timer }
