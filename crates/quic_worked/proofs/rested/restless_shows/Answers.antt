use Rattle.quic_worked.proofs.RestedRun.{timed_quiet, timed_rests, shows_paced, paced_rests, paced_paces, timed_is_honest, paced_is_honest, never_timed, paced_is_none}
use Rattle.quic_worked.proofs.rested.restless_shows.Goals as goal

pub returns : goal.returns
returns c = record { quiet = timed_quiet; timed = timed_rests; paced = shows_paced; pacing = paced_rests; pacer = paced_paces; timed_honest = timed_is_honest; paced_honest = paced_is_honest; machine_timed = never_timed; machine_paced = paced_is_none }
