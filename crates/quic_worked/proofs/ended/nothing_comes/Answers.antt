use Rattle.quic_worked.proofs.EndedRuns.{idle_is_honest, idle_is_run, idle_shows, was_idle}
use Rattle.quic_worked.proofs.ended.nothing_comes.Goals as goal

pub returns : goal.returns
returns c = record { honest = idle_is_honest; run = idle_is_run; shows = idle_shows; idle = was_idle }
