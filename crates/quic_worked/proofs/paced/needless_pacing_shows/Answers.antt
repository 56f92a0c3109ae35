use Rattle.quic_worked.proofs.PacedRun.{names_nothing, needless_behind, gives_nothing_no}
use Rattle.quic_worked.proofs.paced.needless_pacing_shows.Goals as goal

pub returns : goal.returns
returns c = record { names = names_nothing; step = needless_behind; machine = gives_nothing_no }
