use Rattle.quic_worked.proofs.CongestedRun.{unheard_not, unheard_is_honest, unheard_never}
use Rattle.quic_worked.proofs.congested.unheard_mark_shows.Goals as goal

pub returns : goal.returns
returns c = record { clause = unheard_not; premises = unheard_is_honest; machine = unheard_never }
