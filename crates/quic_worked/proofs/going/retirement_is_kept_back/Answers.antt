use Rattle.quic_worked.proofs.GoingRun.{retirement_shows, retirement_is_honest, retirement_is_none}
use Rattle.quic_worked.proofs.going.retirement_is_kept_back.Goals as goal

pub returns : goal.returns
returns c = record { retirements = retirement_shows; premises = retirement_is_honest; machine = retirement_is_none }
