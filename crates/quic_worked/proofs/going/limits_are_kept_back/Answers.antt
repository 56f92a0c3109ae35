use Rattle.quic_worked.proofs.RaisingRun.{kept_shows, kept_is_honest, kept_is_none}
use Rattle.quic_worked.proofs.going.limits_are_kept_back.Goals as goal

pub returns : goal.returns
returns c = record { limits = kept_shows; premises = kept_is_honest; machine = kept_is_none }
