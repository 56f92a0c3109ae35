use Rattle.quic_worked.proofs.ExpiringRuns.{renewed_is_honest, renewed_is_run, asks_until, renewed_until, renewed_moments}
use Rattle.quic_worked.proofs.expiring.challenge_is_renewed.Goals as goal

pub returns : goal.returns
returns c = record { honest = renewed_is_honest; run = renewed_is_run; asked = asks_until; renewed = renewed_until; moments = renewed_moments }
