use Rattle.quic_worked.proofs.ExpiringRuns.{never_renews_not, renews_early_not, renews_answered_not, never_shows_none, never_shows_short, never_shows_answered}
use Rattle.quic_worked.proofs.expiring.wrong_renewals_show.Goals as goal

pub returns : goal.returns
returns c = record { never = never_renews_not; early = renews_early_not; answered = renews_answered_not; machine_never = never_shows_none; machine_early = never_shows_short; machine_answered = never_shows_answered }
