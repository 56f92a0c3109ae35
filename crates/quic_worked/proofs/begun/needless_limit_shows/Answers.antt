use Rattle.quic_worked.proofs.BegunRuns.{all_limit_shows, never_all_limit}
use Rattle.quic_worked.proofs.begun.needless_limit_shows.Goals as goal

pub returns : goal.returns
returns c = record { limit = all_limit_shows; machine = never_all_limit }
