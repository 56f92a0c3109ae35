use Rattle.quic_worked.proofs.BegunRuns.{validated_shows, early_shows, never_asks}
use Rattle.quic_worked.proofs.begun.challenge_at_each_timeout_shows.Goals as goal

pub returns : goal.returns
returns c = record { validated = validated_shows; early = early_shows; machine = never_asks }
