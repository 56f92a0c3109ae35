use Rattle.quic_worked.proofs.BegunRuns.{two_show, again_shows, repeated_shows, never_two, never_again}
use Rattle.quic_worked.proofs.begun.needless_ids_show.Goals as goal

pub returns : goal.returns
returns c = record { two = two_show; again = again_shows; repeated = repeated_shows; machine_two = never_two; machine_again = never_again }
