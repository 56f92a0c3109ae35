use Rattle.quic_headline.proofs.NextIds.Stays.{stays_for_a_reason}
use Rattle.quic_worked.specs.Moved.{once_kept, kept_run}
use Rattle.quic_worked.proofs.MovedRuns.{kept_is_honest, kept_is_run, kept_changes, none_next, kept_used, kept_went}
use Rattle.quic_worked.proofs.moved.id_stays.Goals as goal

pub returns : goal.returns
returns c = record { honest = kept_is_honest; run = kept_is_run; changes = kept_changes; none = none_next; used = kept_used; sent = kept_went; reason = stays_for_a_reason kept_run (once_kept 7) kept_is_honest kept_is_run }
