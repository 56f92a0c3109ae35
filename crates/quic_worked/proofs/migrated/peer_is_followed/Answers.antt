use Rattle.quic_headline.proofs.Moves.Changes.{path_changes_exactly}
use Rattle.quic_headline.proofs.Moves.Clause.{goes_to_path}
use Rattle.quic_worked.specs.Migrated.{once_migrated, migrated_run}
use Rattle.quic_worked.proofs.MigratedRun.{migrated_is_honest, migrated_is_run, there_before, there_behind, first_path, second_path, changes, stays_then, valid_before, not_behind, came_first, none_went, came_more, one_went, flying_there, came_all, sent_there, paced_anew, first_used, next_used, may_ask, not_renewed, was_answered, valid_then}
use Rattle.quic_worked.proofs.migrated.peer_is_followed.Goals as goal

pub returns : goal.returns
returns c = record { honest = migrated_is_honest; run = migrated_is_run; old = there_before; address = there_behind; first = first_path; second = second_path; changes = changes; stays = stays_then; before = valid_before; behind = not_behind; handed = came_first; given = none_went; more = came_more; one = one_went; flying = flying_there; all = came_all; sent = sent_there; paced = paced_anew; used = first_used; next = next_used; renewed = may_ask; asked = not_renewed; answered = was_answered; validated = valid_then; goes = goes_to_path migrated_run (once_migrated 17) migrated_is_honest migrated_is_run; exactly = path_changes_exactly migrated_run (once_migrated 17) migrated_is_honest migrated_is_run }
