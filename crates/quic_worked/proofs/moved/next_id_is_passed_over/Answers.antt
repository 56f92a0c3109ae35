use Rattle.quic_worked.proofs.PassedRun.{passes_is_run, stays_there, passes_wrong, never_there}
use Rattle.quic_worked.proofs.moved.next_id_is_passed_over.Goals as goal

pub returns : goal.returns
returns c = record { run = passes_is_run; told = stays_there; stays = passes_wrong; machine = never_there }
