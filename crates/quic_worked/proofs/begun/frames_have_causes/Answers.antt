use Rattle.quic_worked.proofs.BegunRuns.{was_challenged, response_waits, next_is_used, retirement_waits, was_retired, new_id_waits, challenge_waits, challenge_due, challenge_early}
use Rattle.quic_worked.proofs.begun.frames_have_causes.Goals as goal

pub returns : goal.returns
returns c = record { challenged = was_challenged; response = response_waits; used = next_is_used; retirement = retirement_waits; retired = was_retired; new_id = new_id_waits; challenge = challenge_waits; due = challenge_due; early = challenge_early }
