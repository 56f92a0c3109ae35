use Rattle.std.proofs.Common.{refl}
use Rattle.quic_worked.proofs.SkippedRun.{skipping_started, skipping_is_honest, skipping_is_run, next_is, last_is, both_named}
use Rattle.quic_worked.proofs.measured.number_is_left_out.Goals as goal

pub returns : goal.returns
returns c = record { start = skipping_started; honest = skipping_is_honest; run = skipping_is_run; next = next_is; last = last_is; named = both_named; below = refl; worked = refl }
