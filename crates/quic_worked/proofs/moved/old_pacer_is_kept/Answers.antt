use Rattle.std.specs.Prelude.{Some}
use Rattle.quic_worked.proofs.MovedRuns.{pacer_wrong, full_is_honest, full_is_none}
use Rattle.quic_worked.proofs.moved.old_pacer_is_kept.Goals as goal

pub returns : goal.returns
returns c = record { paces = pacer_wrong; premises = full_is_honest (Some 1000000); machine = full_is_none (Some 1000000) }
