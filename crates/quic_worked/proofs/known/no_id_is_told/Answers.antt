use Rattle.quic_worked.proofs.KnownRuns.{early_is_honest, early_is_run, early_next}
use Rattle.quic_worked.proofs.known.no_id_is_told.Goals as goal

pub returns : goal.returns
returns c = record { honest = early_is_honest; run = early_is_run; next = early_next }
