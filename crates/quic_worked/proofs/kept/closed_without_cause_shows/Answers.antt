use Rattle.quic_worked.proofs.KeptEnds.{called_closes, uncalled_not, unclosed_not}
use Rattle.quic_worked.proofs.kept.closed_without_cause_shows.Goals as goal

pub returns : goal.returns
returns c = record { called = called_closes; uncalled = uncalled_not; dropped = unclosed_not }
