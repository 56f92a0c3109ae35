use Rattle.quic_worked.proofs.WrongRuns.{time_tracks, never_timed}
use Rattle.quic_worked.proofs.machines.moment_is_late.Goals as goal

pub returns : goal.returns
returns c = record { tracks = time_tracks; machine = never_timed }
