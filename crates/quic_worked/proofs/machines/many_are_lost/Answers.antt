use Rattle.quic_worked.proofs.LostRuns.{early_tracks, early_leads}
use Rattle.quic_worked.proofs.machines.many_are_lost.Goals as goal

pub returns : goal.returns
returns c = record { tracks = early_tracks; machine = early_leads }
