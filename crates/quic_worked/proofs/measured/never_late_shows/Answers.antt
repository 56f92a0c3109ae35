use Rattle.quic_worked.proofs.MeasuredRun.{late_not, never_shows_late, late_tracks, late_leads}
use Rattle.quic_worked.proofs.measured.never_late_shows.Goals as goal

pub returns : goal.returns
returns c = record { moments = late_not; machine = never_shows_late; tracks = late_tracks; leads = late_leads }
