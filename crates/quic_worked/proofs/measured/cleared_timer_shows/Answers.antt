use Rattle.quic_worked.proofs.MeasuredRun.{cleared_not, never_shows_cleared, cleared_follows}
use Rattle.quic_worked.proofs.TimedEnds.{cleared_leads}
use Rattle.quic_worked.proofs.measured.cleared_timer_shows.Goals as goal

pub returns : goal.returns
returns c = record { moments = cleared_not; machine = never_shows_cleared; follows = cleared_follows; leads = cleared_leads }
