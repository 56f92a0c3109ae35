use Rattle.quic_worked.proofs.ProbedRun.{dropped_duties, dropped_leads}
use Rattle.quic_worked.proofs.probed.probed_reset_is_dropped.Goals as goal

pub returns : goal.returns
returns c = record { duties = dropped_duties; machine = dropped_leads }
