use Rattle.quic_worked.proofs.FaultRuns.{never_opened_takes}
use Rattle.quic_worked.proofs.faults.packet_never_opens.Goals as goal

pub returns : goal.returns
returns c = never_opened_takes
