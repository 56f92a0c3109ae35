use Rattle.quic_worked.proofs.PairedMachines.{reset_duties, never_forgotten}
use Rattle.quic_worked.proofs.paired.reset_is_forgotten.Goals as goal

pub returns : goal.returns
returns c = record { duties = reset_duties; machine = never_forgotten }
