use Rattle.quic_worked.proofs.AskingMachines.{patient_is_run, patient_due, patient_losses, impatient_not, impatient_is_honest, never_impatient}
use Rattle.quic_worked.proofs.asking.longer_delay_is_waited_for.Goals as goal

pub returns : goal.returns
returns c = record { run = patient_is_run; due = patient_due; moments = patient_losses; wrong = impatient_not; wrong_honest = impatient_is_honest; machine = never_impatient }
