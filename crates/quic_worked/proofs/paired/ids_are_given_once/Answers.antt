use Rattle.quic_worked.proofs.PairedMachines.{gives_once, opens_again, accepts_again, no_opened, no_accepted}
use Rattle.quic_worked.proofs.paired.ids_are_given_once.Goals as goal

pub returns : goal.returns
returns c = record { right = gives_once; opened = opens_again; accepted = accepts_again; opened_machine = no_opened; accepted_machine = no_accepted }
