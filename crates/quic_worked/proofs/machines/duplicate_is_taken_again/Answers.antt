use Rattle.quic_worked.proofs.WrongRuns.{again_once, no_again}
use Rattle.quic_worked.proofs.AgainRuns.{twice_taken}
use Rattle.quic_worked.proofs.machines.duplicate_is_taken_again.Goals as goal

pub returns : goal.returns
returns c = record { once = again_once; taken = twice_taken; machine = no_again }
