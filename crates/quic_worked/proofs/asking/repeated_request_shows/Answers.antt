use Rattle.quic_worked.proofs.AskingMachines.{again_not, again_is_honest, again_is_none}
use Rattle.quic_worked.proofs.asking.repeated_request_shows.Goals as goal

pub returns : goal.returns
returns c = record { waited = again_not; honest = again_is_honest; machine = again_is_none }
