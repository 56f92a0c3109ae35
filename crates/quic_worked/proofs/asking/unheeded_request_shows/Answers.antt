use Rattle.quic_worked.proofs.AskingMachines.{before_not, before_is_honest, never_before}
use Rattle.quic_worked.proofs.asking.unheeded_request_shows.Goals as goal

pub returns : goal.returns
returns c = record { moments = before_not; honest = before_is_honest; machine = never_before }
