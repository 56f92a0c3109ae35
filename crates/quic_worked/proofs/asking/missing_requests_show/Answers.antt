use Rattle.quic_worked.proofs.AskingMachines.{left_not, withheld_not, left_is_honest, withheld_is_honest, left_is_none, withheld_is_none}
use Rattle.quic_worked.proofs.asking.missing_requests_show.Goals as goal

pub returns : goal.returns
returns c = record { left = left_not; withheld = withheld_not; left_honest = left_is_honest; withheld_honest = withheld_is_honest; machine_left = left_is_none; machine_withheld = withheld_is_none }
