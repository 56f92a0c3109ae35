use Rattle.quic_worked.proofs.EndingMachines.{briefly_not, before_not, briefly_is_honest, before_is_honest, never_briefly, never_from_before}
use Rattle.quic_worked.proofs.ending.wrong_close_times_show.Goals as goal

pub returns : goal.returns
returns c = record { brief = briefly_not; before = before_not; brief_premises = briefly_is_honest; before_premises = before_is_honest; machine_brief = never_briefly; machine_before = never_from_before }
