use Rattle.quic_worked.proofs.FaultTimes.{short_opens, short_numbers, short_is_honest, never_short}
use Rattle.quic_worked.proofs.faults.number_is_cut_short.Goals as goal

pub returns : goal.returns
returns c = record { opens = short_opens; numbers = short_numbers; premises = short_is_honest; machine = never_short }
