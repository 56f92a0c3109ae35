use Rattle.quic_worked.proofs.EndingMachines.{anew_not, anew_is_honest, never_anew}
use Rattle.quic_worked.proofs.ending.close_time_anew_shows.Goals as goal

pub returns : goal.returns
returns c = record { stay = anew_not; premises = anew_is_honest; machine = never_anew }
