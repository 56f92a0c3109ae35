use Rattle.quic_worked.proofs.CountedRuns.{ping_asked, ping_gone, ping_goes}
use Rattle.quic_worked.proofs.counted.asked_ping_goes.Goals as goal

pub returns : goal.returns
returns c = record { asked = ping_asked; went = ping_gone; pings = ping_goes }
