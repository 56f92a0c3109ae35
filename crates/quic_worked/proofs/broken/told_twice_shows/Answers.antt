use Rattle.quic_worked.proofs.BrokenClauses.{tells_twice}
use Rattle.quic_worked.proofs.BrokenRuns.{never_twice}
use Rattle.quic_worked.proofs.broken.told_twice_shows.Goals as goal

pub returns : goal.returns
returns c = record { once = tells_twice; machine = never_twice }
