use Rattle.quic_worked.proofs.ShortenedRun.{long_wrong, long_is_honest, long_is_none}
use Rattle.quic_worked.proofs.shortened.long_probe_shows.Goals as goal

pub returns : goal.returns
returns c = record { sized = long_wrong; premises = long_is_honest; machine = long_is_none }
