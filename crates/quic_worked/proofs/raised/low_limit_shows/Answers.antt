use Rattle.quic_worked.proofs.RaisedRun.{low_shows, never_low}
use Rattle.quic_worked.proofs.raised.low_limit_shows.Goals as goal

pub returns : goal.returns
returns c = record { grown = low_shows; machine = never_low }
