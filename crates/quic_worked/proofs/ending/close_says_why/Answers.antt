use Rattle.quic_worked.proofs.EndingRuns.{closes_sent, says_so, peer_shows, close_came}
use Rattle.quic_worked.proofs.ending.close_says_why.Goals as goal

pub returns : goal.returns
returns c = record { sent = closes_sent; why = says_so; shows = peer_shows; came = close_came }
