use Rattle.quic_worked.proofs.MisstatedRun.{all_says, stream_says}
use Rattle.quic_worked.proofs.misstated.limit_is_that_of_the_peer.Goals as goal

pub returns : goal.returns
returns c = record { all = all_says; stream = stream_says }
