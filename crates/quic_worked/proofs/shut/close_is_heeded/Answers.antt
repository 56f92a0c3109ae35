use Rattle.quic_worked.proofs.ShutRuns.{application_so, peer_so}
use Rattle.quic_worked.proofs.shut.close_is_heeded.Goals as goal

pub returns : goal.returns
returns c = record { application = application_so; peer = peer_so }
