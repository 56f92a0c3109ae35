use Rattle.quic_worked.proofs.MisstatedRun.{unwritten_not, unwritten_is_honest, never_unwritten}
use Rattle.quic_worked.proofs.misstated.unwritten_stream_shows.Goals as goal

pub returns : goal.returns
returns c = record { stream = unwritten_not; premises = unwritten_is_honest; machine = never_unwritten }
