use Rattle.quic_worked.proofs.KeptEnds.{bytes_not, empty_not}
use Rattle.quic_worked.proofs.kept.kept_messages_show.Goals as goal

pub returns : goal.returns
returns c = record { bytes = bytes_not; empty = empty_not }
