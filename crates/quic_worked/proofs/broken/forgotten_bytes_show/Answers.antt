use Rattle.quic_worked.proofs.Forgotten.{loses, never_forgets}
use Rattle.quic_worked.proofs.broken.forgotten_bytes_show.Goals as goal

pub returns : goal.returns
returns c = record { duties = loses; machine = never_forgets }
