use Rattle.quic_worked.proofs.KnownRuns.{made_wrong, made_is_honest, made_is_none}
use Rattle.quic_worked.proofs.known.next_id_is_made_up.Goals as goal

pub returns : goal.returns
returns c = record { exact = made_wrong; premises = made_is_honest; machine = made_is_none }
