use Rattle.quic_worked.proofs.UnvalidatedRun.{payload_wrong, payload_is_honest, payload_is_none}
use Rattle.quic_worked.proofs.unvalidated.threefold_counts_payload.Goals as goal

pub returns : goal.returns
returns c = record { threefold = payload_wrong; premises = payload_is_honest; machine = payload_is_none }
