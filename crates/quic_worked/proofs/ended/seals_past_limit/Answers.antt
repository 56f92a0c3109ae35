use Rattle.quic_worked.proofs.EndedRuns.{past_wrong, past_is_honest, past_is_none}
use Rattle.quic_worked.proofs.ended.seals_past_limit.Goals as goal

pub returns : goal.returns
returns c = record { keys = past_wrong; premises = past_is_honest; machine = past_is_none }
