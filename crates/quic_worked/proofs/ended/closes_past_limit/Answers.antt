use Rattle.quic_worked.proofs.EndedRuns.{closes_wrong, closes_is_honest, closes_is_none}
use Rattle.quic_worked.proofs.ended.closes_past_limit.Goals as goal

pub returns : goal.returns
returns c = record { keys = closes_wrong; premises = closes_is_honest; machine = closes_is_none }
