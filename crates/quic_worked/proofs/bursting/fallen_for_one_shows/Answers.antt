use Rattle.quic_worked.proofs.BurstingRuns.{lost_size, falls_not, lost_is_honest, lost_is_none}
use Rattle.quic_worked.proofs.bursting.fallen_for_one_shows.Goals as goal

pub returns : goal.returns
returns c = record { stays = lost_size; clause = falls_not; premises = lost_is_honest; machine = lost_is_none }
