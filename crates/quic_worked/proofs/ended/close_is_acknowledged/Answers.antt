use Rattle.quic_worked.proofs.EndedRuns.{named_wrong, named_is_honest, named_is_none}
use Rattle.quic_worked.proofs.ended.close_is_acknowledged.Goals as goal

pub returns : goal.returns
returns c = record { waited = named_wrong; premises = named_is_honest; machine = named_is_none }
