use Rattle.quic_worked.proofs.RenamedRuns.{two_blames, two_close, two_is_honest, two_is_none}
use Rattle.quic_worked.proofs.renamed.two_ids_are_issued.Goals as goal

pub returns : goal.returns
returns c = record { blame = two_blames; closes = two_close; premises = two_is_honest; machine = two_is_none }
