use Rattle.quic_worked.proofs.AnsweringRuns.{ids_show, ids_honest, ids_is_none}
use Rattle.quic_worked.proofs.answering.ids_for_close_show.Goals as goal

pub returns : goal.returns
returns c = record { alone = ids_show; premises = ids_honest; machine = ids_is_none }
