use Rattle.quic_worked.proofs.DrawnRun.{drawing_is_honest, drawing_is_run, eighth_went, eighth_drawn, drawing_keeps}
use Rattle.quic_worked.proofs.drawn.next_id_is_drawn.Goals as goal

pub returns : goal.returns
returns c = record { honest = drawing_is_honest; run = drawing_is_run; sent = eighth_went; drawn = eighth_drawn; keeps = drawing_keeps }
