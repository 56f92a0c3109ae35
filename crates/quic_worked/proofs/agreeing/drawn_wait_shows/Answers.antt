use Rattle.quic_worked.proofs.AgreeingRuns.{drawn_differs, drawn_is_honest, no_drawn}
use Rattle.quic_worked.proofs.agreeing.drawn_wait_shows.Goals as goal

pub returns : goal.returns
returns c = record { agree = drawn_differs; premises = drawn_is_honest; machine = no_drawn }
