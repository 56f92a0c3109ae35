use Rattle.quic_worked.proofs.WritableRun.{writable_untold_shows, writable_untold_is_honest, no_writable_untold}
use Rattle.quic_worked.proofs.writable.writable_is_not_told.Goals as goal

pub returns : goal.returns
returns c = record { told = writable_untold_shows; premises = writable_untold_is_honest; machine = no_writable_untold }
