use Rattle.quic_worked.proofs.UnvalidatedRun.{far_is_honest, far_is_run, not_validated, was_given, was_handed}
use Rattle.quic_worked.proofs.unvalidated.much_came.Goals as goal

pub returns : goal.returns
returns c = record { honest = far_is_honest; run = far_is_run; validated = not_validated; given = was_given; handed = was_handed }
