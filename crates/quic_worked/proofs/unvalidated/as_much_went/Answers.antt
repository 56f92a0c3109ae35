use Rattle.quic_worked.proofs.UnvalidatedRun.{near_is_honest, near_is_run, near_not_validated, near_was_given, near_was_handed}
use Rattle.quic_worked.proofs.unvalidated.as_much_went.Goals as goal

pub returns : goal.returns
returns c = record { honest = near_is_honest; run = near_is_run; validated = near_not_validated; given = near_was_given; handed = near_was_handed }
