use Rattle.quic_worked.proofs.PacedRun.{gives_no}
use Rattle.quic_worked.proofs.paced.token_is_never_asked_for.Goals as goal

pub returns : goal.returns
returns c = gives_no
