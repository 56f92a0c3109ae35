use Rattle.quic_worked.proofs.PacedRun.{hurried_paces, hurried_never}
use Rattle.quic_worked.proofs.paced.hurried_tokens_show.Goals as goal

pub returns : goal.returns
returns c = record { clause = hurried_paces; machine = hurried_never }
