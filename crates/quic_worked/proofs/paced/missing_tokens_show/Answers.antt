use Rattle.quic_worked.proofs.PacedRun.{unfilled_names, unfilled_paces, unfilled_is_none}
use Rattle.quic_worked.proofs.paced.missing_tokens_show.Goals as goal

pub returns : goal.returns
returns c = record { names_none = unfilled_names; clause = unfilled_paces; machine = unfilled_is_none }
