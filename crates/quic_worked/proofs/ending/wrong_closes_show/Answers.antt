use Rattle.quic_worked.proofs.EndingMachines.{code_not, text_not, code_is_honest, text_is_honest, never_code, never_text}
use Rattle.quic_worked.proofs.ending.wrong_closes_show.Goals as goal

pub returns : goal.returns
returns c = record { code = code_not; text = text_not; code_premises = code_is_honest; text_premises = text_is_honest; machine_code = never_code; machine_text = never_text }
