use Rattle.quic_worked.proofs.CodedRuns.{code_not, size_not, code_is_honest, size_is_honest, never_code, never_size}
use Rattle.quic_worked.proofs.coded.wrong_resets_show.Goals as goal

pub returns : goal.returns
returns c = record { code = code_not; size = size_not; code_premises = code_is_honest; size_premises = size_is_honest; code_machine = never_code; size_machine = never_size }
