use Rattle.std.proofs.Common.{◌∙◌}
use Rattle.quic_assembler.proofs.Arrived.Bytes.{next_waits}
use Rattle.quic_assembler.proofs.Arrived.Claims.{given_next}
use Rattle.quic_assembler.proofs.Arrived.Lawful.{first_least, given_bytes}
use Rattle.quic_assembler.proofs.laws.reads_give_what_waits.Goals as goal

pub returns-clause-ordered : goal.returns-clause-ordered
returns-clause-ordered c = λ a most h. given_next a.parts a.read most ∙ next_waits a.read a.parts h.apart

pub returns-clause-least : goal.returns-clause-least
returns-clause-least c = λ a most o h. first_least a.read most o a.parts h.apart

pub returns-clause-bytes : goal.returns-clause-bytes
returns-clause-bytes c = given_bytes
