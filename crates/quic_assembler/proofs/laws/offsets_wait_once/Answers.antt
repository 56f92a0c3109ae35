use Rattle.quic_assembler.proofs.Arrived.Claims.{waits_above, count_once}
use Rattle.quic_assembler.proofs.Arrived.Lawful.{given_waits_not}
use Rattle.quic_assembler.proofs.laws.offsets_wait_once.Goals as goal

pub returns-clause-given : goal.returns-clause-given
returns-clause-given c = given_waits_not

pub returns-clause-above : goal.returns-clause-above
returns-clause-above c = λ a o h w. waits_above a.read o a.parts h.apart w

pub returns-clause-once : goal.returns-clause-once
returns-clause-once c = λ a o h. count_once a.read o a.parts h.apart
