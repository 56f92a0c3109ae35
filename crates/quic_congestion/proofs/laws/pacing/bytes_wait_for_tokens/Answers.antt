use Rattle.quic_congestion.proofs.PacerLaws.{waits, later}
use Rattle.quic_congestion.proofs.laws.pacing.bytes_wait_for_tokens.Goals as goal

pub returns-clause-waits : goal.returns-clause-waits
returns-clause-waits c = waits

pub returns-clause-later : goal.returns-clause-later
returns-clause-later c = later
