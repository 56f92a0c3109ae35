use Rattle.quic_congestion.proofs.Histories.{next_call, calls_in_parts}
use Rattle.quic_congestion.proofs.laws.congestion.histories_are_folded.Goals as goal

pub returns-clause-next : goal.returns-clause-next
returns-clause-next g c = λ steps d calls call. next_call steps d calls call

pub returns-clause-parts : goal.returns-clause-parts
returns-clause-parts g c = λ steps d before later. calls_in_parts steps d before later
