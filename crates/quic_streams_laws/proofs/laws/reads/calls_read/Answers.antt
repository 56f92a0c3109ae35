use Rattle.quic_streams_laws.specs.ContentLaws.{read_begun, read_next, read_stop, read_received_reset}
use Rattle.quic_streams_laws.proofs.laws.reads.calls_read.Goals as goal

pub returns-clause-begun : goal.returns-clause-begun
returns-clause-begun c = λ wrote read s id ordered i. read_begun wrote read s id ordered i

pub returns-clause-next : goal.returns-clause-next
returns-clause-next c = λ wrote read told s id most answer e i. read_next wrote read told s id most answer e i

pub returns-clause-finalize : goal.returns-clause-finalize
returns-clause-finalize c = λ wrote read s p id i. i

pub returns-clause-stop : goal.returns-clause-stop
returns-clause-stop c = λ wrote read s p id code i. read_stop wrote read s p id code i

pub returns-clause-received_reset : goal.returns-clause-received_reset
returns-clause-received_reset c = λ wrote read s p id i. read_received_reset wrote read s p id i
