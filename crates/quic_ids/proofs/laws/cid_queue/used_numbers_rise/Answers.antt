use Rattle.quic_ids.proofs.PeerIdLaws.{insert_rises, next_rises}
use Rattle.quic_ids.proofs.laws.cid_queue.used_numbers_rise.Goals as goal

pub returns-clause-inserted : goal.returns-clause-inserted
returns-clause-inserted c = λ ids frame le w. insert_rises ids frame le w

pub returns-clause-next : goal.returns-clause-next
returns-clause-next c = λ ids w. next_rises ids w
