use Rattle.quic_ids.proofs.PeerIdLaws.{insert_knows, next_knows}
use Rattle.quic_ids.proofs.laws.cid_queue.known_ids_stay_known.Goals as goal

pub returns-clause-inserted : goal.returns-clause-inserted
returns-clause-inserted c = λ ids frame n le w low near. insert_knows ids frame n le w low near

pub returns-clause-next : goal.returns-clause-next
returns-clause-next c = λ ids n w. next_knows ids n w
