use Rattle.std.proofs.Common.{◌+◌, arith}
use Rattle.quic_ids.specs.CidQueue.{kept_ids}
use Rattle.quic_ids.proofs.PeerIdLaws.{few, insert_window, next_window}
use Rattle.quic_ids.proofs.laws.cid_queue.ids_are_a_window.Goals as goal

pub returns-clause-few : goal.returns-clause-few
returns-clause-few c = λ ids w. let n = few ids.later (ids.active + 1) (ids.active + kept_ids) w in omega arith

pub returns-clause-inserted : goal.returns-clause-inserted
returns-clause-inserted c = λ ids frame le w. insert_window ids frame le w

pub returns-clause-next : goal.returns-clause-next
returns-clause-next c = λ ids w. next_window ids w
