use Rattle.std.proofs.Common.{◌≡◌, drop}
use Rattle.quic_ids.specs.CidQueue.{known_in, least_from}
use Rattle.quic_ids.proofs.cid_queue.first_from.Given as goal

abbrev pub invariant-loop-slot : goal.invariant-loop-slot
invariant-loop-slot l = least_from l.least (known_in (drop l.slot-index l.slots)) ≡ least_from l.least (known_in l.slots)
