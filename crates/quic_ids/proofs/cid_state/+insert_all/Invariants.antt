use Rattle.std.proofs.Common.{length}
use Rattle.quic_ids.proofs.cid_state.+insert_all.Given as goal

abbrev pub decreases-insert_all : goal.decreases-insert_all
decreases-insert_all l = length l.ids.now
