use Rattle.quic_sets.proofs.Offsets.Latest.{none_latest}
use Rattle.quic_sets.proofs.index_set.IndexSet.new.Goals as goal

pub returns : goal.returns
returns c = rw c.new.ensures none_latest
