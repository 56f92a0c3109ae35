use Rattle.quic_spaces.proofs.PersistentLaws.{finds_persistent}
use Rattle.quic_spaces.proofs.laws.persistent_congestion_is_found.Goals as goal

pub returns : goal.returns
returns c = finds_persistent
