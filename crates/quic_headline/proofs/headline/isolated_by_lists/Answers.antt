use Rattle.quic_headline.proofs.Isolated.Lists.{isolated_by_lists}
use Rattle.quic_headline.proofs.headline.isolated_by_lists.Goals as goal

pub returns : goal.returns
returns c = isolated_by_lists
