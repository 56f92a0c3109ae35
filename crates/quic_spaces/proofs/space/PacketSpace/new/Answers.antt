use Rattle.quic_spaces.proofs.MarkLaws.{new_same}
use Rattle.quic_spaces.proofs.space.PacketSpace.new.Goals as goal

pub returns : goal.returns
returns c = new_same c.args.now _ _ _ _ _ c.new.ensures c.new-2.ensures c.new-3.ensures
