use Rattle.quic_streams_parts.proofs.Ordered.{split_ordered}
use Rattle.quic_streams_parts.proofs.by_number.ByNumber.are_ordered.Goals as goal

pub returns : goal.returns
returns g c = rw (← c.self.view_is) (split_ordered c.self.inside.earlier.entries c.self.inside.ring c.self.invariant)
