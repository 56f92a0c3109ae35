use Rattle.std.proofs.Common.{◌∙◌}
use Rattle.quic_streams_parts.proofs.Joined.{added_last}
use Rattle.quic_streams_parts.proofs.ring.keep.Goals as goal

pub returns-in-Ok-clause-ok : goal.returns-in-Ok-clause-ok
returns-in-Ok-clause-ok g c = rw c.in-Some.is (c.in-Ok.ensures.entries ∙ added_last c.args.number c.args.earlier.now.entries c.in-Some.value c.requires)
