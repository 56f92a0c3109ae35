use Rattle.std.proofs.Common.{◌≡◌, vec_len}
use Rattle.quic_retransmits.specs.Retransmits.{without_ids}
use Rattle.quic_retransmits.proofs.ids.remove_all.Given as goal

abbrev pub invariant-loop-id : goal.invariant-loop-id
invariant-loop-id l = without_ids l.added.items l.ids.keys ≡ without_ids l.initial.added.items l.initial.ids.keys

abbrev pub decreases-loop-id : goal.decreases-loop-id
decreases-loop-id l = vec_len l.added
