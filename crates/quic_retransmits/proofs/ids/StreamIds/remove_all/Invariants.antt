use Rattle.std.proofs.Common.{◌≡◌, vec_len}
use Rattle.quic_retransmits.specs.Retransmits.{without_ids}
use Rattle.quic_retransmits.proofs.ids.StreamIds.remove_all.Given as goal

abbrev pub invariant-loop-id : goal.invariant-loop-id
invariant-loop-id l = without_ids l.ids.items l.self ≡ without_ids l.initial.ids.items l.initial.self

abbrev pub decreases-loop-id : goal.decreases-loop-id
decreases-loop-id l = vec_len l.ids
