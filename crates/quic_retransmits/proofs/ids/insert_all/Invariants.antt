use Rattle.std.proofs.Common.{◌≡◌}
use Rattle.quic_retransmits.specs.Retransmits.{with_ids, without_ids}
use Rattle.quic_retransmits.proofs.ids.insert_all.Given as goal

abbrev pub invariant-loop-id : goal.invariant-loop-id
invariant-loop-id l = record {
  put : with_ids l.id-iterator l.ids.keys ≡ with_ids l.more.keys l.initial.ids.keys;
  back : without_ids l.added.items l.ids.keys ≡ l.initial.ids.keys;
}
