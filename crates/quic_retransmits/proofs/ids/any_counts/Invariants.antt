use Rattle.std.proofs.Common.{◌≡◌}
use Rattle.std.specs.List.{list_any}
use Rattle.quic_retransmits.specs.Retransmits.{AreIds}
use Rattle.quic_retransmits.proofs.ids.any_counts.Given as goal

abbrev pub invariant-loop-id : goal.invariant-loop-id
invariant-loop-id g l = record {
  left : list_any (λ id. g.S.LimitQueries.gate_on l.streams l.kind id) l.id-iterator ≡ list_any (λ id. g.S.LimitQueries.gate_on l.streams l.kind id) l.ids.keys;
  ids : AreIds l.id-iterator;
}
