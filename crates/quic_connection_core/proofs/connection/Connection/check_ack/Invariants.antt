use Rattle.std.proofs.Common.{◌≡◌}
use Rattle.std.specs.List.{list_any}
use Rattle.quic_spaces.specs.Filter.{names_skipped}
use Rattle.quic_connection_core.proofs.connection.Connection.check_ack.Given as goal

abbrev pub invariant-loop-range : goal.invariant-loop-range
invariant-loop-range g l = list_any (λ r. names_skipped l.self.end.filter.last r.0 r.1) l.range-iterator ≡ list_any (λ r. names_skipped l.self.end.filter.last r.0 r.1) l.frame.ranges
