use Rattle.std.proofs.Common.{ℕ, ◌<◌}
use Rattle.quic_connection.proofs.Codes.{CodeAt}
use Rattle.quic_connection.proofs.running.show_codes.Given as goal

abbrev pub invariant-loop-one : goal.invariant-loop-one
invariant-loop-one l = (k : ℕ) → k < l.one-index → CodeAt l.events k
