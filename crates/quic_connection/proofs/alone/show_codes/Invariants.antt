use Rattle.std.proofs.Common.{ℕ, ◌<◌}
use Rattle.quic_connection.proofs.Codes.{CallAt}
use Rattle.quic_connection.proofs.alone.show_codes.Given as goal

abbrev pub invariant-loop-one : goal.invariant-loop-one
invariant-loop-one l = (k : ℕ) → k < l.one-index → CallAt l.calls k
