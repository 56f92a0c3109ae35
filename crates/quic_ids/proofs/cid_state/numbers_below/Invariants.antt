use Rattle.std.proofs.Common.{◌≡◌}
use Rattle.quic_ids.specs.CidState.{below}
use Rattle.quic_ids.proofs.cid_state.numbers_below.Given as goal

abbrev pub invariant-loop-n : goal.invariant-loop-n
invariant-loop-n l = l.numbers.keys ≡ below l.n
