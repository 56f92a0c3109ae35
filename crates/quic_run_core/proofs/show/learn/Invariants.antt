use Rattle.std.proofs.Common.{◌-◌, vec_len}
use Rattle.quic_run_core.specs.Shown.{AreNumbers}
use Rattle.quic_run_core.proofs.show.learn.Given as goal

-- the numbers so far are those of the first datagrams
abbrev pub invariant-loop-alloc : goal.invariant-loop-alloc
invariant-loop-alloc l = AreNumbers l.side l.given l.numbers.items

abbrev pub decreases-loop-alloc : goal.decreases-loop-alloc
decreases-loop-alloc l = l.count - vec_len l.numbers
