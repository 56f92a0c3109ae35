use Rattle.std.proofs.Common.{◌≡◌, take, drop, ◌++◌}
use Rattle.quic_keys.specs.Plain.{xored}
use Rattle.quic_keys.proofs.key.xor_into.Given as goal

abbrev pub invariant-loop-i : goal.invariant-loop-i
invariant-loop-i l = xored l.fn.bytes l.mask ≡ take l.i l.bytes ++ xored (drop l.i l.bytes) (drop l.i l.mask)
