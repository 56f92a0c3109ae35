use Rattle.std.proofs.Common.{◌≤◌, Bool}
use Rattle.std.specs.Prelude.{◌||◌}
use Rattle.quic_machine.specs.Machine.{Policies}
use Rattle.quic_connection_parts.specs.Telling.{windows_of}
use Rattle.quic_connection.specs.Ends.{world_of, AreOf, GoOn}
use Rattle.quic_connection.specs.Settled.{Talks, asks}
use Rattle.quic_connection.proofs.settling.poll_all.Given as goal

abbrev pub invariant-loop-left : goal.invariant-loop-left
invariant-loop-left g l = record {
  talks : (before : Bool) (k : Policies) → AreOf k g.H.HeaderKey.protection g.K.PacketKey.aead g.K.PacketKey.seal_limit g.K.PacketKey.refusal_limit g.R.Rng.stream l.fn.ends
      → Talks k l.now l.now (asks l.side before) (asks l.side (before || l.gave)) l.fn.left l.left (world_of (windows_of g.C.Controller.steps g.C.Controller.window_of) l.fn.ends l.fn.given) (world_of (windows_of g.C.Controller.steps g.C.Controller.window_of) l.ends l.given);
  goes_on : GoOn g.R.Rng.stream l.fn.ends l.ends;
  fewer : l.left ≤ l.fn.left;
}

abbrev pub decreases-loop-left : goal.decreases-loop-left
decreases-loop-left g l = l.left
