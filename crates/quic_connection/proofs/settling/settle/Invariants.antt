use Rattle.std.proofs.Common.{◌≤◌, false}
use Rattle.quic_wire_core.specs.declared.stream_id.Side.TheVariants.{Client}
use Rattle.quic_machine.specs.Machine.{Policies}
use Rattle.quic_connection_parts.specs.Telling.{windows_of}
use Rattle.quic_connection.specs.Ends.{world_of, AreOf, GoOn}
use Rattle.quic_connection.specs.Settled.{Talks, asks, most_polls}
use Rattle.quic_connection.proofs.settling.settle.Given as goal

abbrev pub invariant-loop-ends : goal.invariant-loop-ends
invariant-loop-ends g l = record {
  talks : (k : Policies) → AreOf k g.H.HeaderKey.protection g.K.PacketKey.aead g.K.PacketKey.seal_limit g.K.PacketKey.refusal_limit g.R.Rng.stream l.fn.ends
      → Talks k l.fn.now l.moment (asks Client false) (asks Client false) most_polls l.left (world_of (windows_of g.C.Controller.steps g.C.Controller.window_of) l.fn.ends l.fn.given) (world_of (windows_of g.C.Controller.steps g.C.Controller.window_of) l.ends l.given);
  goes_on : GoOn g.R.Rng.stream l.fn.ends l.ends;
  later : l.fn.now ≤ l.moment;
}

abbrev pub decreases-loop-ends : goal.decreases-loop-ends
decreases-loop-ends g l = l.left
