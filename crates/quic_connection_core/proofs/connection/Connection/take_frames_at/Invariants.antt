use Rattle.std.proofs.Common.{◌≡◌, ◌||◌, length}
use Rattle.quic_wire.specs.Items.{items, without_padding}
use Rattle.quic_congestion.specs.Congestion.{after_calls}
use Rattle.quic_machine.specs.Migration.{items_at}
use Rattle.quic_machine.specs.Receive.{take_items, told_items, asks_in, is_urged}
use Rattle.quic_connection_parts.specs.Faults.{AllHaveForm}
use Rattle.quic_connection_parts.specs.Telling.{KeepsRest}
use Rattle.quic_connection_core.proofs.connection.Connection.take_frames_at.Given as goal

abbrev pub invariant-loop-frame : goal.invariant-loop-frame
invariant-loop-frame g l = record {
  takes : take_items (items_at l.here (without_padding (items l.frames))) l.self.end ≡ take_items (items_at l.here (items l.payload)) l.initial.self.end;
  told : after_calls g.C.Controller.steps l.self.control (told_items (items_at l.here (without_padding (items l.frames))) l.self.end) ≡ after_calls g.C.Controller.steps l.initial.self.control (told_items (items_at l.here (items l.payload)) l.initial.self.end);
  asks : (l.demand.asks || asks_in (without_padding (items l.frames))) ≡ asks_in (items l.payload);
  urged : (l.demand.urged || is_urged l.ecn (asks_in (without_padding (items l.frames))) (items_at l.here (without_padding (items l.frames))) l.self.end) ≡ is_urged l.ecn (asks_in (items l.payload)) (items_at l.here (items l.payload)) l.initial.self.end;
  form : AllHaveForm (without_padding (items l.frames));
  others : KeepsRest l.initial.self l.self;
}

abbrev pub decreases-loop-frame : goal.decreases-loop-frame
decreases-loop-frame g l = length (without_padding (items l.frames))
