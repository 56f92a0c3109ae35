use Rattle.std.proofs.Common.{rules, refl, ap}
use Rattle.quic_wire.specs.FrameView.{frame_view}
use Rattle.quic_connection_parts.specs.Faults.{IsOther}
use Rattle.quic_connection_core.proofs.Items.{tells_none, tells_nothing}
use Rattle.quic_connection_core.proofs.connection.Connection.take_frame.Goals as goal

pub returns-in_default : goal.returns-in_default
returns-in_default g c =
    let other : IsOther (frame_view c.args.frame.now) = search rules in
    record {
      takes = rw (← c.self-in_default.view_is) (rw (← c.self-in_default.view_is) at (c.take_other.ensures c.args.self.now.end));
      told = tells_nothing c.take_other.result g.C.Controller.steps c.args.self.now _ _ (tells_none (frame_view c.args.frame.now) c.args.self.now.end other) (ap (λ w. w.control) c.self-in_default.view_is);
      others = rw (← c.self-in_default.view_is) refl;
    }
