use Rattle.std.proofs.Common.{rules, ◌≡◌, ◌<◌, ◌||◌, ◌&&◌, ℕ, suc, Bool, List, ◌∷◌, length, Ok, Err, refl, sym, ap, ◌∙◌, arith}
use Rattle.quic_wire.specs.Value.{stream, datagram}
use Rattle.quic_wire.specs.Items.{items, without_padding}
use Rattle.quic_wire.specs.FrameView.{item_view, stream_view}
use Rattle.quic_congestion.specs.Congestion.{after_calls}
use Rattle.quic_spaces.specs.Marks.{is_congested}
use Rattle.quic_machine.specs.Migration.{item_at, items_at}
use Rattle.quic_machine.specs.Receive.{take_items, told_items, item_asks, asks_in, is_urged}
use Rattle.quic_connection_core.proofs.Forms.{all_have_form}
use Rattle.quic_connection_core.proofs.Items.{first_at, same_first, nothing_at, answers_at, taken_step, taken_stop, told_step, told_stop, asks_step, asks_last, urged_step, urged_last, asking_asks, asking_urges, form_behind, takes_unpadded, told_unpadded, asks_unpadded, urged_unpadded, form_unpadded}
use Rattle.quic_connection_parts.proofs.Told.{keys_step}
use Rattle.quic_connection_core.proofs.connection.Connection.take_frames_at.Goals as goal

pub loop-frame-init : goal.loop-frame-init
loop-frame-init g c =
    let e = c.args.self.now.end in
    let here = c.args.here in
    let is = items c.args.payload.now in
    let same : c.new-frames.result ≡ c.args.payload.now = c.new-frames.ensures in
    record {
      takes = ap (λ (bytes : List ℕ). take_items (items_at here (without_padding (items bytes))) e) same ∙ takes_unpadded here is e;
      told = ap (λ (bytes : List ℕ). after_calls g.C.Controller.steps c.args.self.now.control (told_items (items_at here (without_padding (items bytes))) e)) same ∙ ap (after_calls g.C.Controller.steps c.args.self.now.control) (told_unpadded here is e);
      asks = ap (λ (bytes : List ℕ). asks_in (without_padding (items bytes))) same ∙ asks_unpadded is;
      urged = ap (λ (bytes : List ℕ). is_urged c.args.ecn (asks_in (without_padding (items bytes))) (items_at here (without_padding (items bytes))) e) same ∙ urged_unpadded c.args.ecn here is e;
      form = form_unpadded (items c.new-frames.result) (all_have_form c.new-frames.result);
      others = refl;
    }
