use Rattle.std.proofs.Common.{refl}
use Rattle.quic_streams_state.specs.Parts.{Receiving}
use Rattle.quic_streams_state.proofs.Arriving.{changed_same}
use Rattle.quic_streams_state.proofs.receiving.Receiving.tell_max_stream_data.Goals as goal

pub invariant_of-self : goal.invariant_of-self
invariant_of-self c =
    let r : Receiving = record { halves = c.self.inside.recv; gone = c.self.inside.gone; window = c.self.inside.receive_window; announced = c.self.inside.sent_max_data; stream_window = c.self.inside.stream_receive_window } in
    changed_same (λ h. record h { announced = c.max_stream_data-max_data.result }) r c.args.id c.set_max_data.new.self c.self.invariant (λ h. refl) c.set_max_data.ensures
