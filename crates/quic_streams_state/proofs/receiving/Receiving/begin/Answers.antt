use Rattle.std.proofs.Common.{refl, ap, ◌∙◌}
use Rattle.quic_streams_parts.specs.RecvHalf.{RecvHalf, begun}
use Rattle.quic_streams_state.specs.Parts.{Receiving}
use Rattle.quic_streams_halves.specs.Halves.{Halves}
use Rattle.quic_streams_state.proofs.Arriving.{changed_same, begun_in_order}
use Rattle.quic_streams_state.proofs.receiving.Receiving.begin.Goals as goal

pub invariant_of-self : goal.invariant_of-self
invariant_of-self c =
    let r : Receiving = record { halves = c.self.inside.recv; gone = c.self.inside.gone; window = c.self.inside.receive_window; announced = c.self.inside.sent_max_data; stream_window = c.self.inside.stream_receive_window } in
    changed_same (λ h. begun h c.args.ordered) r c.args.id c.begin.new.self c.self.invariant (λ h. refl) c.begin.ensures.new

pub returns-clause-same : goal.returns-clause-same
returns-clause-same c = λ e.
    let r : Receiving = record { halves = c.self.inside.recv; gone = c.self.inside.gone; window = c.self.inside.receive_window; announced = c.self.inside.sent_max_data; stream_window = c.self.inside.stream_receive_window } in
    ap (λ (hs : Halves RecvHalf). record r { halves = hs }) (c.begin.ensures.new ∙ begun_in_order r.halves c.args.id c.args.ordered e) ∙ c.self.view_is
